-- Which programs are valid on a sheet, and the form in which they are kept.
use Rattle.std.specs.Prelude.{ℕ, ◌+◌, ◌≤◌, length, FitsSigned}
use Rattle.std.specs.Int.{w32}
use Rattle.lattice.specs.Lattice.{Lattice}
use Rattle.sheet.specs.Sheet.{Sheet}
use Rattle.machine.specs.Command.{Command, skip, ◌⨾◌, set, combine, release, raise, if_variable, if_condition, while}
use Rattle.machine.specs.Typing.{outermost, WellTyped}
use Rattle.program.specs.Written.{written}

-- no test or loop is deeper than 8, where those outermost stand at this depth
abbrev pub Nested : ℕ → Command → Type 0
Nested depth skip = Unit {0}
Nested depth (c ⨾ d) = Nested depth c × Nested depth d
Nested depth (set a x) = Unit {0}
Nested depth (combine s a b c) = Unit {0}
Nested depth (release a b p) = Unit {0}
Nested depth (raise c) = Unit {0}
Nested depth (if_variable b c d) = (depth ≤ 8) × Nested (depth + 1) c × Nested (depth + 1) d
Nested depth (if_condition a c d) = (depth ≤ 8) × Nested (depth + 1) c × Nested (depth + 1) d
Nested depth (while b c) = (depth ≤ 8) × Nested (depth + 1) c

-- the numbers that are set have 32 bits
abbrev pub NumbersFit : Command → Type 0
NumbersFit skip = Unit {0}
NumbersFit (c ⨾ d) = NumbersFit c × NumbersFit d
NumbersFit (set a x) = FitsSigned w32 x
NumbersFit (combine s a b c) = Unit {0}
NumbersFit (release a b p) = Unit {0}
NumbersFit (raise c) = Unit {0}
NumbersFit (if_variable b c d) = NumbersFit c × NumbersFit d
NumbersFit (if_condition a c d) = NumbersFit c × NumbersFit d
NumbersFit (while b c) = NumbersFit c

pub record Valid (C : Lattice) (sh : Sheet) (c : Command) : Type 0 where
  pub typed : WellTyped C sh outermost c
  pub nested : Nested 1 c
  pub numbers : NumbersFit c
  pub size : length (written c) ≤ 256

-- the commands one by one, those of a block before what follows it
unfoldable pub before : Command → Command → Command
before skip rest = rest
before (c ⨾ d) rest = before c (before d rest)
before (set a x) rest = set a x ⨾ rest
before (combine s a b c) rest = combine s a b c ⨾ rest
before (release a b p) rest = release a b p ⨾ rest
before (raise c) rest = raise c ⨾ rest
before (if_variable b c d) rest = if_variable b (before c skip) (before d skip) ⨾ rest
before (if_condition a c d) rest = if_condition a (before c skip) (before d skip) ⨾ rest
before (while b c) rest = while b (before c skip) ⨾ rest

-- the form that a reader gives: every block is its commands one after another, ended by `skip`
abbrev pub normal : Command → Command
normal c = before c skip
