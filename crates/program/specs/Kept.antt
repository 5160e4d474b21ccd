-- An accepted program as it is kept, so that the interpreter jumps in one step: I and Q have the way to their J, J and W the way
-- to their K, and the K of a loop has the way back and the loop's variable.
use Rattle.std.specs.Prelude.{◌≡◌, ℕ, ◌+◌, ◌<◌, List, [], ◌∷◌, ◌++◌, take}
use Rattle.machine.specs.Command.{Sign, plus, minus, times, less, equal, Command, skip, ◌⨾◌, set, combine, release, raise, if_variable, if_condition, while}
use Rattle.program.specs.declared.kept.Sign.{Sign as KeptSign}
use Rattle.program.specs.declared.kept.Sign.TheVariants.{Plus, Minus, Times, Less, Equal}
use Rattle.program.specs.declared.kept.Instruction.{Instruction}
use Rattle.program.specs.declared.kept.Instruction.TheVariants.{Set, Combine, Release, Raise, IfVariable, IfCondition, Jump, End, Loop, Again}
use Rattle.program.specs.declared.kept.Program.{Program}

abbrev pub sign_of : KeptSign → Sign
sign_of Plus = plus
sign_of Minus = minus
sign_of Times = times
sign_of Less = less
sign_of Equal = equal

abbrev pub kept_sign : Sign → KeptSign
kept_sign plus = Plus
kept_sign minus = Minus
kept_sign times = Times
kept_sign less = Less
kept_sign equal = Equal

-- what stands where no record is kept
abbrev pub blank : Instruction
blank = End

-- how many records a command writes
abbrev pub size : Command → ℕ
size skip = 0
size (c ⨾ d) = size c + size d
size (set a x) = 1
size (combine s a b c) = 1
size (release a b p) = 1
size (raise c) = 1
size (if_variable b c d) = size c + size d + 3
size (if_condition a c d) = size c + size d + 3
size (while b c) = size c + 2

abbrev pub linked : Command → List Instruction
linked skip = []
linked (c ⨾ d) = linked c ++ linked d
linked (set a x) = Set a x ∷ []
linked (combine s a b c) = Combine (kept_sign s) a b c ∷ []
linked (release a b p) = Release a b p ∷ []
linked (raise c) = Raise c ∷ []
linked (if_variable b c d) = IfVariable b (size c + 1) ∷ (linked c ++ (Jump (size d + 1) ∷ (linked d ++ (End ∷ []))))
linked (if_condition a c d) = IfCondition a (size c + 1) ∷ (linked c ++ (Jump (size d + 1) ∷ (linked d ++ (End ∷ []))))
linked (while b c) = Loop b (size c + 1) ∷ (linked c ++ (Again b (size c + 1) ∷ []))

-- the variables written and the conditions raised have a place in the tables
abbrev pub Placed : Command → Type 0
Placed skip = Unit {0}
Placed (c ⨾ d) = Placed c × Placed d
Placed (set a x) = a < 64
Placed (combine s a b c) = a < 64
Placed (release a b p) = a < 64
Placed (raise c) = c < 16
Placed (if_variable b c d) = Placed c × Placed d
Placed (if_condition a c d) = Placed c × Placed d
Placed (while b c) = Placed c

-- the program kept is this command
pub record Keeps (p : Program) (c : Command) : Type 0 where
  pub instructions : take p.count p.instructions ≡ linked c
  pub placed : Placed c
