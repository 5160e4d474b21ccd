-- What the parts of the interpreter owe: one instruction without a block, and a whole run.
use Rattle.std.specs.Prelude.{◌≡◌, ℕ, Some, None, Option}
use Rattle.machine.specs.Command.{Command, skip, set, combine, release, raise}
use Rattle.machine.specs.Memory.{Memory}
use Rattle.machine.specs.Run.{Outcome, done, spent}
use Rattle.program.specs.Kept.{sign_of}
use Rattle.program.specs.declared.kept.Instruction.{Instruction}
use Rattle.program.specs.declared.kept.Instruction.TheVariants.{Set, Combine, Release, Raise}

-- the command of an instruction; one of a block says nothing by itself
abbrev pub plain : Instruction → Command
plain (Set a x) = set a x
plain (Combine s a b c) = combine (sign_of s) a b c
plain (Release a b p) = release a b p
plain (Raise c) = raise c
plain _ = skip

abbrev pub memory_after : Outcome → Memory
memory_after (done left m l) = m
memory_after (spent m l) = m

-- the turns left over, none if the pass is spent, and the memory then, are the machine's
abbrev pub Ends : Option ℕ → Memory → Outcome → Type 0
Ends r now (done left m l) = (r ≡ Some left) × (now ≡ m)
Ends r now (spent m l) = (r ≡ None) × (now ≡ m)
