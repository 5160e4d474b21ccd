-- How a record is kept, with the way that it jumps where it opens a block.
use Rattle.std.specs.Prelude.{ℕ}
use Rattle.std.specs.Int.{w32}
use Rattle.std.proofs.Common.{to_z}
use Rattle.records.specs.declared.Record.{Record}
use Rattle.program.specs.declared.innermost.RecordKind.{RecordKind}
use Rattle.program.specs.declared.innermost.RecordKind.TheVariants.{Set, Sign, Release, Raise, VariableTest, ConditionTest, Loop, Mark}
use Rattle.program.specs.declared.kept.Instruction.{Instruction}
use Rattle.program.specs.declared.kept.Instruction.TheVariants as kept

abbrev pub kept_as : RecordKind → Record → ℕ → Instruction
kept_as Set r way = kept.Set r.a (to_z w32 r.n)
kept_as (Sign s) r way = kept.Combine s r.a r.b r.c
kept_as Release r way = kept.Release r.a r.b r.c
kept_as Raise r way = kept.Raise r.a
kept_as VariableTest r way = kept.IfVariable r.b way
kept_as ConditionTest r way = kept.IfCondition r.a way
kept_as Loop r way = kept.Loop r.b way
kept_as Mark r way = kept.End
