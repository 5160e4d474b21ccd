-- Contexts as masks, with one more variable or more conditions, and inside the blocks that a record opens.
use Rattle.std.specs.Prelude.{ℕ, ◌*◌, ◌%◌, ◌^◌, bit_or}
use Rattle.records.specs.declared.Record.{Record}
use Rattle.program.specs.declared.context.Context.{Context}
use Rattle.program.specs.declared.innermost.RecordKind.{RecordKind}
use Rattle.program.specs.declared.innermost.RecordKind.TheVariants.{Set, Sign, Release, Raise, VariableTest, ConditionTest, Loop, Mark}

abbrev pub under_none : Context
under_none = record { variables = 0; conditions = 0 }

abbrev pub with_variable : ℕ → Context → Context
with_variable v pc = record { variables = bit_or pc.variables ((1 * 2 ^ v) % 2 ^ 64); conditions = pc.conditions }

abbrev pub with_conditions : ℕ → Context → Context
with_conditions mask pc = record { variables = pc.variables; conditions = bit_or pc.conditions mask }

abbrev pub inside_of : RecordKind → Record → Context → Context
inside_of VariableTest r pc = with_variable r.b pc
inside_of ConditionTest r pc = with_conditions ((1 * 2 ^ r.a) % 2 ^ 16) pc
inside_of Loop r pc = with_variable r.b pc
inside_of Set r pc = pc
inside_of (Sign s) r pc = pc
inside_of Release r pc = pc
inside_of Raise r pc = pc
inside_of Mark r pc = pc
