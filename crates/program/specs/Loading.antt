-- What the checker of programs answers for, over every sheet that its masks are of: an accepted program is the one that stands in these
-- bytes, and is kept; a refusal is the first failing rule.
use Rattle.std.specs.Prelude.{◌≡◌, ℕ, ◌/◌, List, length}
use Rattle.lattice.specs.Lattice.{Lattice, Lawful}
use Rattle.records.specs.declared.refusal.Refusal.{Refusal}
use Rattle.records.specs.Rules.{accepted, refused}
use Rattle.sheet.specs.Sheet.{Sheet}
use Rattle.machine.specs.Command.{Command}
use Rattle.flow.specs.declared.masks.FlowMasks.{FlowMasks}
use Rattle.flow.specs.Flows.{MasksOf}
use Rattle.program.specs.declared.kept.Program.{Program}
use Rattle.program.specs.Kept.{Keeps}
use Rattle.program.specs.Rules.{program_in}
use Rattle.program.specs.Acceptance.{UsableSheet}

pub record ProgramRead (m : FlowMasks) (bs : List ℕ) (p : Program) : Type 0 where
  pub command : Command
  pub answer : (C : Lattice) (sh : Sheet) → Lawful C → UsableSheet C sh → MasksOf C sh m → program_in C sh bs ≡ accepted command
  pub keeps : Keeps p command
  pub count : p.count ≡ length bs / 8

pub record ProgramRefused (m : FlowMasks) (bs : List ℕ) (e : Refusal) : Type 0 where
  pub answer : (C : Lattice) (sh : Sheet) → Lawful C → UsableSheet C sh → MasksOf C sh m → program_in C sh bs ≡ refused e
