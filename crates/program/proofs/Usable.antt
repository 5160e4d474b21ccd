-- A valid sheet is usable. Assumes nothing.
use Rattle.lattice.specs.Lattice.{Lattice}
use Rattle.sheet.specs.Sheet.{Sheet}
use Rattle.sheet.specs.Valid.{Valid}
use Rattle.machine.proofs.Sheets.{valid_sound}
use Rattle.program.specs.Acceptance.{UsableSheet}

pub valid_usable : (C : Lattice) (sh : Sheet) → Valid C sh → UsableSheet C sh
valid_usable C sh V = record { sound = valid_sound C sh V; conditions = V.counts.0; variables = V.counts.1; permits = V.counts.2 }
