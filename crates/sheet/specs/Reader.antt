-- What the reader of sheets answers for: an accepted sheet is the valid one that these bytes write, and the table
-- represents it; a refusal is the first failing rule, and no valid sheet writes these bytes.
use Rattle.std.specs.Prelude.{◌≡◌, ℕ, List, ◌≢◌}
use Rattle.lattice.specs.Lattice.{Lattice}
use Rattle.records.specs.declared.refusal.Refusal.{Refusal}
use Rattle.records.specs.Records.{bytes}
use Rattle.records.specs.Rules.{accepted, refused}
use Rattle.sheet.specs.declared.rows.SheetTable.{SheetTable}
use Rattle.sheet.specs.Sheet.{Sheet}
use Rattle.sheet.specs.Written.{written}
use Rattle.sheet.specs.Valid.{Valid}
use Rattle.sheet.specs.Rules.{sheet_in}
use Rattle.sheet.specs.Table.{Represents}

pub record SheetRead (C : Lattice) (bs : List ℕ) (t : SheetTable) : Type 0 where
  pub sheet : Sheet
  pub answer : sheet_in C bs ≡ accepted sheet
  pub valid : Valid C sheet
  pub writes : bs ≡ bytes (written sheet)
  pub unique : (sh : Sheet) → Valid C sh → bs ≡ bytes (written sh) → sh ≡ sheet
  pub represents : Represents t sheet

pub record SheetRefused (C : Lattice) (bs : List ℕ) (e : Refusal) : Type 0 where
  pub answer : sheet_in C bs ≡ refused e
  pub invalid : (sh : Sheet) → Valid C sh → bs ≢ bytes (written sh)
