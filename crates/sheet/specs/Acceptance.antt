-- What the rules are worth: bytes are accepted as a sheet exactly when the sheet is valid and they are how it is written.
use Rattle.std.specs.Prelude.{◌≡◌, ℕ, List}
use Rattle.lattice.specs.Lattice.{Lattice}
use Rattle.records.specs.Records.{Each, Byte, bytes}
use Rattle.records.specs.Rules.{accepted}
use Rattle.sheet.specs.Sheet.{Sheet}
use Rattle.sheet.specs.Written.{written}
use Rattle.sheet.specs.Valid.{Valid}
use Rattle.sheet.specs.Rules.{sheet_in}

pub record AcceptsExactlyTheValid (C : Lattice) : Type 0 where
  pub only : (bs : List ℕ) → Each Byte bs → (sh : Sheet) → sheet_in C bs ≡ accepted sh → Valid C sh × (bs ≡ bytes (written sh))
  pub all : (sh : Sheet) → Valid C sh → sheet_in C (bytes (written sh)) ≡ accepted sh
  pub unique : (sh sh' : Sheet) → Valid C sh → Valid C sh' → bytes (written sh) ≡ bytes (written sh') → sh ≡ sh'
