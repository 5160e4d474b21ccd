-- The reader of sheets, on any numbers: what is no list of bytes is no sheet.
use Rattle.std.specs.Prelude.{ℕ, Bool, true, cond, ◌&&◌, List, [], ◌∷◌, nat_lt}
use Rattle.lattice.specs.Lattice.{Lattice}
use Rattle.records.specs.Refusals.{refusal}
use Rattle.records.specs.Rules.{Reading, refused}
use Rattle.sheet.specs.Sheet.{Sheet}
use Rattle.sheet.specs.Rules.{sheet_in}

unfoldable pub are_bytes : List ℕ → Bool
are_bytes [] = true
are_bytes (b ∷ bs) = nat_lt b 256 && are_bytes bs

abbrev pub read_sheet : Lattice → List ℕ → Reading Sheet
read_sheet C bs = cond (are_bytes bs) (sheet_in C bs) (refused (refusal 2 0 0))
