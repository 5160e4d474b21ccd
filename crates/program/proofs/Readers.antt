-- The readers of a box are sound, and of bytes they say what the rules say. Assumes nothing.
use Rattle.std.proofs.Common.{◌≡◌, ℕ, List}
use Rattle.std.proofs.lemmas.Bool.{cond-true}
use Rattle.lattice.specs.Lattice.{Lattice}
use Rattle.records.specs.Records.{Each, Byte}
use Rattle.records.specs.Rules.{accepted}
use Rattle.sheet.specs.Sheet.{Sheet}
use Rattle.sheet.specs.Rules.{sheet_in}
use Rattle.machine.specs.Promises.{SoundReaders}
use Rattle.machine.specs.SheetReader.{are_bytes, read_sheet}
use Rattle.machine.proofs.Sheets.{bytes_are, reader_valid}
use Rattle.program.specs.Acceptance.{UsableSheet}
use Rattle.program.specs.Readers.{readers}
use Rattle.program.proofs.Acceptance.{accepted_well_typed}
use Rattle.program.proofs.Usable.{valid_usable}

-- of bytes, the reader of sheets says what the rules say
pub reads_bytes : (C : Lattice) (bs : List ℕ) → Each Byte bs → read_sheet C bs ≡ sheet_in C bs
reads_bytes C bs f = cond-true (are_bytes bs) _ _ (bytes_are bs f)

usable : (C : Lattice) (bs : List ℕ) (sh : Sheet) → read_sheet C bs ≡ accepted sh → UsableSheet C sh
usable C bs sh h = valid_usable C sh (reader_valid C bs sh h)

pub sound_readers : SoundReaders readers
sound_readers = record {
  sheets = λ C W bs sh h. (usable C bs sh h).sound;
  programs = λ C W bs sh h bs' c k. accepted_well_typed W sh (usable C bs sh h) bs' c k;
}
