-- A valid sheet is sound, so the reader of sheets accepts sound ones only. Assumes nothing.
use Rattle.std.proofs.Common.{◌≡◌, ℕ, zero, suc, ◌+◌, ◌<◌, true, ltb, List, [], ◌∷◌, length, get_or, refl, arith}
use Rattle.std.proofs.lemmas.Bool.{and_parts, ltb-true, lt-ltb}
use Rattle.lattice.specs.Lattice.{Lattice}
use Rattle.records.specs.Records.{Each, Byte}
use Rattle.records.specs.Refusals.{refusal}
use Rattle.records.specs.Rules.{accepted}
use Rattle.records.proofs.Firsts.{took}
use Rattle.policy.specs.Policy.{Policy, leaf, erase, KnownLevels}
use Rattle.sheet.specs.Sheet.{Sheet, variable_at, permit_at}
use Rattle.sheet.specs.Rules.{sheet_in}
use Rattle.sheet.specs.Valid.{Level, WellFormed, ValidVariable, ValidPermit, Valid}
use Rattle.sheet.proofs.Acceptance.{acceptance}
use Rattle.machine.specs.SoundSheet.{SoundSheet, HasVariable, HasPermit}
use Rattle.machine.specs.SheetReader.{are_bytes, read_sheet}

each_at : {X : Type 0} (P : X → Type 0) (xs : List X) (d : X) → Each P xs → (i : ℕ) → i < length xs → P (get_or xs i d)
each_at P [] d e i h = absurd (omega arith)
each_at P (x ∷ xs) d e zero h = e.0
each_at P (x ∷ xs) d e (suc i) h = each_at P xs d e.1 i (omega arith)

module _ (C : Lattice) where
  known_levels : (n d : ℕ) (p : Policy) → WellFormed C n d p → KnownLevels C p
  known_levels n d (leaf l) w = w.0.0
  known_levels n d (erase c p q) w = (known_levels n (d + 1) p w.2, known_levels n (d + 1) q w.3)

  module _ (sh : Sheet) (v : Valid C sh) where
    variable_valid : (i : ℕ) → HasVariable sh i → ValidVariable C sh (variable_at sh i)
    variable_valid i d = each_at (ValidVariable C sh) sh.variables _ v.variables i (ltb-true i (length sh.variables) d)

    permit_valid : (i : ℕ) → HasPermit sh i → ValidPermit C sh (permit_at sh i)
    permit_valid i d = each_at (ValidPermit C sh) sh.permits _ v.permits i (ltb-true i (length sh.permits) d)

    pub valid_sound : SoundSheet C sh
    valid_sound = record {
      conditions = λ c d. (each_at (Level C) sh.conditions 0 v.levels c (ltb-true c (length sh.conditions) d)).0;
      variables = λ i d. known_levels (length sh.conditions) 1 _ (variable_valid i d).0;
      permits = λ i d. (known_levels (length sh.conditions) 1 _ (permit_valid i d).2, known_levels (length sh.conditions) 1 _ (permit_valid i d).3);
      named = λ i c d b. lt-ltb c (length sh.conditions) ((permit_valid i d).1 c b);
      wipers = λ i c d h. (variable_valid i d).1 c h;
    }

are_bytes_lem : (bs : List ℕ) → are_bytes bs ≡ true → Each Byte bs
unfolding are_bytes
are_bytes_lem [] h = tt
are_bytes_lem (b ∷ bs) h = let p = and_parts (ltb b 256) (are_bytes bs) h in (ltb-true b 256 p.0, are_bytes_lem bs p.1)

pub bytes_are : (bs : List ℕ) → Each Byte bs → are_bytes bs ≡ true
unfolding are_bytes
bytes_are [] e = refl
bytes_are (b ∷ bs) e = rw (lt-ltb b 256 e.0, bytes_are bs e.1) refl

pub reader_valid : (C : Lattice) (bs : List ℕ) (sh : Sheet) → read_sheet C bs ≡ accepted sh → Valid C sh
reader_valid C bs sh e =
    let t = took (are_bytes bs) (sheet_in C bs) (refusal 2 0 0) sh e in
    ((acceptance C).only bs (are_bytes_lem bs t.0) sh t.1).0

pub reader_sound : (C : Lattice) (bs : List ℕ) (sh : Sheet) → read_sheet C bs ≡ accepted sh → SoundSheet C sh
reader_sound C bs sh e = valid_sound C sh (reader_valid C bs sh e)
