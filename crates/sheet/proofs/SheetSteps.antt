-- The whole sheet, item by item. Assumes nothing.
use Rattle.std.proofs.Common.{◌≡◌, ℕ, ◌%◌, ◌≤◌, false, eqb, leb, List, [], ◌∷◌, length, sym, ap, ◌∙◌, arith}
use Rattle.std.proofs.lemmas.Bool.{cond-true, cond-false, and_from, eq-eqb, le-leb}
use Rattle.lattice.specs.Lattice.{Lattice}
use Rattle.records.specs.declared.Record.{Record}
use Rattle.records.specs.declared.refusal.Refusal.{Refusal}
use Rattle.records.specs.Records.{Each, Byte, records}
use Rattle.records.specs.Refusals.{refusal}
use Rattle.records.specs.Rules.{accepted, refused}
use Rattle.records.proofs.Firsts.{refused_accepted}
use Rattle.sheet.specs.declared.rows.SheetTable.{SheetTable}
use Rattle.sheet.specs.Sheet.{Sheet, empty}
use Rattle.sheet.specs.Rules.{answer, whole_records, sheet_in}
use Rattle.sheet.specs.Table.{Represents}
use Rattle.sheet.specs.Reading.{Builds, closed, ItemRefused}
use Rattle.sheet.specs.Reader.{SheetRead, SheetRefused}
use Rattle.sheet.proofs.Acceptance.{acceptance}
use Rattle.sheet.proofs.Closed as closing

-- a refusal by the rules leaves no valid sheet that would write these bytes
pub refused_sheet : (C : Lattice) (bs : List ℕ) (e : Refusal) → sheet_in C bs ≡ refused e → SheetRefused C bs e
refused_sheet C bs e h = record {
  answer = h;
  invalid = λ sh v w. refused_accepted e sh (sym h ∙ ap (sheet_in C) w ∙ (acceptance C).all sh v);
}

module _ (C : Lattice) (bs : List ℕ) where
  -- What the records so far came to.
  pub record Far (t : SheetTable) (place : ℕ) (left : List Record) : Type 0 where
    pub sheet : Sheet
    pub builds : Builds t sheet
    pub goes : sheet_in C bs ≡ answer C (closed place sheet) left

  pub far_start : (t : SheetTable) → length bs % 8 ≡ 0 → length bs ≤ 4096 → Represents t empty → Far t 0 (records bs)
  unfolding sheet_in
  far_start t m l e = record {
    sheet = empty;
    builds = record { represents = e; room = omega (arith, e.conditions) };
    goes = cond-true (whole_records bs) _ _ (and_from (eqb (length bs % 8) 0) (leb (length bs) 4096) (eq-eqb _ _ m) (le-leb _ _ l));
  }

  pub far_refused : (t : SheetTable) (place : ℕ) (left : List Record) (r : Record) (rs : List Record) (x : Refusal) → left ≡ r ∷ rs → Far t place left → ItemRefused C t place r rs x → SheetRefused C bs x
  far_refused t place left r rs x e f i =
      refused_sheet C bs x (f.goes ∙ ap (answer C (closed place f.sheet)) e ∙ i.says f.sheet f.builds)

  pub far_end : (t : SheetTable) (place : ℕ) (left : List Record) → Each Byte bs → left ≡ [] → Far t place left → SheetRead C bs t
  far_end t place left b e f =
      let h : sheet_in C bs ≡ accepted f.sheet = f.goes ∙ ap (answer C (closed place f.sheet)) e ∙ closing.end C place f.sheet in
      let v = (acceptance C).only bs b f.sheet h in
      record {
        sheet = f.sheet;
        answer = h;
        valid = v.0;
        writes = v.1;
        unique = λ sh w e. (acceptance C).unique sh f.sheet w v.0 (sym e ∙ v.1);
        represents = f.builds.represents;
      }

pub wrong_length : (C : Lattice) (bs : List ℕ) → whole_records bs ≡ false → SheetRefused C bs (refusal 2 0 0)
unfolding sheet_in
wrong_length C bs h = refused_sheet C bs (refusal 2 0 0) (cond-false (whole_records bs) _ _ h)
