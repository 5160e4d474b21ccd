-- The rules accept exactly the valid sheets, as they are written. Assumes nothing.
use Rattle.std.proofs.Common.{◌≡◌, ℕ, ◌+◌, ◌%◌, true, eqb, leb, List, [], ◌∷◌, ◌++◌, length, sym, ap, ◌∙◌, arith}
use Rattle.std.proofs.lemmas.Bool.{and_parts, and_from, eqb-true, leb-true, eq-eqb, le-leb}
use Rattle.lattice.specs.Lattice.{Lattice}
use Rattle.records.specs.declared.Record.{Record}
use Rattle.records.specs.Records.{Each, Byte, Fit, bytes, records}
use Rattle.records.specs.Rules.{accepted, rule}
use Rattle.records.proofs.Firsts.{first_holds, took_all}
use Rattle.records.proofs.Formats.{records_bytes, bytes_records, length_bytes, length_records, records_fit, each_append}
use Rattle.policy.specs.Policy.{Policy, leaf, erase}
use Rattle.sheet.specs.Sheet.{Sheet}
use Rattle.sheet.specs.Written.{tree, numbered, condition, variable, permit, written}
use Rattle.sheet.specs.Valid.{Level, WellFormed, ValidVariable, ValidPermit, Valid}
use Rattle.sheet.specs.Rules.{answer, start, whole_records, sheet_in}
use Rattle.sheet.specs.Acceptance.{AcceptsExactlyTheValid}
use Rattle.sheet.proofs.Accepted.{valid_accepted}
use Rattle.sheet.proofs.Accepting.{accepting}

numbered_fit : {X : Type 0} (f : ℕ → X → List Record) (P : X → Type 0) → ((i : ℕ) (x : X) → P x → Each Fit (f i x)) → (i : ℕ) (xs : List X) → Each P xs → Each Fit (numbered f i xs)
numbered_fit f P h i [] e = tt
numbered_fit f P h i (x ∷ xs) e = each_append Fit (f i x) (numbered f (i + 1) xs) (h i x e.0) (numbered_fit f P h (i + 1) xs e.1)

module _ (C : Lattice) where
  tree_fit : (n d : ℕ) (t : Policy) → WellFormed C n d t → Each Fit (tree t)
  unfolding tree
  tree_fit n d (leaf l) g = (g.0.1, tt)
  tree_fit n d (erase c p q) g = (omega arith, each_append Fit (tree p) (tree q) (tree_fit n (d + 1) p g.2) (tree_fit n (d + 1) q g.3))

  written_fit : (sh : Sheet) → Valid C sh → Each Fit (written sh)
  unfolding written
  written_fit sh v =
      let n = length sh.conditions in
      each_append Fit (numbered condition 0 sh.conditions) (numbered variable 0 sh.variables ++ numbered permit 0 sh.permits)
      (numbered_fit condition (Level C) (λ i l h. (h.1, tt)) 0 sh.conditions v.levels)
      (each_append Fit (numbered variable 0 sh.variables) (numbered permit 0 sh.permits)
      (numbered_fit variable (ValidVariable C sh) (λ i x h. (omega arith, tree_fit n 1 x.policy h.0)) 0 sh.variables v.variables)
      (numbered_fit permit (ValidPermit C sh) (λ i x h. (h.0, each_append Fit (tree x.from) (tree x.to) (tree_fit n 1 x.from h.2) (tree_fit n 1 x.to h.3))) 0 sh.permits v.permits))

  all : (sh : Sheet) → Valid C sh → sheet_in C (bytes (written sh)) ≡ accepted sh
  unfolding sheet_in
  all sh v =
      let l = length_bytes (written sh) in
      let bs = bytes (written sh) in
      let k : whole_records (bytes (written sh)) ≡ true = and_from (eqb (length bs % 8) 0) (leb (length bs) 4096) (eq-eqb (length bs % 8) 0 (omega (arith, l))) (le-leb (length bs) 4096 (omega (arith, l, v.size))) in
      first_holds (rule 2 0 0 (whole_records (bytes (written sh))) ∷ []) _ (k, tt) ∙ ap (answer C start) (records_bytes (written sh) (written_fit sh v)) ∙ valid_accepted C sh v

  pub only : (bs : List ℕ) → Each Byte bs → (sh : Sheet) → sheet_in C bs ≡ accepted sh → Valid C sh × (bs ≡ bytes (written sh))
  unfolding sheet_in
  only bs f sh h =
      let t = took_all (rule 2 0 0 (whole_records bs) ∷ []) (answer C start (records bs)) sh h in
      let p = and_parts (eqb (length bs % 8) 0) (leb (length bs) 4096) t.0.0 in
      let g = accepting C (records bs) sh (omega (arith, length_records bs, leb-true (length bs) 4096 p.1)) (records_fit bs f) t.1 in
      (g.0, sym (bytes_records bs f (eqb-true (length bs % 8) 0 p.0)) ∙ ap bytes g.1)

  pub acceptance : AcceptsExactlyTheValid C
  acceptance = record {
    only = only;
    all = all;
    unique = λ sh sh' v v' e. cc (sym (all sh v) ∙ ap (sheet_in C) e ∙ all sh' v');
  }
