-- An accepted sheet, as the box keeps it. Assumes nothing.
use Rattle.std.proofs.Common.{◌≡◌, ℕ, ◌<◌, List, get_or, replicate, ℤ, pos, Some, None, sym, ap, ◌∙◌, inl, inr, arith}
use lib.ListN.{get_or-replicate}
use Rattle.std.proofs.lemmas.List.{get_or_past}
use Rattle.std.proofs.lemmas.Bool.{cases_lt, ltb-true}
use mathlib.Core.Option.{none}
use Rattle.lattice.specs.Lattice.{Lattice}
use Rattle.policy.specs.Rows.{no_leaf}
use Rattle.policy.proofs.Filled.{holds_present}
use Rattle.policy.proofs.Masks.{bit_zero}
use Rattle.sheet.specs.declared.rows.SheetTable.{SheetTable}
use Rattle.sheet.specs.Sheet.{Sheet, policy_of}
use Rattle.sheet.specs.Table.{Represents, blank_variable}
use Rattle.sheet.specs.Valid.{Valid}
use Rattle.machine.specs.Memory.{cleared}
use Rattle.machine.proofs.Memories.{memory_ext}
use Rattle.flow.specs.TableFlows.{FlowsOf}
use Rattle.interpreter.specs.Meaning.{memory_of}
use Rattle.siteunit.specs.declared.kept.KeptSheet.{KeptSheet}
use Rattle.siteunit.specs.Standing.{no_access, access_of, KeepsSheet, Ready}

zeros : (v : ℕ) → get_or (replicate 64 (pos 0)) v (pos 0) ≡ pos 0
zeros v = elim (cases_lt v 64) [ inl h ↦ get_or-replicate 64 v (pos 0) (pos 0) h | inr h ↦ get_or_past (replicate 64 (pos 0)) v (pos 0) h ]

module _ (C : Lattice) (t : SheetTable) (k : KeptSheet) (levels : k.levels ≡ t.levels)
    (access : (v : ℕ) → v < 64 → get_or k.access v no_access ≡ access_of (get_or t.rows v blank_variable)) (flows : FlowsOf C t k.masks) where
  keeps : (sh : Sheet) → Represents t sh → Valid C sh → KeepsSheet C sh k
  keeps sh R V = record {
    valid = V;
    masks = flows.sheets sh R V;
    levels = λ c h. ap (λ ls. get_or ls c 0) levels ∙ R.levels c (ltb-true _ _ h);
    present = λ v h. let l = ltb-true _ _ h in
        ap (λ a. a.present) (access v (omega (arith, V.counts.1))) ∙ holds_present C _ (policy_of sh v) no_leaf (R.rows v l).policy;
    fed = λ v h. let l = ltb-true _ _ h in ap (λ a. a.fed) (access v (omega (arith, V.counts.1))) ∙ (R.rows v l).fed;
  }

  -- the state that the machine begins with
  pub begins_as : (sh : Sheet) (xs : List ℤ) → Represents t sh → Valid C sh → xs ≡ replicate 64 (pos 0) → Ready C (Some k) None xs 0 sh none cleared
  begins_as sh xs R V e =
      let zero-at : (v : ℕ) → get_or xs v (pos 0) ≡ pos 0 = λ v. ap (λ l. get_or l v (pos 0)) e ∙ zeros v in
      record {
        sheet = keeps sh R V;
        program = tt;
        memory = memory_ext cleared (memory_of xs 0) (λ v. sym (zero-at v)) (λ c. sym (bit_zero c));
        wiped = λ v _. zero-at v;
      }
