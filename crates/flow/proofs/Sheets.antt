-- What is decided of the rows of a table is decided of each valid sheet that the table represents. Assumes nothing.
use Rattle.std.proofs.Common.{◌≡◌, ℕ, ◌%◌, Bool, length, get_or, Decides, sym, refl, ap, ◌∙◌, subst, inl, inr, arith}
use Rattle.std.proofs.lemmas.List.{get_or_past}
use Rattle.std.proofs.lemmas.Bool.{both_ways, cases_lt, ltb-true, lt-ltb}
use Rattle.lattice.specs.Lattice.{Lattice, Lawful, Known}
use Rattle.policy.specs.declared.row.Row.{Row}
use Rattle.policy.specs.Policy.{Policy, leaf, FlowsTo, KnownLevels, wipes}
use Rattle.policy.specs.Masks.{bit}
use Rattle.policy.specs.Rows.{Holds, no_leaf}
use Rattle.policy.proofs.Filled.{holds_present}
use Rattle.policy.proofs.Masks.{bit_zero}
use Rattle.sheet.specs.declared.rows.Grant.{Grant}
use Rattle.sheet.specs.declared.rows.SheetTable.{SheetTable}
use Rattle.sheet.specs.Sheet.{Sheet, policy_of, level_of, permit_at}
use Rattle.sheet.specs.Table.{HoldsPermit, Represents, blank_grant}
use Rattle.sheet.specs.Valid.{Valid}
use Rattle.machine.specs.SoundSheet.{SoundSheet, HasVariable, HasPermit}
use Rattle.flow.specs.declared.masks.Inflow.{Inflow}
use Rattle.flow.specs.declared.masks.PermitFlow.{PermitFlow}
use Rattle.flow.specs.declared.masks.FlowMasks.{FlowMasks}
use Rattle.flow.specs.Flows.{no_inflow, no_variable_flow, VariablesThat, Admits, Permits, MasksOf}
use Rattle.flow.proofs.Declared.{mask_below}
use Rattle.flow.specs.TableFlows.{EachBit, row_of, leaf_row, conditions_in, variables_in, permits_in, VariablesInto, VariablesFrom, InflowOf, PermitFlowOf, TableFlows}
use Rattle.machine.proofs.Sheets.{valid_sound}

leaf_holds : (l : ℕ) → Holds (leaf_row l) (leaf l)
leaf_holds l = record { conditions = tt; levels = refl; wipers = bit_zero }

module _ (C : Lattice) (t : SheetTable) (sh : Sheet) (R : Represents t sh) (V : Valid C sh) where
  sound : SoundSheet C sh
  sound = valid_sound C sh V

  all_conditions : conditions_in t ≡ length sh.conditions
  all_conditions = omega (arith, R.conditions, V.counts.0)

  all_variables : variables_in t ≡ length sh.variables
  all_variables = omega (arith, R.variables, V.counts.1)

  all_permits : permits_in t ≡ length sh.permits
  all_permits = omega (arith, R.permits, V.counts.2)

  variable_holds : (v : ℕ) → HasVariable sh v → Holds (row_of t v) (policy_of sh v)
  variable_holds v h = (R.rows v (ltb-true _ _ h)).policy

  -- a mask of decisions on the rows
  variables_that : (P : ℕ → Type 0) (D : ℕ → Bool → Type 0) (mask : ℕ) → ((v : ℕ) → HasVariable sh v → (b : Bool) → D v b → Decides b (P v)) → EachBit (variables_in t) D mask → VariablesThat sh P mask
  variables_that P D mask f e = record {
    decides = λ v h. f v h (bit v mask) (e.below v (omega (arith, all_variables, ltb-true _ _ h)));
    declared = λ v b. elim (cases_lt v (variables_in t)) [
      | inl l ↦ lt-ltb _ _ (omega (arith, all_variables))
      | inr l ↦ absurd (both_ways _ (e.beyond v l) b)
    ];
  }

  into : (row : Row) (p : Policy) (mask : ℕ) → Holds row p → KnownLevels C p → VariablesInto C t row mask → VariablesThat sh (λ v. FlowsTo C (policy_of sh v) p) mask
  into row p mask h k = variables_that _ _ mask (λ v d b e. e.policies (policy_of sh v) p (variable_holds v d) h (sound.variables v d) k)

  out_of : (row : Row) (p : Policy) (mask : ℕ) → Holds row p → KnownLevels C p → VariablesFrom C t row mask → VariablesThat sh (λ v. FlowsTo C p (policy_of sh v)) mask
  out_of row p mask h k = variables_that _ _ mask (λ v d b e. e.policies p (policy_of sh v) h (variable_holds v d) k (sound.variables v d))

  admits : (row : Row) (p : Policy) (f : Inflow) → Holds row p → KnownLevels C p → InflowOf C t row f → Admits C sh f p
  admits row p f h k e = record {
    variables = into row p f.variables h k e.variables;
    conditions = λ c d. let l = ltb-true _ _ d in
        e.conditions.below c (omega (arith, all_conditions)) ∙ ap (λ x. C.below x (get_or row.levels 0 no_leaf).level) (R.levels c l) ∙ ap (C.below (level_of sh c)) (holds_present C row p no_leaf h);
    declared = λ c b. elim (cases_lt c (conditions_in t)) [
      | inl l ↦ lt-ltb _ _ (omega (arith, all_conditions))
      | inr l ↦ absurd (both_ways _ (e.conditions.beyond c l) b)
    ];
  }

  leaf_admits : (level : ℕ) (f : Inflow) → Known C level → InflowOf C t (leaf_row level) f → Admits C sh f (leaf level)
  leaf_admits level f k = admits (leaf_row level) (leaf level) f (leaf_holds level) k

  permits : (p : ℕ) (grant : Grant) (f : PermitFlow) → HasPermit sh p → HoldsPermit grant (permit_at sh p) → PermitFlowOf C t grant f → Permits C sh f (permit_at sh p)
  permits p grant f d h e = record {
    conditions = e.conditions ∙ ap (λ (n : ℕ). n % 65536) h.conditions ∙ mask_below 16 (permit_at sh p).conditions (λ c b. omega (arith, ltb-true _ _ (sound.named p c d b), V.counts.0));
    sources = into grant.from (permit_at sh p).from f.sources h.from (sound.permits p d).0 e.sources;
    targets = out_of grant.to (permit_at sh p).to f.targets h.to (sound.permits p d).1 e.targets;
  }

  wiped : (m : FlowMasks) → TableFlows C t m → (v c : ℕ) → bit c (get_or m.variable v no_variable_flow).wipers ≡ wipes c (policy_of sh v)
  wiped m f v c =
      elim (cases_lt v (length sh.variables)) [
        | inl l ↦ ap (bit c) (f.variable.below v (omega (arith, all_variables))).wipers ∙ (R.rows v l).policy.wipers c
        | inr l ↦ ap (λ x. bit c x.wipers) (f.variable.beyond v (omega (arith, all_variables))) ∙ bit_zero c ∙ sym (ap (λ x. wipes c x.policy) (get_or_past sh.variables v _ l))
      ]

  pub masks_of : (m : FlowMasks) → Lawful C → TableFlows C t m → MasksOf C sh m
  masks_of m laws f = record {
    conditions = f.counts.0 ∙ all_conditions;
    variables = f.counts.1 ∙ all_variables;
    permits = f.counts.2 ∙ all_permits;
    variable = λ v d. admits (row_of t v) (policy_of sh v) _ (variable_holds v d) (sound.variables v d) (f.variable.below v (omega (arith, all_variables, ltb-true _ _ d))).inflow;
    condition = λ c d. leaf_admits (level_of sh c) _ (sound.conditions c d)
        (subst (λ l. InflowOf C t (leaf_row l) (get_or m.condition c no_inflow)) (R.levels c (ltb-true _ _ d)) (f.condition.below c (omega (arith, all_conditions, ltb-true _ _ d))));
    lowest = leaf_admits C.lowest m.lowest laws.lowest_known f.lowest;
    permit = λ p d. permits p (get_or t.grants p blank_grant) _ d (R.grants p (ltb-true _ _ d)) (f.permit.below p (omega (arith, all_permits, ltb-true _ _ d)));
    wipers = wiped m f;
  }
