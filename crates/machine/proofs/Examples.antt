-- The worked examples.
use Rattle.std.proofs.Common.{◌≡◌, ℕ, zero, suc, true, false, cond, ◌||◌, eqb, leb, sym, refl, ◌∙◌, subst, inl, inr, arith}
use mathlib.Core.Bool.{false≢true}
use Rattle.std.specs.Int.{int_wrap}
use Rattle.std.proofs.Math.Bool.{or-false}
use Rattle.std.proofs.lemmas.Bool.{or_cases, or_left, or_right, eqb-true, eq-eqb, and_parts, leb-true, false_from_ne_true}
use Rattle.lattice.specs.Lattice.{Lattice, Below}
use Rattle.lattice.specs.Chain.{chain}
use Rattle.policy.specs.Policy.{none, add, Policy, leaf, erase, level_under, wipes, wiped_by, FlowsTo}
use Rattle.policy.specs.Masks.{bit}
use Rattle.sheet.specs.Sheet.{Sheet, policy_of, level_of}
use Rattle.machine.specs.Typing.{outermost, under_variable, ContextFlowsTo}
use Rattle.machine.specs.Memory.{held}
use Rattle.machine.specs.Run.{permitted}
use Rattle.machine.specs.Examples.{MachineExamples, FirstRuleAnswers, ReleaseWellTyped, permitting, transient}
use Rattle.machine.proofs.Policies.{lifted_wiped}

pub from_top : (C : Lattice) (sh : Sheet) (p : Policy) → ContextFlowsTo C sh outermost p
from_top C sh p = record { variables = λ v h. absurd (false≢true h); conditions = λ c h. absurd (false≢true h) }

under_one : (C : Lattice) (sh : Sheet) (v : ℕ) (p : Policy) → FlowsTo C (policy_of sh v) p → ContextFlowsTo C sh (under_variable v outermost) p
under_one C sh v p f = record {
  variables = λ w h. subst (λ (i : ℕ). FlowsTo C (policy_of sh i) p) (sym (eqb-true w v (sym (or-false _) ∙ h))) f;
  conditions = λ c h. absurd (false≢true h);
}

transient_flows : FlowsTo (chain 3) transient transient
transient_flows s = elim (s 0) as (λ b. Below (chain 3) (cond b 3 1) (cond b 3 1)) [ true ↦ refl | false ↦ refl ]

wiped_by_one : (c : ℕ) (p : Policy) → wiped_by (add c none) p ≡ true → wipes c p ≡ true
wiped_by_one c (leaf l) h = h
wiped_by_one c (erase d p q) h =
    elim (or_cases (eqb d c || false) (wiped_by (add c none) p) h) [
      | inl e ↦ or_left (eqb c d) (wipes c p) (eq-eqb c d (sym (eqb-true d c (sym (or-false _) ∙ e))))
      | inr e ↦ or_right (eqb c d) (wipes c p) (wiped_by_one c p e)
    ]

top_not_below : (l : ℕ) → Below (chain 3) 3 l → (chain 3).below l 1 ≡ false
top_not_below l h = false_from_ne_true _ (λ e. omega (arith, leb-true 3 l (and_parts (leb 3 l) (leb l 3) h).0, leb-true l 1 (and_parts (leb l 1) true e).0))

release_accepted : ReleaseWellTyped 1 (leaf 3) (leaf 1)
release_accepted = (refl, refl, refl, record { variables = λ v h. absurd (false≢true h); conditions = λ c h. low c }, flows, (λ s. refl))
  where
    low : (c : ℕ) → Below (chain 3) (level_of (permitting 1 (leaf 3) (leaf 1)) c) 1
    low zero = refl
    low (suc zero) = refl
    low (suc (suc c)) = refl

    flows : FlowsTo (chain 3) (leaf 1) (erase 1 (leaf 1) (leaf 1))
    flows s = elim (s 1) as (λ b. Below (chain 3) 1 (cond b 1 1)) [ true ↦ refl | false ↦ refl ]

first_rule_answers : FirstRuleAnswers
unfolding held
first_rule_answers = record {
  load_without_sheet = refl;
  look_without_sheet = refl;
  pass_without_sheet = refl;
  image_without_sheet = refl;
  second_sheet_too_short = refl;
  feed_undeclared = refl;
  feed_unfed_and_wiped = refl;
  look_unknown_at_undeclared = refl;
  look_undeclared = refl;
  ask_unknown_for_undeclared = refl;
  ask_undeclared = refl;
  image_unknown = refl;
  image_too_low = refl;
  image_too_short = refl;
}

pub machine_examples : MachineExamples
unfolding int_wrap bit permitted
machine_examples = record {
  sums_wrap = refl;
  less_is_signed = refl;
  countdown_well_typed =
      let public-flows = under_one (chain 3) _ 1 (leaf 0) (λ s. refl) in
      ((refl, from_top (chain 3) _ _), ((refl, from_top (chain 3) _ _), ((refl, public-flows, ((refl, refl, refl, public-flows, (λ s. refl), (λ s. refl)), tt)), tt)));
  three_turns = refl;
  two_turns = refl;
  two_turns_value = refl;
  no_turns = refl;
  lasting_count_refused = λ w. false≢true (w.0.1.0.1.variables 0 refl (λ c. true));
  wiped_count_accepted = ((refl, ((refl, under_one (chain 3) _ 0 transient transient_flows), tt), tt), tt);
  readable_count_wiped = λ p h w.
      let flows = w.0.1.0.1.variables 0 refl (add 0 none) in
      wiped_by_one 0 p (lifted_wiped (chain 3) 1 (add 0 none) p h (top_not_below (level_under (chain 3) (add 0 none) p) flows));
  later_part_wipes_nothing = refl;
  shut_permit_stores_zero = refl;
  open_permit_stores_the_value = refl;
  dropped_release_stores_nothing = refl;
  release_accepted = release_accepted;
  source_flows_to_from = λ w. false≢true (w.5 none);
  to_flows_to_target = λ w. false≢true (w.4 none);
  permit_conditions_flow = λ w. false≢true (w.3.conditions 0 refl);
  rules_in_order = first_rule_answers;
}
