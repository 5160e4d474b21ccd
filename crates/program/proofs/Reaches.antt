-- The rules on what reaches a target, over a sheet's masks. Assumes nothing.
use Rattle.std.proofs.Common.{◌≡◌, ℕ, ◌+◌, ◌*◌, ◌%◌, ◌^◌, ◌<◌, Bool, true, false, not, ◌||◌, Decides, sym, refl, ap, ◌∙◌, subst}
use Rattle.lattice.specs.Lattice.{Lattice, Lawful}
use Rattle.records.specs.Rules.{Reading, Rule, rule, each_from, first}
use Rattle.records.proofs.Firsts.{first_append, each_same}
use Rattle.policy.specs.Policy.{Policy, KnownLevels, FlowsTo, present_level}
use Rattle.policy.specs.Masks.{bit, members}
use Rattle.sheet.specs.Sheet.{Sheet, policy_of, level_of}
use Rattle.machine.specs.SoundSheet.{HasVariable, HasCondition}
use Rattle.flow.specs.declared.masks.Inflow.{Inflow}
use Rattle.flow.specs.Flows.{VariablesThat, Admits}
use Rattle.program.specs.declared.context.Context.{Context as Masks}
use Rattle.program.specs.Deciding.{flows}
use Rattle.program.specs.Rules.{widest, each_within}
use Rattle.program.specs.Checks.{masked}
use Rattle.program.specs.Contexts.{under_none, with_variable, with_conditions}
use Rattle.program.specs.Reading.{context_of, Declared}
use Rattle.program.specs.Acceptance.{UsableSheet}
use Rattle.program.proofs.ContextMasks.{masked_outermost, masked_variable, masked_condition, masked_conditions}
use Rattle.program.proofs.Contexts.{declared_outermost, declared_variable_lem, declared_condition_lem, declared_conditions}
use Rattle.program.proofs.Deciding.{decides_flow}

-- ── declared contexts ──

pub declared_none : (sh : Sheet) → Declared sh (context_of under_none)
declared_none sh = subst (Declared sh) masked_outermost (declared_outermost sh)

module _ (sh : Sheet) (pc : Masks) where
  pub declared_variable : (v : ℕ) → v < 64 → HasVariable sh v → Declared sh (context_of pc) → Declared sh (context_of (with_variable v pc))
  declared_variable v l h d = subst (Declared sh) (masked_variable v pc.variables pc.conditions l) (declared_variable_lem sh v (context_of pc) h d)

  pub declared_masks : (mask : ℕ) → ((c : ℕ) → bit c mask ≡ true → HasCondition sh c) → Declared sh (context_of pc) → Declared sh (context_of (with_conditions mask pc))
  declared_masks mask h d = subst (Declared sh) (masked_conditions mask pc.variables pc.conditions) (declared_conditions sh (members mask) (context_of pc) h d)

  pub declared_condition : (c : ℕ) → c < 16 → HasCondition sh c → Declared sh (context_of pc) → Declared sh (context_of (with_conditions ((1 * 2 ^ c) % 2 ^ 16) pc))
  declared_condition c l h d = subst (Declared sh) (masked_condition c pc.variables pc.conditions l) (declared_condition_lem sh c (context_of pc) h d)

-- ── two tests that decide one thing ──

same_tests : (x y : Bool) → (x ≡ true → y ≡ true) → (y ≡ true → x ≡ true) → x ≡ y
same_tests true y f g = sym (f refl)
same_tests false true f g = g refl
same_tests false false f g = refl

pub decide_alike : {P : Type 0} (x y : Bool) → Decides x P → Decides y P → x ≡ y
decide_alike x y d e = same_tests x y (λ h. e.1 (d.0 h)) (λ h. d.1 (e.0 h))

same_where : (x y z : Bool) → (x ≡ true → y ≡ z) → (not x || y) ≡ (not x || z)
same_where true y z h = h refl
same_where false y z h = refl

module _ {C : Lattice} (W : Lawful C) (sh : Sheet) (U : UsableSheet C sh) where
  pub flows_mask : (p : Policy) (mask v : ℕ) → KnownLevels C p → VariablesThat sh (λ u. FlowsTo C (policy_of sh u) p) mask → HasVariable sh v → flows C (policy_of sh v) p ≡ bit v mask
  flows_mask p mask v k V h = decide_alike (flows C (policy_of sh v) p) (bit v mask) ((decides_flow W).decides (policy_of sh v) p (U.sound.variables v h) k) (V.decides v h)

  pub flowing_mask : (p : Policy) (mask v : ℕ) → KnownLevels C p → VariablesThat sh (λ u. FlowsTo C p (policy_of sh u)) mask → HasVariable sh v → flows C p (policy_of sh v) ≡ bit v mask
  flowing_mask p mask v k V h = decide_alike (flows C p (policy_of sh v)) (bit v mask) ((decides_flow W).decides p (policy_of sh v) k (U.sound.variables v h)) (V.decides v h)

  -- the widest context that may reach a target, as masks
  pub reaches : {X : Type 0} (number place : ℕ) (pc : Masks) (f : Inflow) (p : Policy) (a : Reading X) → Declared sh (context_of pc) → KnownLevels C p → Admits C sh f p
      → first (each_within number place (context_of pc) (widest C sh p)) a ≡ first (each_within number place (context_of pc) (masked f.variables f.conditions)) a
  unfolding each_within
  reaches number place pc f p a d k A =
      let fv : ℕ → Rule = λ v. rule number place v (not (bit v pc.variables) || flows C (policy_of sh v) p) in
      let fc : ℕ → Rule = λ c. rule number place (256 + c) (not (bit c pc.conditions) || C.below (level_of sh c) (present_level C p)) in
      let gv : ℕ → Rule = λ v. rule number place v (not (bit v pc.variables) || bit v f.variables) in
      let gc : ℕ → Rule = λ c. rule number place (256 + c) (not (bit c pc.conditions) || bit c f.conditions) in
      first_append (each_from 0 64 fv) (each_from 0 16 fc) a
      ∙ each_same 0 64 fv gv _ (λ v l. ap (rule number place v) (same_where (bit v pc.variables) _ _ (λ h. flows_mask p f.variables v k A.variables (d.variables v h))))
      ∙ ap (first (each_from 0 64 gv)) (each_same 0 16 fc gc a (λ c l. ap (rule number place (256 + c)) (same_where (bit c pc.conditions) _ _ (λ h. sym (A.conditions c (d.conditions c h))))))
      ∙ sym (first_append (each_from 0 64 gv) (each_from 0 16 gc) a)
