-- Contexts whose variables and conditions are declared: the rules on what reaches a target hold just where the context flows to it.
use Rattle.std.proofs.Common.{◌≡◌, ℕ, ◌+◌, ◌<◌, true, not, ◌||◌, eqb, length, sym, refl, ◌∙◌, subst, inl, inr, arith}
use mathlib.Core.Bool.{false≢true}
use Rattle.std.proofs.lemmas.Bool.{or_cases, or_left, or_right, eq-eqb, eqb-true, ltb-true}
use Rattle.lattice.specs.Lattice.{Lattice, Lawful}
use Rattle.records.specs.Rules.{Reading, accepted, Rule, rule, each_from, first}
use Rattle.records.proofs.Firsts.{first_append, each_holds, took_each, implies, implied}
use Rattle.policy.specs.Policy.{Set, add, Policy, KnownLevels, FlowsTo}
use Rattle.policy.specs.Masks.{members}
use Rattle.sheet.specs.Sheet.{Sheet, policy_of, permit_at}
use Rattle.machine.specs.SoundSheet.{HasVariable, HasCondition, HasPermit}
use Rattle.machine.specs.Typing.{Context, outermost, under_variable, under_condition, under_conditions, ContextFlowsTo}
use Rattle.program.specs.Rules.{Test, on_variable, on_condition, tested, widest, each_within}
use Rattle.program.specs.Reading.{Declared}
use Rattle.program.specs.Acceptance.{UsableSheet}
use Rattle.program.proofs.Deciding.{flows_sound, flows_complete}

pub declared_outermost : (sh : Sheet) → Declared sh outermost
declared_outermost sh = record { variables = λ v h. absurd (false≢true h); conditions = λ c h. absurd (false≢true h) }

in_added : (P : ℕ → Type 0) (a : ℕ) (s : Set) → P a → ((n : ℕ) → s n ≡ true → P n) → (n : ℕ) → add a s n ≡ true → P n
in_added P a s p f n h = elim (or_cases (eqb n a) (s n) h) [ inl e ↦ subst P (sym (eqb-true n a e)) p | inr e ↦ f n e ]

pub declared_variable_lem : (sh : Sheet) (v : ℕ) (pc : Context) → HasVariable sh v → Declared sh pc → Declared sh (under_variable v pc)
declared_variable_lem sh v pc h d = record { variables = in_added (HasVariable sh) v pc.variables h d.variables; conditions = d.conditions }

pub declared_condition_lem : (sh : Sheet) (c : ℕ) (pc : Context) → HasCondition sh c → Declared sh pc → Declared sh (under_condition c pc)
declared_condition_lem sh c pc h d = record { variables = d.variables; conditions = in_added (HasCondition sh) c pc.conditions h d.conditions }

pub declared_conditions : (sh : Sheet) (s : Set) (pc : Context) → ((c : ℕ) → s c ≡ true → HasCondition sh c) → Declared sh pc → Declared sh (under_conditions s pc)
declared_conditions sh s pc f d = record {
  variables = d.variables;
  conditions = λ c h. elim (or_cases (s c) (pc.conditions c) h) [ inl e ↦ f c e | inr e ↦ d.conditions c e ];
}

abbrev pub HasTested : Sheet → Test → Type 0
HasTested sh (on_variable v) = HasVariable sh v
HasTested sh (on_condition c) = HasCondition sh c

pub declared_tested : (sh : Sheet) (t : Test) (pc : Context) → HasTested sh t → Declared sh pc → Declared sh (tested t pc)
declared_tested sh (on_variable v) pc h d = declared_variable_lem sh v pc h d
declared_tested sh (on_condition c) pc h d = declared_condition_lem sh c pc h d

-- one context in another, over the numbers that there may be
pub record Within (pc wide : Context) : Type 0 where
  pub variables : (v : ℕ) → v < 64 → pc.variables v ≡ true → wide.variables v ≡ true
  pub conditions : (c : ℕ) → c < 16 → pc.conditions c ≡ true → wide.conditions c ≡ true

pub within_passes : {X : Type 0} (number place : ℕ) (pc wide : Context) (a : Reading X) → Within pc wide → first (each_within number place pc wide) a ≡ a
unfolding each_within
within_passes number place pc wide a w =
    first_append (each_from 0 64 (λ v. rule number place v (not (pc.variables v) || wide.variables v))) (each_from 0 16 (λ c. rule number place (256 + c) (not (pc.conditions c) || wide.conditions c))) a
    ∙ each_holds 0 64 (λ v. rule number place v (not (pc.variables v) || wide.variables v)) _ (λ v l. implies (pc.variables v) (wide.variables v) (w.variables v l))
    ∙ each_holds 0 16 (λ c. rule number place (256 + c) (not (pc.conditions c) || wide.conditions c)) a (λ c l. implies (pc.conditions c) (wide.conditions c) (w.conditions c l))

pub within_took : {X : Type 0} (number place : ℕ) (pc wide : Context) (a : Reading X) (x : X) → first (each_within number place pc wide) a ≡ accepted x → Within pc wide × (a ≡ accepted x)
unfolding each_within
within_took number place pc wide a x h =
    let fv : ℕ → Rule = λ v. rule number place v (not (pc.variables v) || wide.variables v) in
    let fc : ℕ → Rule = λ c. rule number place (256 + c) (not (pc.conditions c) || wide.conditions c) in
    let t = took_each 0 64 fv (first (each_from 0 16 fc) a) x (sym (first_append (each_from 0 64 fv) (each_from 0 16 fc) a) ∙ h) in
    let u = took_each 0 16 fc a x t.1 in (
      record {
        variables = λ v l. implied (pc.variables v) (wide.variables v) (t.0 v (omega arith) l);
        conditions = λ c l. implied (pc.conditions c) (wide.conditions c) (u.0 c (omega arith) l);
      },
      u.1,
    )

module _ {C : Lattice} (W : Lawful C) (sh : Sheet) (U : UsableSheet C sh) where
  -- a declared context lies within the widest just where it flows to the target
  pub within_flows : (pc : Context) (p : Policy) → Declared sh pc → KnownLevels C p → ContextFlowsTo C sh pc p → Within pc (widest C sh p)
  within_flows pc p d k f = record {
    variables = λ v l h. flows_complete W (policy_of sh v) p (U.sound.variables v (d.variables v h)) k (f.variables v h);
    conditions = λ c l h. f.conditions c h;
  }

  pub flows_within : (pc : Context) (p : Policy) → Declared sh pc → KnownLevels C p → Within pc (widest C sh p) → ContextFlowsTo C sh pc p
  flows_within pc p d k w = record {
    variables = λ v h. flows_sound W (policy_of sh v) p (U.sound.variables v (d.variables v h)) k (w.variables v (omega (arith, ltb-true v (length sh.variables) (d.variables v h), U.variables)) h);
    conditions = λ c h. w.conditions c (omega (arith, ltb-true c (length sh.conditions) (d.conditions c h), U.conditions)) h;
  }

  -- a sign reads its two operands
  pub reads_two : (b c : ℕ) (pc : Context) (p : Policy) → ContextFlowsTo C sh pc p → FlowsTo C (policy_of sh b) p → FlowsTo C (policy_of sh c) p
      → ContextFlowsTo C sh (under_variable b (under_variable c pc)) p
  reads_two b c pc p f fb fc = record {
    variables = in_added (λ v. FlowsTo C (policy_of sh v) p) b (add c pc.variables) fb (in_added (λ v. FlowsTo C (policy_of sh v) p) c pc.variables fc f.variables);
    conditions = f.conditions;
  }

  pub two_read : (b c : ℕ) (pc : Context) (p : Policy) → ContextFlowsTo C sh (under_variable b (under_variable c pc)) p
      → ContextFlowsTo C sh pc p × FlowsTo C (policy_of sh b) p × FlowsTo C (policy_of sh c) p
  two_read b c pc p f = (
    record { variables = λ v h. f.variables v (or_right (eqb v b) _ (or_right (eqb v c) _ h)); conditions = f.conditions },
    f.variables b (or_left (eqb b b) _ (eq-eqb b b refl)),
    f.variables c (or_right (eqb c b) _ (or_left (eqb c c) _ (eq-eqb c c refl))),
  )

  pub permit_declared : (p : ℕ) (pc : Context) → HasPermit sh p → Declared sh pc → Declared sh (under_conditions (members (permit_at sh p).conditions) pc)
  permit_declared p pc h d = declared_conditions sh (members (permit_at sh p).conditions) pc (λ c e. U.sound.named p c h e) d
