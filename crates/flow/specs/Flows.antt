-- What may flow where under a sheet, as masks: bit v for the variable v, bit c for the condition c; no bit for what is not declared.
use Rattle.std.specs.Prelude.{◌≡◌, ℕ, true, length, Decides, slice_index_or}
use Rattle.lattice.specs.Lattice.{Lattice}
use Rattle.policy.specs.Policy.{Policy, leaf, FlowsTo, present_level, wipes}
use Rattle.policy.specs.Masks.{bit}
use Rattle.sheet.specs.Sheet.{Sheet, Permit, policy_of, level_of, permit_at}
use Rattle.machine.specs.SoundSheet.{HasVariable, HasCondition, HasPermit}
use Rattle.flow.specs.declared.masks.Inflow.{Inflow}
use Rattle.flow.specs.declared.masks.VariableFlow.{VariableFlow}
use Rattle.flow.specs.declared.masks.PermitFlow.{PermitFlow}
use Rattle.flow.specs.declared.masks.FlowMasks.{FlowMasks}

abbrev pub no_inflow : Inflow
no_inflow = record { variables = 0; conditions = 0 }

abbrev pub no_variable_flow : VariableFlow
no_variable_flow = record { inflow = no_inflow; wipers = 0 }

abbrev pub no_permit : PermitFlow
no_permit = record { conditions = 0; sources = 0; targets = 0 }

-- a mask of the declared variables of which this holds
pub record VariablesThat (sh : Sheet) (P : ℕ → Type 0) (mask : ℕ) : Type 0 where
  pub decides : (v : ℕ) → HasVariable sh v → Decides (bit v mask) (P v)
  pub declared : (v : ℕ) → bit v mask ≡ true → HasVariable sh v

-- what may reach a target of this policy
pub record Admits (C : Lattice) (sh : Sheet) (f : Inflow) (p : Policy) : Type 0 where
  pub variables : VariablesThat sh (λ v. FlowsTo C (policy_of sh v) p) f.variables
  pub conditions : (c : ℕ) → HasCondition sh c → bit c f.conditions ≡ C.below (level_of sh c) (present_level C p)
  pub declared : (c : ℕ) → bit c f.conditions ≡ true → HasCondition sh c

-- a permit's conditions, and the variables that it may release and those that it may release into
pub record Permits (C : Lattice) (sh : Sheet) (f : PermitFlow) (p : Permit) : Type 0 where
  pub conditions : f.conditions ≡ p.conditions
  pub sources : VariablesThat sh (λ v. FlowsTo C (policy_of sh v) p.from) f.sources
  pub targets : VariablesThat sh (λ v. FlowsTo C p.to (policy_of sh v)) f.targets

pub record MasksOf (C : Lattice) (sh : Sheet) (m : FlowMasks) : Type 0 where
  pub conditions : m.conditions ≡ length sh.conditions
  pub variables : m.variables ≡ length sh.variables
  pub permits : m.permits ≡ length sh.permits
  pub variable : (v : ℕ) → HasVariable sh v → Admits C sh (slice_index_or m.variable v no_variable_flow).inflow (policy_of sh v)
  pub condition : (c : ℕ) → HasCondition sh c → Admits C sh (slice_index_or m.condition c no_inflow) (leaf (level_of sh c))
  pub lowest : Admits C sh m.lowest (leaf C.lowest)
  pub permit : (p : ℕ) → HasPermit sh p → Permits C sh (slice_index_or m.permit p no_permit) (permit_at sh p)
  pub wipers : (v c : ℕ) → bit c (slice_index_or m.variable v no_variable_flow).wipers ≡ wipes c (policy_of sh v)
