-- Which programs a sheet accepts. All that reaches a target flows to it: what is read, and the program-counter context,
-- that is, what decides whether the command is run at all. And what a command names is declared.
use Rattle.std.specs.Prelude.{◌≡◌, ℕ, true, ◌||◌}
use Rattle.lattice.specs.Lattice.{Lattice, Below}
use Rattle.policy.specs.Policy.{Set, none, add, Policy, leaf, FlowsTo, present_level}
use Rattle.policy.specs.Masks.{members}
use Rattle.sheet.specs.Sheet.{Sheet, policy_of, level_of, permit_at}
use Rattle.machine.specs.Command.{Command, skip, ◌⨾◌, set, combine, release, raise, if_variable, if_condition, while}
use Rattle.machine.specs.SoundSheet.{HasVariable, HasCondition, HasPermit}

-- the variables and the conditions whose tests a command stands under
pub record Context : Type 0 where
  pub variables : Set
  pub conditions : Set

abbrev pub outermost : Context
outermost = record { variables = none; conditions = none }

abbrev pub under_variable : ℕ → Context → Context
under_variable v pc = record { variables = add v pc.variables; conditions = pc.conditions }

abbrev pub under_condition : ℕ → Context → Context
under_condition c pc = record { variables = pc.variables; conditions = add c pc.conditions }

abbrev pub under_conditions : Set → Context → Context
under_conditions s pc = record { variables = pc.variables; conditions = λ c. s c || pc.conditions c }

-- the context may reach a target of this policy
pub record ContextFlowsTo (C : Lattice) (sh : Sheet) (pc : Context) (p : Policy) : Type 0 where
  pub variables : (v : ℕ) → pc.variables v ≡ true → FlowsTo C (policy_of sh v) p
  pub conditions : (c : ℕ) → pc.conditions c ≡ true → Below C (level_of sh c) (present_level C p)

-- A permit's conditions decide over a release like tests around it. A loop's turns can be counted by everybody, so it stands only where
-- its test and all around it are at the lowest level.
abbrev pub WellTyped : Lattice → Sheet → Context → Command → Type 0
WellTyped C sh pc skip = Unit {0}
WellTyped C sh pc (c ⨾ d) = WellTyped C sh pc c × WellTyped C sh pc d
WellTyped C sh pc (set a n) = HasVariable sh a × ContextFlowsTo C sh pc (policy_of sh a)
WellTyped C sh pc (combine sign a b c) =
    HasVariable sh a × HasVariable sh b × HasVariable sh c
    × ContextFlowsTo C sh pc (policy_of sh a) × FlowsTo C (policy_of sh b) (policy_of sh a) × FlowsTo C (policy_of sh c) (policy_of sh a)
WellTyped C sh pc (release a b p) =
    HasVariable sh a × HasVariable sh b × HasPermit sh p
    × ContextFlowsTo C sh (under_conditions (members (permit_at sh p).conditions) pc) (policy_of sh a)
    × FlowsTo C (permit_at sh p).to (policy_of sh a) × FlowsTo C (policy_of sh b) (permit_at sh p).from
WellTyped C sh pc (raise c) = HasCondition sh c × ContextFlowsTo C sh pc (leaf (level_of sh c))
WellTyped C sh pc (if_variable b c d) = HasVariable sh b × WellTyped C sh (under_variable b pc) c × WellTyped C sh (under_variable b pc) d
WellTyped C sh pc (if_condition a c d) = HasCondition sh a × WellTyped C sh (under_condition a pc) c × WellTyped C sh (under_condition a pc) d
WellTyped C sh pc (while b c) = HasVariable sh b × ContextFlowsTo C sh (under_variable b pc) (leaf C.lowest) × WellTyped C sh (under_variable b pc) c
