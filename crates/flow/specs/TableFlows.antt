-- What may flow where between the rows of a table, whatever they hold; and so under each valid sheet that the table represents.
-- A count beyond the table's places stands for all of them.
use Rattle.std.specs.Prelude.{◌≡◌, ℕ, ◌%◌, ◌<◌, ◌≤◌, min, Bool, false, List, length, get_or, slice_index, slice_index_or}
use Rattle.lattice.specs.Lattice.{Lattice}
use Rattle.policy.specs.declared.row.Row.{Row}
use Rattle.policy.specs.Masks.{bit}
use Rattle.policy.specs.Rows.{no_leaf, blank, with_level}
use Rattle.policy.specs.RowLevels.{FlowDecided}
use Rattle.sheet.specs.declared.rows.Grant.{Grant}
use Rattle.sheet.specs.declared.rows.SheetTable.{SheetTable}
use Rattle.sheet.specs.Sheet.{Sheet}
use Rattle.sheet.specs.Table.{Represents, blank_variable, blank_grant}
use Rattle.sheet.specs.Valid.{Valid}
use Rattle.flow.specs.declared.masks.Inflow.{Inflow}
use Rattle.flow.specs.declared.masks.VariableFlow.{VariableFlow}
use Rattle.flow.specs.declared.masks.PermitFlow.{PermitFlow}
use Rattle.flow.specs.declared.masks.FlowMasks.{FlowMasks}
use Rattle.flow.specs.Flows.{no_inflow, no_variable_flow, no_permit, MasksOf}

-- a mask with a bit for each of the first n numbers, of which this holds
pub record EachBit (n : ℕ) (P : ℕ → Bool → Type 0) (mask : ℕ) : Type 0 where
  pub below : (i : ℕ) → i < n → P i (bit i mask)
  pub beyond : (i : ℕ) → n ≤ i → bit i mask ≡ false

-- a list with an item for each of the first n numbers, of which this holds
pub record EachItem {X : Type 0} (n : ℕ) (none : X) (P : ℕ → X → Type 0) (xs : List X) : Type 0 where
  pub below : (i : ℕ) → i < n → P i (slice_index_or xs i none)
  pub beyond : (i : ℕ) → n ≤ i → slice_index_or xs i none ≡ none

-- what is made of the item at a place of a list, or nothing beyond them
pub record MadeAt {T X : Type 0} (Made : T → X → Type 0) (Nothing : X → Type 0) (items : List T) (i : ℕ) (x : X) : Type 0 where
  pub below : (d : T) → i < length items → Made (slice_index_or items i d) x
  pub beyond : length items ≤ i → Nothing x

-- what is made of each item of a list, as far as there is room, and nothing beyond them
abbrev pub MadeOfEach : {T X : Type 0} → (T → X → Type 0) → (X → Type 0) → List T → List X → Type 0
MadeOfEach {T} {X} Made Nothing items xs = (i : ℕ) (e : X) → i < length xs → MadeAt Made Nothing items i (slice_index_or xs i e)

abbrev pub conditions_in : SheetTable → ℕ
conditions_in t = min t.conditions 16

abbrev pub variables_in : SheetTable → ℕ
variables_in t = min t.variables 64

abbrev pub permits_in : SheetTable → ℕ
permits_in t = min t.permits 8

abbrev pub row_of : SheetTable → ℕ → Row
row_of t v = (get_or t.rows v blank_variable).policy

-- the row of a leaf
abbrev pub leaf_row : ℕ → Row
leaf_row level = with_level blank level 0

-- the conditions whose levels are below this one
abbrev pub ConditionsBelow : Lattice → SheetTable → ℕ → ℕ → Type 0
ConditionsBelow C t level mask = EachBit (conditions_in t) (λ c b. b ≡ C.below (slice_index t.levels c) level) mask

-- the variables whose rows flow to this one
abbrev pub VariablesInto : Lattice → SheetTable → Row → ℕ → Type 0
VariablesInto C t row mask = EachBit (variables_in t) (λ v b. FlowDecided C (row_of t v) row b) mask

-- the variables to whose rows this one flows
abbrev pub VariablesFrom : Lattice → SheetTable → Row → ℕ → Type 0
VariablesFrom C t row mask = EachBit (variables_in t) (λ v b. FlowDecided C row (row_of t v) b) mask

-- what may reach a target of this row
pub record InflowOf (C : Lattice) (t : SheetTable) (row : Row) (f : Inflow) : Type 0 where
  pub variables : VariablesInto C t row f.variables
  pub conditions : ConditionsBelow C t (get_or row.levels 0 no_leaf).level f.conditions

-- what may reach a variable of this row, and what wipes it
pub record VariableFlowOf (C : Lattice) (t : SheetTable) (row : Row) (f : VariableFlow) : Type 0 where
  pub inflow : InflowOf C t row f.inflow
  pub wipers : f.wipers ≡ row.wipers

-- a permit's conditions, of which there are sixteen, what it may release, and into what
pub record PermitFlowOf (C : Lattice) (t : SheetTable) (grant : Grant) (f : PermitFlow) : Type 0 where
  pub conditions : f.conditions ≡ grant.conditions % 65536
  pub sources : VariablesInto C t grant.from f.sources
  pub targets : VariablesFrom C t grant.to f.targets

-- for each variable, each condition, each permit; nothing beyond them
abbrev pub IntoVariables : Lattice → SheetTable → List VariableFlow → Type 0
IntoVariables C t = EachItem (variables_in t) no_variable_flow (λ v. VariableFlowOf C t (row_of t v))

abbrev pub IntoConditions : Lattice → SheetTable → List Inflow → Type 0
IntoConditions C t = EachItem (conditions_in t) no_inflow (λ c. InflowOf C t (leaf_row (slice_index t.levels c)))

abbrev pub ByPermits : Lattice → SheetTable → List PermitFlow → Type 0
ByPermits C t = EachItem (permits_in t) no_permit (λ p. PermitFlowOf C t (slice_index_or t.grants p blank_grant))

pub record TableFlows (C : Lattice) (t : SheetTable) (m : FlowMasks) : Type 0 where
  pub counts : (m.conditions ≡ conditions_in t) × (m.variables ≡ variables_in t) × (m.permits ≡ permits_in t)
  pub variable : IntoVariables C t m.variable
  pub condition : IntoConditions C t m.condition
  pub lowest : InflowOf C t (leaf_row C.lowest) m.lowest
  pub permit : ByPermits C t m.permit

-- the masks of a table, and of each valid sheet that it represents
pub record FlowsOf (C : Lattice) (t : SheetTable) (m : FlowMasks) : Type 0 where
  pub rows : TableFlows C t m
  pub sheets : (sh : Sheet) → Represents t sh → Valid C sh → MasksOf C sh m
