-- A sheet declares conditions with their levels, variables with their policies, and permits, each by its place in a list.
use Rattle.std.specs.Prelude.{ℕ, Bool, false, List, [], length, nat_lt, slice_index, slice_index_or}
use Rattle.policy.specs.Policy.{Policy, leaf}

pub record Variable : Type 0 where
  pub policy : Policy
  -- may the outside feed it?
  pub fed : Bool

-- A declassification permit: under its conditions, a mask, what flows to the one policy is released to the other.
pub record Permit : Type 0 where
  pub conditions : ℕ
  pub from : Policy
  pub to : Policy

pub record Sheet : Type 0 where
  pub conditions : List ℕ
  pub variables : List Variable
  pub permits : List Permit

abbrev pub empty : Sheet
empty = record { conditions = []; variables = []; permits = [] }

abbrev pub variable_at : Sheet → ℕ → Variable
variable_at sh v = slice_index_or sh.variables v (record { policy = leaf 0; fed = false })

abbrev pub policy_of : Sheet → ℕ → Policy
policy_of sh v = (variable_at sh v).policy

abbrev pub level_of : Sheet → ℕ → ℕ
level_of sh c = slice_index sh.conditions c

abbrev pub permit_at : Sheet → ℕ → Permit
permit_at sh p = slice_index_or sh.permits p (record { conditions = 0; from = leaf 0; to = leaf 0 })

abbrev pub declared_variable : Sheet → ℕ → Bool
declared_variable sh v = nat_lt v (length sh.variables)

abbrev pub declared_condition : Sheet → ℕ → Bool
declared_condition sh c = nat_lt c (length sh.conditions)

abbrev pub declared_permit : Sheet → ℕ → Bool
declared_permit sh p = nat_lt p (length sh.permits)
