-- What a table says of a sheet.
use Rattle.std.specs.Prelude.{◌≡◌, ℕ, ◌<◌, ◌≤◌, false, length, slice_index, slice_index_or}
use Rattle.policy.specs.Rows.{Holds, blank}
use Rattle.sheet.specs.declared.rows.VariableRow.{VariableRow}
use Rattle.sheet.specs.declared.rows.Grant.{Grant}
use Rattle.sheet.specs.declared.rows.SheetTable.{SheetTable}
use Rattle.sheet.specs.Sheet.{Sheet, Variable, Permit, level_of, variable_at, permit_at}

abbrev pub blank_variable : VariableRow
blank_variable = record { policy = blank; fed = false }

abbrev pub blank_grant : Grant
blank_grant = record { conditions = 0; from = blank; to = blank }

pub record HoldsVariable (row : VariableRow) (v : Variable) : Type 0 where
  pub policy : Holds row.policy v.policy
  pub fed : row.fed ≡ v.fed

pub record HoldsPermit (grant : Grant) (p : Permit) : Type 0 where
  pub conditions : grant.conditions ≡ p.conditions
  pub from : Holds grant.from p.from
  pub to : Holds grant.to p.to

-- The table has all that the sheet declares, and blank rows beyond it.
pub record Represents (t : SheetTable) (sh : Sheet) : Type 0 where
  pub sizes : (length t.levels ≡ 16) × (length t.rows ≡ 64) × (length t.grants ≡ 8)
  pub conditions : t.conditions ≡ length sh.conditions
  pub levels : (c : ℕ) → c < length sh.conditions → slice_index t.levels c ≡ level_of sh c
  pub variables : t.variables ≡ length sh.variables
  pub rows : (v : ℕ) → v < length sh.variables → HoldsVariable (slice_index_or t.rows v blank_variable) (variable_at sh v)
  pub beyond : (v : ℕ) → length sh.variables ≤ v → slice_index_or t.rows v blank_variable ≡ blank_variable
  pub permits : t.permits ≡ length sh.permits
  pub grants : (p : ℕ) → p < length sh.permits → HoldsPermit (slice_index_or t.grants p blank_grant) (permit_at sh p)
