-- What the readers of a tree, a variable, a permit and any item answer for: the rules refuse as they do, or go on after it.
use Rattle.std.specs.Prelude.{◌≡◌, ℕ, ◌+◌, ◌≤◌, List, [], ◌∷◌, ◌++◌, length}
use Rattle.lattice.specs.Lattice.{Lattice}
use Rattle.records.specs.declared.Record.{Record}
use Rattle.records.specs.declared.refusal.Refusal.{Refusal}
use Rattle.records.specs.Rules.{refused}
use Rattle.policy.specs.declared.row.Row.{Row}
use Rattle.policy.specs.Policy.{Policy}
use Rattle.policy.specs.Rows.{filled}
use Rattle.policy.specs.Shapes.{Shaped}
use Rattle.sheet.specs.declared.rows.SheetTable.{SheetTable}
use Rattle.sheet.specs.Sheet.{Sheet, Variable, Permit}
use Rattle.sheet.specs.Written.{tree}
use Rattle.sheet.specs.Rules.{State, Owner, nobody, answer}
use Rattle.sheet.specs.Table.{Represents}

abbrev pub at : ℕ → Sheet → Owner → List ℕ → (List Policy → List Policy) → State
at place sh owner awaited trees = record { place = place; sheet = sh; owner = owner; awaited = awaited; trees = trees }

-- between two items, where no tree is awaited
abbrev pub closed : ℕ → Sheet → State
closed place sh = at place sh nobody [] (λ ps. ps)

abbrev pub with_condition : Sheet → ℕ → Sheet
with_condition sh l = record { conditions = sh.conditions ++ l ∷ []; variables = sh.variables; permits = sh.permits }

abbrev pub with_variable : Sheet → Variable → Sheet
with_variable sh v = record { conditions = sh.conditions; variables = sh.variables ++ v ∷ []; permits = sh.permits }

abbrev pub with_permit : Sheet → Permit → Sheet
with_permit sh p = record { conditions = sh.conditions; variables = sh.variables; permits = sh.permits ++ p ∷ [] }

-- A table on the way: it represents the sheet so far, and a mask has room for its conditions.
pub record Builds (t : SheetTable) (sh : Sheet) : Type 0 where
  pub represents : Represents t sh
  pub room : t.conditions ≤ 16

-- Whatever else stands in the sheet: where a tree of this depth is awaited, the rules refuse so.
pub record TreeRefused (C : Lattice) (conditions place depth : ℕ) (rs : List Record) (e : Refusal) : Type 0 where
  pub says : (sh : Sheet) (owner : Owner) (ds : List ℕ) (trees : List Policy → List Policy) → length sh.conditions ≡ conditions
      → answer C (at place sh owner (depth ∷ ds) trees) rs ≡ refused e

-- The records are a tree and then the rest, the row is filled with it, and the rules go on after the tree.
pub record TreeRead (C : Lattice) (conditions place depth guard : ℕ) (rs : List Record) (before after : Row) (next : ℕ) (rest : List Record) : Type 0 where
  pub policy : Policy
  pub shaped : Shaped conditions depth policy
  pub stands : rs ≡ tree policy ++ rest
  pub reached : next ≡ place + length (tree policy)
  pub row : after ≡ filled guard policy before
  pub goes : (sh : Sheet) (owner : Owner) (ds : List ℕ) (trees : List Policy → List Policy) → length sh.conditions ≡ conditions
      → answer C (at place sh owner (depth ∷ ds) trees) rs ≡ answer C (at next sh owner ds (λ ps. trees (policy ∷ ps))) rest

-- What stands at a place where no tree is awaited: the rules refuse so, or go on after it with a larger sheet.
pub record ItemRefused (C : Lattice) (before : SheetTable) (place : ℕ) (r : Record) (rs : List Record) (e : Refusal) : Type 0 where
  pub says : (sh : Sheet) → Builds before sh → answer C (closed place sh) (r ∷ rs) ≡ refused e

pub record ItemRead (C : Lattice) (before after : SheetTable) (place : ℕ) (r : Record) (rs : List Record) (next : ℕ) (rest : List Record) : Type 0 where
  pub sheet : Sheet → Sheet
  pub builds : (sh : Sheet) → Builds before sh → Builds after (sheet sh)
  pub goes : (sh : Sheet) → Builds before sh → answer C (closed place sh) (r ∷ rs) ≡ answer C (closed next (sheet sh)) rest
