-- The level of a row under a set, and when one row flows to another: of every row, whatever it holds.
use Rattle.std.specs.Prelude.{◌≡◌, ℕ, Bool, cond, List, [], ◌∷◌, Decides}
use Rattle.lattice.specs.Lattice.{Lattice, Known, Below}
use Rattle.policy.specs.declared.row.GuardedLevel.{GuardedLevel}
use Rattle.policy.specs.declared.row.Row.{Row}
use Rattle.policy.specs.Policy.{Set, Policy, level_under, FlowsTo, KnownLevels}
use Rattle.policy.specs.Masks.{within, members}
use Rattle.policy.specs.Rows.{levels_in, Holds}

-- a level joined with each level whose guard lies in the set
unfoldable pub join_under : Lattice → Set → ℕ → List GuardedLevel → ℕ
join_under C s level [] = level
join_under C s level (g ∷ gs) = join_under C s (cond (within g.guard s) (C.join level g.level) level) gs

-- the join of the row's levels whose guard lies in the set; the lowest level where there is none
abbrev pub row_level_under : Lattice → Set → Row → ℕ
row_level_under C s row = join_under C s C.lowest (levels_in row)

-- the level of a row under a mask, and of each policy that the row holds
pub record LevelOf (C : Lattice) (row : Row) (mask r : ℕ) : Type 0 where
  pub equals : r ≡ row_level_under C (members mask) row
  pub policies : (p : Policy) → Holds row p → KnownLevels C p → r ≡ level_under C (members mask) p

abbrev pub AllKnown : Lattice → List GuardedLevel → Type 0
AllKnown C [] = Unit {0}
AllKnown C (g ∷ gs) = Known C g.level × AllKnown C gs

-- the row's levels are known, and whatever comes up, its level is below the other's
pub record RowFlowsTo (C : Lattice) (row other : Row) : Type 0 where
  pub known : AllKnown C (levels_in row)
  pub below : (s : Set) → Below C (row_level_under C s row) (row_level_under C s other)

-- the answer is true just when the one row flows to the other, and just when the one's policies flow to the other's
pub record FlowDecided (C : Lattice) (row other : Row) (r : Bool) : Type 0 where
  pub rows : Decides r (RowFlowsTo C row other)
  pub policies : (p q : Policy) → Holds row p → Holds other q → KnownLevels C p → KnownLevels C q → Decides r (FlowsTo C p q)
