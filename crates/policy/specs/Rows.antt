-- A policy as a row of guarded levels: each leaf with its level and its guard, the conditions on whose later side it lies.
-- The leaf counts under a set just when the set has its whole guard.
use Rattle.std.specs.Prelude.{◌≡◌, ℕ, ◌+◌, ◌*◌, ◌%◌, ◌^◌, cond, List, [], ◌∷◌, ◌++◌, take, replicate, ◌==◌, bit_or, nat_lt, slice_set}
use Rattle.policy.specs.declared.row.GuardedLevel.{GuardedLevel}
use Rattle.policy.specs.declared.row.Row.{Row}
use Rattle.policy.specs.Policy.{Policy, leaf, erase, wipes, ConditionsBelow}
use Rattle.policy.specs.Masks.{bit}

-- a mask of sixteen conditions with one more
abbrev pub including : ℕ → ℕ → ℕ
including c mask = bit_or mask ((1 * 2 ^ c) % 2 ^ 16)

-- the leaves of a policy, in the order in which they are written
abbrev pub guarded_levels : ℕ → Policy → List GuardedLevel
guarded_levels guard (leaf level) = record { level = level; guard = guard } ∷ []
guarded_levels guard (erase c present later) = guarded_levels guard present ++ guarded_levels (including c guard) later

-- the guarded levels that a row has
abbrev pub levels_in : Row → List GuardedLevel
levels_in row = take row.count row.levels

-- the row has the policy's guarded levels and its wipers, and its masks have room for the conditions
pub record Holds (row : Row) (p : Policy) : Type 0 where
  pub conditions : ConditionsBelow 16 p
  pub levels : levels_in row ≡ guarded_levels 0 p
  pub wipers : (c : ℕ) → bit c row.wipers ≡ wipes c p

-- what stands in a place that no leaf has taken
abbrev pub no_leaf : GuardedLevel
no_leaf = record { level = 0; guard = 0 }

abbrev pub blank : Row
blank = record { levels = replicate 8 no_leaf; count = 0; wipers = 0 }

-- one more guarded level; a ninth has no place
abbrev pub with_level : Row → ℕ → ℕ → Row
with_level row level guard =
    cond (nat_lt row.count 8) (record { levels = slice_set row.levels row.count record { level = level; guard = guard }; count = row.count + 1; wipers = row.wipers }) row

-- a node that is met before the first leaf is on the present side of all nodes above it, so its condition wipes
abbrev pub with_node : Row → ℕ → Row
with_node row c = record { levels = row.levels; count = row.count; wipers = cond (row.count == 0) (including c row.wipers) row.wipers }

-- what reading a policy, in the order in which it is written and under this guard, leaves in a row
unfoldable pub filled : ℕ → Policy → Row → Row
filled guard (leaf level) row = with_level row level guard
filled guard (erase c present later) row = filled (including c guard) later (filled guard present (with_node row c))
