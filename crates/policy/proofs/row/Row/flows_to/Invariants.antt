use Rattle.std.proofs.Common.{ℕ, ◌<◌, get_or}
use Rattle.policy.specs.Rows.{levels_in, no_leaf}
use Rattle.policy.proofs.RowLevels.{LeafBelow}
use Rattle.policy.proofs.row.Row.flows_to.Given as goal

-- each leaf that was passed is below the other row's level under its guard
abbrev pub invariant-loop-leaf : goal.invariant-loop-leaf
invariant-loop-leaf g l = (k : ℕ) → k < l.leaf-index → LeafBelow (g.L.Lattice.lattice l.lattice) (levels_in l.other) (get_or l.leaf-items k no_leaf)
