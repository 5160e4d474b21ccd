use Rattle.std.proofs.Common.{◌≡◌, drop}
use Rattle.policy.specs.Masks.{members}
use Rattle.policy.specs.RowLevels.{join_under}
use Rattle.policy.proofs.row.Row.level_under.Given as goal

-- what is left of the leaves brings the level so far to the level of all
abbrev pub invariant-loop-leaf : goal.invariant-loop-leaf
invariant-loop-leaf g l =
    let C = g.L.Lattice.lattice l.lattice in
    join_under C (members l.set) l.level (drop l.leaf-index l.leaf-items) ≡ join_under C (members l.set) C.lowest l.leaf-items
