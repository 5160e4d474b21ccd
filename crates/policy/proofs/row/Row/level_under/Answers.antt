use Rattle.std.proofs.Common.{◌<◌, get_or, ◌∙◌, rules}
use Rattle.policy.specs.Rows.{no_leaf}
use Rattle.policy.proofs.RowLevels.{leaf_joins, leaf_passes, level_of_lem}
use Rattle.policy.proofs.row.Row.level_under.Goals as goal
use Rattle.policy.proofs.row.Row.level_under.Goals.{then-leaf-set, else-leaf-set}

pub loop-leaf-preserved : goal.loop-leaf-preserved
loop-leaf-preserved g c =
    let C = g.L.Lattice.lattice c.args.lattice.now in
    let gs = c.leaves-leaf-items.result.now in
    let i = c.loop-leaf.leaf-index in
    let small : (get_or gs i no_leaf).guard < 65536 = search rules in
    elim c.if-leaf-set.branch [
      | then-leaf-set w ↦ leaf_joins C c.args.set c.loop-leaf.level _ gs i c.loop-leaf-test.true small w.if-leaf-set.true (w.level-is ∙ w.join-level.ensures) ∙ c.loop-leaf.invariant
      | else-leaf-set w ↦ leaf_passes C c.args.set c.loop-leaf.level _ gs i c.loop-leaf-test.true small w.if-leaf-set.false w.level-is ∙ c.loop-leaf.invariant
    ]

pub returns : goal.returns
returns g c =
    let l = c.args.lattice.now in
    level_of_lem (g.met.L.Lattice.lawful l) c.args.self.now c.args.set c.loop-leaf.level c.leaves-leaf-items.result.now c.loop-leaf.leaf-index c.leaves-leaf-items.ensures c.loop-leaf-test.false c.loop-leaf.invariant
