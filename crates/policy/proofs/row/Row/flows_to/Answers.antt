use Rattle.std.proofs.Common.{get_or, sym, ap, ◌∙◌, arith, below_more}
use Rattle.std.proofs.lemmas.Bool.{both_ways}
use Rattle.policy.specs.Rows.{levels_in, no_leaf}
use Rattle.policy.proofs.RowLevels.{LeafBelow, all_pass, one_fails}
use Rattle.policy.proofs.row.Row.flows_to.Goals as goal

pub returns : goal.returns
returns g c =
    all_pass (g.met.L.Lattice.lawful c.args.lattice.now) c.args.self.now c.args.other.now c.leaves-leaf-items.result.now c.leaves-leaf-items.ensures
    (λ k h. c.loop-leaf.invariant k (omega arith))

pub returns-then-not-below : goal.returns-then-not-below
returns-then-not-below g c =
    let C = g.L.Lattice.lattice c.args.lattice.now in
    let gs = c.leaves-leaf-items.result.now in
    let i = c.loop-leaf.leaf-index in
    one_fails (g.met.L.Lattice.lawful c.args.lattice.now) c.args.self.now c.args.other.now gs i c.leaves-leaf-items.ensures c.loop-leaf-test.true
    (λ t. both_ways _ c.if-not-below.true (c.below.ensures ∙ ap (C.below (get_or gs i no_leaf).level) c.level_under.ensures.equals ∙ t))
