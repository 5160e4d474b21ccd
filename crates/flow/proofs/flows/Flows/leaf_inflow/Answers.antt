use Rattle.std.proofs.Common.{ap, ◌∙◌, subst}
use Rattle.policy.specs.Rows.{with_level}
use Rattle.flow.specs.TableFlows.{InflowOf}
use Rattle.flow.proofs.flows.Flows.leaf_inflow.Goals as goal

pub returns : goal.returns
returns g c =
    subst (λ row. InflowOf (g.L.Lattice.lattice c.args.self.now.lattice.now) c.args.self.now.table.now row c.inflow.result)
    (c.add.ensures ∙ ap (λ row. with_level row c.args.level 0) c.new-leaf.ensures) c.inflow.ensures
