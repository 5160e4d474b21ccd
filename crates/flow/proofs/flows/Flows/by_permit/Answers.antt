use Rattle.std.proofs.Common.{rules, arith}
use Rattle.sheet.specs.Table.{blank_grant}
use Rattle.flow.specs.Flows.{no_permit}
use Rattle.flow.specs.TableFlows.{PermitFlowOf, permits_in}
use Rattle.flow.proofs.Declared.{items_declared}
use Rattle.flow.proofs.flows.Flows.by_permit.Goals as goal

pub returns : goal.returns
returns g c =
    let t = c.args.self.now.table.now in
    items_declared t.grants _ (permits_in t) blank_grant c.permits.ensures.items c.permits.ensures.count {P = PermitFlowOf (g.L.Lattice.lattice c.args.self.now.lattice.now) t} no_permit c.made_of.result (omega arith) c.made_of.ensures (λ x b r. search rules) (λ y e. search rules)
