use Rattle.std.proofs.Common.{rules, arith}
use Rattle.flow.specs.Flows.{no_inflow}
use Rattle.flow.specs.TableFlows.{InflowOf, leaf_row, conditions_in}
use Rattle.flow.proofs.Declared.{items_declared}
use Rattle.flow.proofs.flows.Flows.by_condition.Goals as goal

pub returns : goal.returns
returns g c =
    let t = c.args.self.now.table.now in
    items_declared t.levels _ (conditions_in t) 0 c.conditions.ensures.items c.conditions.ensures.count {P = λ l. InflowOf (g.L.Lattice.lattice c.args.self.now.lattice.now) t (leaf_row l)} no_inflow c.made_of.result (omega arith) c.made_of.ensures (λ x b r. search rules) (λ y e. search rules)
