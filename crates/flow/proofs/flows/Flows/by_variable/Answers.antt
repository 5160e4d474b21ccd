use Rattle.std.proofs.Common.{rules, arith}
use Rattle.sheet.specs.Table.{blank_variable}
use Rattle.flow.specs.Flows.{no_variable_flow}
use Rattle.flow.specs.TableFlows.{VariableFlowOf, variables_in}
use Rattle.flow.proofs.Declared.{items_declared}
use Rattle.flow.proofs.flows.Flows.by_variable.Goals as goal

pub returns : goal.returns
returns g c =
    let t = c.args.self.now.table.now in
    items_declared t.rows _ (variables_in t) blank_variable c.variables.ensures.items c.variables.ensures.count {P = λ v. VariableFlowOf (g.L.Lattice.lattice c.args.self.now.lattice.now) t v.policy} no_variable_flow c.made_of.result (omega arith) c.made_of.ensures (λ x b r. search rules) (λ y e. search rules)
