use Rattle.std.proofs.Common.{rules}
use Rattle.policy.specs.RowLevels.{FlowDecided}
use Rattle.sheet.specs.Table.{blank_variable}
use Rattle.std.specs.Fn.{FnReturnsAt}
use Rattle.flow.specs.TableFlows.{variables_in}
use Rattle.flow.proofs.Declared.{bits_declared}
use Rattle.flow.proofs.flows.Flows.variables_from.Goals as goal

pub returns : goal.returns
returns g c =
    let t = c.args.self.now.table.now in
    bits_declared t.rows _ (variables_in t) blank_variable c.variables.ensures.items c.variables.ensures.count {R = FnReturnsAt _ _} {P = λ v. FlowDecided (g.L.Lattice.lattice c.args.self.now.lattice.now) c.args.source.now v.policy} c.mask_where.result c.mask_where.ensures (λ x b r. search rules)
