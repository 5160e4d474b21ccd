use Rattle.std.proofs.Common.{subst, rules}
use Rattle.flow.specs.TableFlows.{InflowOf, TableFlows, leaf_row}
use Rattle.flow.proofs.Sheets.{masks_of}
use Rattle.flow.proofs.tables.flow_masks.Goals as goal

pub returns : goal.returns
returns g c =
    let l = c.args.lattice.now in
    let C = g.L.Lattice.lattice l in
    let t = c.args.table.now in
    let rows : TableFlows C t _ = record {
      counts = (search rules, search rules, search rules);
      variable = c.by_variable.ensures;
      condition = c.by_condition.ensures;
      lowest = subst (λ level. InflowOf C t (leaf_row level) c.leaf_inflow.result) c.lowest.ensures c.leaf_inflow.ensures;
      permit = c.by_permit.ensures;
    } in
    record { rows = rows; sheets = λ sh R V. masks_of C t sh R V _ (g.met.L.Lattice.lawful l) rows }
