use Rattle.sheet.specs.Table.{blank_variable}
use Rattle.sheet.proofs.Tables.{default_row, represents_empty}
use Rattle.sheet.proofs.rows.SheetTable.new.Goals as goal

pub returns : goal.returns
returns c =
    let h = c.default.ensures in
    let rows = h.1.1.1.0 in
    represents_empty _ h.0 h.1.0.long h.1.1.0 rows.long (λ v l. let r = rows.at v blank_variable l in λ i. record { policy = default_row _ r.0.0 r.0.1.0 r.0.1.1 i; fed = r.1 i }) h.1.1.1.1.0 h.1.1.1.1.1.long
