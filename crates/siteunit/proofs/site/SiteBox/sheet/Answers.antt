use Rattle.std.proofs.Common.{◌≡◌, None, rules, Err, refl, ap, ◌∙◌}
use Rattle.records.proofs.Formats.{each_at}
use Rattle.records.specs.Rules.{accepted, refused}
use Rattle.machine.specs.Machine.{begun}
use Rattle.program.proofs.Readers.{reads_bytes}
use Rattle.siteunit.specs.Obeying.{answer_of, count}
use Rattle.siteunit.proofs.Sheets.{begins_as}
use Rattle.siteunit.proofs.Steps.{begins, accepts}
use Rattle.siteunit.proofs.site.SiteBox.sheet.Goals as goal

pub returns-in_err-table : goal.returns-in_err-table
returns-in_err-table g c =
    let b = c.args.self.now in
    let C = g.L.Lattice.lattice b.lattice in
    let bytes = each_at c.args.bytes.now (λ i. (c.type_inv.bytes i).fits) in
    let is_err : c.from_residual.result ≡ Err c.in_err-table.field-0.0 = search rules in
    let none : b.sheet ≡ None = search rules in
    begins g.L.Lattice.lattice g.S.Store.values g.S.Store.image b count b _ _ (begun (refused c.in_err-table.field-0.0)) none refl (λ e q. refl) (ap begun (reads_bytes C c.args.bytes.now bytes ∙ c.in_err-table.ensures.answer)) (ap (answer_of count) is_err) none

pub returns : goal.returns
returns g c =
    let b = c.args.self.now in
    let C = g.L.Lattice.lattice b.lattice in
    let bytes = each_at c.args.bytes.now (λ i. (c.type_inv.bytes i).fits) in
    let read = c.in_ok-table.ensures in
    let none : b.sheet ≡ None = search rules in
    let ready = begins_as C c.in_ok-table.table _ refl c.access_to.ensures c.flow_masks-masks.ensures read.sheet _ read.represents read.valid c.new.ensures in
    begins g.L.Lattice.lattice g.S.Store.values g.S.Store.image b count _ _ _ (begun (accepted read.sheet)) none refl (λ e q. accepts e q)
    (ap begun (reads_bytes C c.args.bytes.now bytes ∙ read.answer)) (ap count ready.sheet.masks.variables) ready
