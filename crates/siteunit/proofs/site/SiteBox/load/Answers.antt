use Rattle.std.proofs.Common.{◌≡◌, Some, Err, rules}
use Rattle.siteunit.proofs.Loads.{load_refused, load_done}
use Rattle.siteunit.proofs.site.SiteBox.load.Goals as goal

pub returns-in_err-program : goal.returns-in_err-program
returns-in_err-program g c =
    let is : c.args.self.now.sheet ≡ Some c.in_ok-sheet.sheet.now = search rules in
    let is_err : c.from_residual-in_err-program.result ≡ Err c.in_err-program.field-0.0 = search rules in
    load_refused g.L.Lattice.lattice g.met.L.Lattice.lawful g.S.Store.values g.S.Store.image c.args.self.now _ is c.args.bytes.now _ _ is_err c.in_err-program.ensures

pub returns : goal.returns
returns g c =
    let is : c.args.self.now.sheet ≡ Some c.in_ok-sheet.sheet.now = search rules in
    load_done g.L.Lattice.lattice g.met.L.Lattice.lawful g.S.Store.values g.S.Store.image c.args.self.now _ is c.args.bytes.now _ c.in_ok-program.ensures
