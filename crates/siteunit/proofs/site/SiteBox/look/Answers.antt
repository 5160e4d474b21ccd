use Rattle.std.proofs.Common.{◌≡◌, Some, rules}
use Rattle.siteunit.specs.Obeying.{itself}
use Rattle.siteunit.proofs.Steps.{tells}
use Rattle.siteunit.proofs.site.SiteBox.look.Goals as goal

pub returns-then-not-below : goal.returns-then-not-below
returns-then-not-below g c =
    let is : c.args.self.now.sheet ≡ Some c.in_ok-sheet.sheet.now = search rules in
    tells g.L.Lattice.lattice g.S.Store.values g.S.Store.image c.args.self.now _ is itself _ _ (λ sh p K. search rules)

pub returns : goal.returns
returns g c =
    let is : c.args.self.now.sheet ≡ Some c.in_ok-sheet.sheet.now = search rules in
    tells g.L.Lattice.lattice g.S.Store.values g.S.Store.image c.args.self.now _ is itself _ _ (λ sh p K. search rules)
