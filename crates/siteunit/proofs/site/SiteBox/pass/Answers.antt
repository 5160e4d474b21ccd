use Rattle.std.proofs.Common.{◌≡◌, Some, rules}
use Rattle.siteunit.proofs.Steps.{passes, enforces}
use Rattle.siteunit.proofs.site.SiteBox.pass.Goals as goal

pub returns : goal.returns
returns g c =
    let b = c.args.self.now in
    let k = c.in_ok-sheet.sheet.now in
    let is : b.sheet ≡ Some k = search rules in
    let loaded : b.program ≡ Some c.in_ok-program.program.now = search rules in
    passes g.L.Lattice.lattice g.S.Store.values g.S.Store.image b k is c.args.turns c.pass.new.self c.pass.result _ loaded (λ sh p K keeps. c.pass.ensures sh p (enforces _ sh k K) keeps)
