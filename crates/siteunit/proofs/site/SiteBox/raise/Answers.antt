use Rattle.std.proofs.Common.{◌≡◌, ◌<◌, Some, arith, rules}
use Rattle.siteunit.proofs.Steps.{changes, enforces}
use Rattle.siteunit.proofs.site.SiteBox.raise.Goals as goal

pub returns : goal.returns
returns g c =
    let b = c.args.self.now in
    let k = c.in_ok-sheet.sheet.now in
    let is : b.sheet ≡ Some k = search rules in
    let few : c.args.condition < 16 = omega (arith, k.masks.counts.0) in
    changes g.L.Lattice.lattice g.S.Store.values g.S.Store.image b k is c.raise.new.self _ _ (λ sh p K. search rules) (λ sh K. c.raise.ensures.memory sh (enforces _ sh k K) few)
