use Rattle.std.proofs.Common.{◌≡◌, ◌<◌, Some, arith, rules}
use Rattle.siteunit.specs.Obeying.{nothing}
use Rattle.siteunit.proofs.Steps.{tells, changes, is_dry, enforces}
use Rattle.siteunit.proofs.site.SiteBox.feed.Goals as goal

pub returns-then-sheet-place-ne0 : goal.returns-then-sheet-place-ne0
returns-then-sheet-place-ne0 g c =
    let b = c.args.self.now in
    let k = c.in_ok-sheet.sheet.now in
    let is : b.sheet ≡ Some k = search rules in
    tells g.L.Lattice.lattice g.S.Store.values g.S.Store.image b k is nothing _ _
    (λ sh p K. let dry = is_dry _ sh k K c.in_ok-place.place b.memory.up in search rules)

pub returns : goal.returns
returns g c =
    let b = c.args.self.now in
    let k = c.in_ok-sheet.sheet.now in
    let is : b.sheet ≡ Some k = search rules in
    let few : c.args.variable < 64 = omega (arith, k.masks.counts.1) in
    changes g.L.Lattice.lattice g.S.Store.values g.S.Store.image b k is c.write.new.self _ _
    (λ sh p K. let dry = is_dry _ sh k K c.in_ok-place.place b.memory.up in search rules) (λ sh K. c.write.ensures.memory sh (enforces _ sh k K) few)
