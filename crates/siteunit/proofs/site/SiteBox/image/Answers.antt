use Rattle.std.proofs.Common.{◌≡◌, Some, drop, sym, rules}
use Rattle.std.proofs.lemmas.List.{take_at}
use Rattle.siteunit.specs.Obeying.{front_of}
use Rattle.siteunit.proofs.Images.{all_readable, shown}
use Rattle.siteunit.proofs.Steps.{tells}
use Rattle.siteunit.proofs.site.SiteBox.image.Goals as goal

pub returns-then-not-all_below-clause-obeys : goal.returns-then-not-all_below-clause-obeys
returns-then-not-all_below-clause-obeys g c =
    let b = c.args.self.now in
    let k = c.in_ok-sheet.sheet.now in
    let is : b.sheet ≡ Some k = search rules in
    tells g.L.Lattice.lattice g.S.Store.values g.S.Store.image b k is (front_of _) _ _
    (λ sh p K. let all = all_readable _ sh k K c.in_ok-level.level in search rules)

pub returns-then-buffer-size-clause-obeys : goal.returns-then-buffer-size-clause-obeys
returns-then-buffer-size-clause-obeys g c =
    let b = c.args.self.now in
    let k = c.in_ok-sheet.sheet.now in
    let is : b.sheet ≡ Some k = search rules in
    let same = shown g.S.Store.image (g.S.Store.values b.memory.store) b.memory.up (g.met.S.Store.long b.memory.store) in
    tells g.L.Lattice.lattice g.S.Store.values g.S.Store.image b k is (front_of _) _ _
    (λ sh p K. let all = all_readable _ sh k K c.in_ok-level.level in search rules)

pub returns-clause-obeys : goal.returns-clause-obeys
returns-clause-obeys g c =
    let b = c.args.self.now in
    let k = c.in_ok-sheet.sheet.now in
    let is : b.sheet ≡ Some k = search rules in
    let same = shown g.S.Store.image (g.S.Store.values b.memory.store) b.memory.up (g.met.S.Store.long b.memory.store) in
    let first = take_at (g.S.Store.image (g.S.Store.values b.memory.store)) (drop c.image_len-size.result c.args.buffer.now) _ (sym c.image_len-size.ensures) in
    tells g.L.Lattice.lattice g.S.Store.values g.S.Store.image b k is (front_of _) _ _
    (λ sh p K. let all = all_readable _ sh k K c.in_ok-level.level in search rules)
