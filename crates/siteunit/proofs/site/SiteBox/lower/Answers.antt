use Rattle.std.proofs.Common.{◌≡◌, ◌<◌, ◌^◌, Some, refl, arith, rules}
use Rattle.machine.specs.Memory.{lowered}
use Rattle.machine.proofs.Memories.{memory_ext}
use Rattle.interpreter.specs.Meaning.{meaning}
use Rattle.siteunit.proofs.Lowering.{bit_without}
use Rattle.siteunit.proofs.Steps.{changes}
use Rattle.siteunit.proofs.site.SiteBox.lower.Goals as goal

pub returns : goal.returns
returns g c =
    let b = c.args.self.now in
    let k = c.in_ok-sheet.sheet.now in
    let a = c.args.condition in
    let is : b.sheet ≡ Some k = search rules in
    let few : a < 16 = omega (arith, k.masks.counts.0) in
    let small : b.memory.up < 2 ^ 16 = search rules in
    let after = lowered a (meaning g.S.Store.values b.memory) in
    changes g.L.Lattice.lattice g.S.Store.values g.S.Store.image b k is _ _ (λ sh. after) (λ sh p K. search rules)
    (λ sh K. memory_ext _ after (λ v. refl) (λ i. bit_without a b.memory.up _ i few small c.condition_bit.ensures))
