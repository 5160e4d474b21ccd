use Rattle.std.proofs.Common.{ℕ, get_or, ◌<◌, length, arith, ◌∙◌, subst}
use Rattle.std.proofs.lemmas.List.{get_or_default}
use Rattle.std.specs.Fn.{FnReturnsAt}
use Rattle.flow.proofs.Turns.{bits_none, bits_set, bits_left, bits_all}
use Rattle.flow.proofs.items.mask_where.Goals as goal
use Rattle.flow.proofs.items.mask_where.Goals.{then-test, else-test}

pub loop-place-init : goal.loop-place-init
loop-place-init g c = λ d. bits_none _

pub loop-place-preserved : goal.loop-place-preserved
loop-place-preserved g c = λ d.
    let xs = c.args.items.now in
    let i = c.loop-place.place in
    let P = λ (k : ℕ). FnReturnsAt g.F.Fn c.args.test (get_or xs k d) in
    let within : i < length xs = c.loop-place-test.true in
    let here : P i c.test.result = record { shown = _; shows = c.index-items-place.is ∙ get_or_default xs i _ d within; says = record { met = c.test.ensures } } in
    elim c.if-test.branch [
      | then-test w ↦ bits_set P 64 i c.loop-place.mask _ (omega arith) (c.loop-place.invariant d) (subst (P i) w.if-test.true here) w.mask-is
      | else-test w ↦ bits_left P i c.loop-place.mask _ (c.loop-place.invariant d) (subst (P i) w.if-test.false here) w.mask-is
    ]

pub returns : goal.returns
returns g c = λ d. bits_all _ _ (omega arith) (c.loop-place.invariant d)
