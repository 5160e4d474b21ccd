use Rattle.std.proofs.Common.{◌<◌, length, take, ◌∙◌, arith}
use Rattle.std.proofs.lemmas.List.{get_or_default}
use Rattle.flow.proofs.Made.{made_more, made_of_all}
use Rattle.flow.proofs.items.made_of.Goals as goal

pub loop-place-preserved : goal.loop-place-preserved
loop-place-preserved g c =
    let xs = take c.min.result c.args.items.now in
    let i = c.loop-place.place in
    let within : i < length xs = c.loop-place-test.true in
    made_more _ _ _ xs i c.loop-place.made c.make.result c.loop-place.invariant
    (λ d. record { shown = _; shows = c.index-within-place.is ∙ get_or_default xs i _ d within; says = record { met = c.make.ensures } })

pub returns : goal.returns
returns g c = made_of_all _ _ _ c.args.items.now c.min.result c.loop-place.place c.loop-place.made c.min.ensures (omega arith) c.loop-place.invariant
