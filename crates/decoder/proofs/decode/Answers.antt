use Rattle.std.proofs.Common.{sym, subst}
use Rattle.decoder.specs.Decoding.{Follow, none, one_more}
use Rattle.decoder.proofs.decode.Goals as goal

pub loop-segment-init : goal.loop-segment-init
loop-segment-init g c = subst (λ xs. Follow g.T.Segment.stands c.args.bytes.now xs c.args.bytes.now) (sym c.new-items.ensures.items) none

pub loop-segment-preserved : goal.loop-segment-preserved
loop-segment-preserved g c =
    subst (λ xs. Follow g.T.Segment.stands c.args.bytes.now xs c.in-Ok-Some.rest.now) (sym c.in_ok-push.ensures.items)
    (one_more _ _ _ _ c.loop-segment.invariant (rw c.in-Ok-Some.field-0-is at c.in-Ok-Some.ensures))
