use Rattle.std.proofs.Common.{length, vec_items}
use Rattle.decoder.specs.Decoding.{Follow}
use Rattle.decoder.proofs.decode.Given as goal

abbrev pub invariant-loop-segment : goal.invariant-loop-segment
invariant-loop-segment g l = Follow g.T.Segment.stands l.bytes (vec_items l.items) l.left

abbrev pub decreases-loop-segment : goal.decreases-loop-segment
decreases-loop-segment g l = length l.left
