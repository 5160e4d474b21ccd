use Rattle.std.proofs.Common.{refl}
use Rattle.session.proofs.dispatch.show.Goals as goal

pub invariant_of-result : goal.invariant_of-result
invariant_of-result g c = record { within = (c.image.auto.buffer, (c.in_ok-size.ensures.fills.filled _ refl).1) }
