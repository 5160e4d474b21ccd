use Rattle.std.proofs.Common.{sym}
use Rattle.policy.proofs.Masks.{no_bit}
use Rattle.policy.proofs.mask.mask_of.Goals as goal

pub returns-else-number-lt64 : goal.returns-else-number-lt64
returns-else-number-lt64 c = sym (no_bit 64 c.args.number c.if-number-lt64.false)
