use Rattle.std.proofs.Common.{◌^◌, ◌<◌, sym, ◌∙◌, rules}
use Rattle.std.proofs.lemmas.Bool.{le-ltb}
use Rattle.policy.proofs.Masks.{bit_test, bit_high}
use Rattle.policy.proofs.mask.has.Goals as goal

pub returns-then-number-lt64 : goal.returns-then-number-lt64
returns-then-number-lt64 c = bit_test c.args.number c.args.mask

pub returns-else-number-lt64 : goal.returns-else-number-lt64
returns-else-number-lt64 c =
    let f : c.args.mask < 2 ^ 64 = search rules in
    le-ltb c.args.number 64 c.if-number-lt64.false ∙ sym (bit_high 64 c.args.number c.args.mask f c.if-number-lt64.false)
