use Rattle.std.proofs.Common.{◌-◌, ◌^◌, ◌<◌, rules}
use lib.Bits.{bit_and}
use Rattle.program.proofs.Misfits.{no_misfit, lowest_misfit}
use Rattle.program.proofs.Trailing.{trailing_lowest}
use Rattle.program.proofs.reach.first_misfit.Goals as goal

pub returns-then-misfits-eq0 : goal.returns-then-misfits-eq0
returns-then-misfits-eq0 c = no_misfit c.args.held c.args.admitted (search rules) c.if-misfits-eq0.true

pub returns : goal.returns
returns c =
    let small : c.args.admitted < 2 ^ 64 = search rules in
    let t = trailing_lowest 64 (bit_and c.args.held (2 ^ 64 - 1 - c.args.admitted)) (search rules) (search rules) in
    lowest_misfit c.args.held c.args.admitted small _ t.0 t.1.0 t.1.1
