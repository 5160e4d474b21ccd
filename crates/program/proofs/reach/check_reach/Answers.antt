use Rattle.std.proofs.Common.{rules}
use Rattle.records.specs.Refusals.{number}
use Rattle.program.proofs.Misfits.{variable_misfits, condition_misfits, none_misfits}
use Rattle.program.proofs.reach.check_reach.Goals as goal

pub returns-in-Some : goal.returns-in-Some
returns-in-Some c a =
    let m = c.in-Some.ensures in
    rw c.at.ensures (variable_misfits (number c.args.rule) c.args.place c.args.context.variables c.args.context.conditions c.args.inflow.variables c.args.inflow.conditions a _ m.0 m.1 m.2)

pub returns-in-Some-first_misfit : goal.returns-in-Some-first_misfit
returns-in-Some-first_misfit c a =
    let m = c.in-Some-first_misfit.ensures in
    rw c.at-in-Some-first_misfit.ensures
    (condition_misfits (number c.args.rule) c.args.place c.args.context.variables c.args.context.conditions c.args.inflow.variables c.args.inflow.conditions a _ (search rules) c.in_default.ensures m.1 m.2)

pub returns : goal.returns
returns c a = none_misfits (number c.args.rule) c.args.place c.args.context.variables c.args.context.conditions c.args.inflow.variables c.args.inflow.conditions a c.in_default.ensures c.in_default-first_misfit.ensures
