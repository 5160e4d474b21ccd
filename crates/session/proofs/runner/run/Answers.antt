use Rattle.std.proofs.Common.{◌+◌, ◌<◌, length, take, drop, sym, ap, ◌∙◌, arith, length-take}
use Rattle.std.proofs.lemmas.List.{take_more_set, drop-drop, drop-set-lt}
use Rattle.stream.specs.declared.calls.Call.{Call}
use Rattle.session.proofs.Runs.{tells, run_next}
use Rattle.session.proofs.Promises.{promised}
use Rattle.session.proofs.runner.run.Goals as goal

pub loop-i-preserved : goal.loop-i-preserved
loop-i-preserved g c =
    let i = c.loop-i.i in
    let vs = c.loop-i.answers in
    let a = c.unwrap_or_else.result in
    let t = c.loop-i-test.true in
    let kept = c.loop-i.auto.answers in
    let room : i < length vs = omega (arith, length-take {A = Call}) in (
      run_next g.L.Lattice.lattice g.S.Store.values g.S.Store.image c.new-site.result.lattice (take c.min-count.result c.args.calls.now) i _ t
          c.loop-i.site c.perform.new.site (take i vs) _ c.perform.result a c.loop-i.invariant.0 c.perform.ensures (tells c.perform.result a c.unwrap_or_else.ensures) (take_more_set vs i a room),
      drop-set-lt (i + 1) vs i a (omega arith) ∙ sym (drop-drop 1 i vs) ∙ ap (drop 1) c.loop-i.invariant.1 ∙ drop-drop 1 i c.args.answers.now,
    )

pub returns-clause-promises : goal.returns-clause-promises
returns-clause-promises g c = promised (g.L.Lattice.lattice c.args.lattice) g.S.Store.image (g.met.L.Lattice.lawful c.args.lattice)
