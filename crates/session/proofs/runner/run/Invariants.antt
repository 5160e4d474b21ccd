use Rattle.std.proofs.Common.{◌≡◌, map, take, drop}
use Rattle.stream.specs.Calls.{heard}
use Rattle.session.proofs.Runs.{Sofar}
use Rattle.session.proofs.runner.run.Given as goal

abbrev pub invariant-loop-i : goal.invariant-loop-i
invariant-loop-i g l =
    Sofar g.L.Lattice.lattice g.S.Store.values g.S.Store.image l.initial.site.lattice l.site (take l.i l.answers) (map (heard 320) (take l.i l.call-items))
    × (drop l.i l.answers ≡ drop l.i l.initial.answers)
