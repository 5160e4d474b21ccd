use Rattle.std.proofs.Common.{◌≡◌, take}
use Rattle.siteunit.proofs.calls.draw.Given as goal

abbrev pub invariant-loop-at : goal.invariant-loop-at
invariant-loop-at g l = take l.at l.buffer ≡ take l.at (g.S.Store.image (g.S.Store.values l.store))
