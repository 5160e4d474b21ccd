use Rattle.std.specs.Fn.{FnReturnsAt}
use Rattle.flow.proofs.Made.{MadeUpTo}
use Rattle.flow.proofs.items.made_of.Given as goal

abbrev pub invariant-loop-place : goal.invariant-loop-place
invariant-loop-place g l = MadeUpTo (FnReturnsAt g.F.Fn l.make) g.U.Default.is_default g.row.N l.within l.place l.made
