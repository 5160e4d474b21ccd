use Rattle.std.proofs.Common.{get_or}
use Rattle.std.specs.Fn.{FnReturnsAt}
use Rattle.flow.specs.TableFlows.{EachBit}
use Rattle.flow.proofs.items.mask_where.Given as goal

abbrev pub invariant-loop-place : goal.invariant-loop-place
invariant-loop-place g l = (d : _) → EachBit l.place (λ i. FnReturnsAt g.F.Fn l.test (get_or l.items i d)) l.mask
