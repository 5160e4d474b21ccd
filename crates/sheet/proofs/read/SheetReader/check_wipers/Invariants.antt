use Rattle.std.proofs.Common.{◌≡◌, ℕ, ◌<◌, true, not, ◌||◌, get_or}
use Rattle.policy.specs.Masks.{bit}
use Rattle.policy.specs.Rows.{no_leaf}
use Rattle.sheet.proofs.read.SheetReader.check_wipers.Given as goal

abbrev pub invariant-loop-condition : goal.invariant-loop-condition
invariant-loop-condition g l = (c : ℕ) → c < l.condition → (not (bit c l.policy.wipers) || (g.L.Lattice.lattice l.self.lattice.now).below (get_or l.self.table.levels c 0) (get_or l.policy.levels 0 no_leaf).level) ≡ true
