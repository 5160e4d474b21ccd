use Rattle.std.proofs.Common.{ℕ, not, ◌||◌, get_or, refl, arith}
use Rattle.policy.specs.Masks.{bit}
use Rattle.policy.specs.Rows.{no_leaf}
use Rattle.records.specs.Rules.{Rule, rule}
use Rattle.records.proofs.Firsts.{each_refuses}
use Rattle.sheet.proofs.read.SheetReader.check_wipers.Goals as goal

pub returns-then-not-below : goal.returns-then-not-below
returns-then-not-below g c =
    let f : ℕ → Rule = λ k. rule 9 c.args.place k (not (bit k c.args.policy.now.wipers) || (g.L.Lattice.lattice c.args.self.now.lattice.now).below (get_or c.args.self.now.table.levels k 0) (get_or c.args.policy.now.levels 0 no_leaf).level) in
    let b = rw c.into.ensures at c.if-has.ensures in
    let n = rw c.present_level-present.ensures at c.if-not-below.ensures in
    λ a. rw c.at.ensures (each_refuses 0 16 c.loop-condition.condition f a (omega arith) c.loop-condition-test.true c.loop-condition.invariant (rw (← b, ← n) refl))
