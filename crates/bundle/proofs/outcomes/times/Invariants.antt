use Rattle.std.proofs.Common.{◌≡◌, ◌≤◌, take}
use Rattle.bundle.specs.Outcomes.{occurrences}
use Rattle.bundle.proofs.outcomes.times.Given as goal

abbrev pub invariant-loop-other : goal.invariant-loop-other
invariant-loop-other l = (l.count ≡ occurrences l.outcome (take l.other-index l.outcomes)) × (l.count ≤ l.other-index)
