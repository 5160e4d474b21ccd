-- Which policies a row has room for: where no part is deeper than 4, there are at most eight leaves.
use Rattle.std.specs.Prelude.{ℕ, ◌+◌, ◌<◌, ◌≤◌, cond, ◌==◌}
use Rattle.policy.specs.Policy.{Policy, leaf, erase}

-- all its conditions are below this number, its root is at this depth, and no part is deeper than 4
abbrev pub Shaped : ℕ → ℕ → Policy → Type 0
Shaped conditions depth (leaf level) = depth ≤ 4
Shaped conditions depth (erase c present later) = (c < conditions) × (depth ≤ 4) × Shaped conditions (depth + 1) present × Shaped conditions (depth + 1) later

-- how many leaves a part at this depth can have
abbrev pub room : ℕ → ℕ
room depth = cond (depth == 1) 8 (cond (depth == 2) 4 (cond (depth == 3) 2 (cond (depth == 4) 1 0)))
