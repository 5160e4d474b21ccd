-- What one mask has and another has not.
use Rattle.std.specs.Prelude.{ℕ, Bool, not, ◌||◌}
use Rattle.policy.specs.Masks.{bit}

-- the second mask has this number if the first has it
abbrev pub inside : ℕ → ℕ → ℕ → Bool
inside i held admitted = not (bit i held) || bit i admitted
