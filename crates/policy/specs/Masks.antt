-- Sets as masks: bit i stands for the number i.
use Rattle.std.specs.Prelude.{ℕ, zero, suc, ◌/◌, ◌%◌, ◌^◌, Bool, true, not, ◌&&◌, ◌||◌, ◌==◌}
use Rattle.policy.specs.Policy.{Set}

unfoldable pub bit : ℕ → ℕ → Bool
bit i mask = mask / 2 ^ i % 2 == 1

-- the set that a mask stands for
abbrev pub members : ℕ → Set
members mask i = bit i mask

-- does the set have all of the first n numbers that the mask has?
unfoldable pub has_first : ℕ → ℕ → Set → Bool
has_first zero mask s = true
has_first (suc n) mask s = (not (bit n mask) || s n) && has_first n mask s

-- does a mask of sixteen conditions lie in the set?
abbrev pub within : ℕ → Set → Bool
within mask s = has_first 16 mask s
