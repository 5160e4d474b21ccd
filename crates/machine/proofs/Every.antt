-- A test of every number below a bound.
use Rattle.std.proofs.Common.{◌≡◌, ℕ, zero, suc, ◌<◌, Bool, true, ap, ◌∙◌, inl, inr, not-suc-le-zero, arith}
use Rattle.std.proofs.lemmas.Bool.{cases_eq, and_parts}
use Rattle.machine.specs.Memory.{every}

pub all_of : (n : ℕ) (p : ℕ → Bool) → every n p ≡ true → (v : ℕ) → v < n → p v ≡ true
all_of zero p h v k = absurd (not-suc-le-zero k)
all_of (suc n) p h v k = elim (cases_eq v n) [
  | inl e ↦ ap p e ∙ (and_parts (p n) (every n p) h).0
  | inr e ↦ all_of n p (and_parts (p n) (every n p) h).1 v (omega arith)
]
