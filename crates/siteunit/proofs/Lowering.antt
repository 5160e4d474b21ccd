-- A mask of sixteen conditions without one of them: `u & !(1 << c)`. Assumes nothing.
use Rattle.std.proofs.Common.{◌≡◌, ℕ, ◌-◌, ◌*◌, ◌%◌, ◌^◌, ◌<◌, Bool, true, false, cond, not, ◌&&◌, eqb, refl, ap, ◌∙◌, inl, inr, arith}
use lib.Bits.{bit_and}
use Rattle.std.proofs.lemmas.Nat.{one_shl}
use Rattle.std.proofs.lemmas.Bool.{cases_lt}
use Rattle.policy.specs.Masks.{bit}
use Rattle.policy.proofs.Masks.{bit_and_lem, bit_high}
use Rattle.machine.specs.Memory.{every}
use Rattle.machine.proofs.Every.{all_of}

same : Bool → Bool → Bool
same b d = cond b d (not d)

same_true : (b d : Bool) → same b d ≡ true → b ≡ d
unfolding same
same_true b d = grind arith

-- sixteen times sixteen cases
all_but : every 16 (λ c. every 16 (λ k. same (bit k (65535 - 2 ^ c)) (not (eqb k c)))) ≡ true
unfolding same bit
all_but = refl

bit_but : (c k : ℕ) → c < 16 → k < 16 → bit k (65535 - 2 ^ c) ≡ not (eqb k c)
bit_but c k h l =
    same_true _ _ (all_of 16 (λ k. same (bit k (65535 - 2 ^ c)) (not (eqb k c))) (all_of 16 (λ c. every 16 (λ k. same (bit k (65535 - 2 ^ c)) (not (eqb k c)))) all_but c h) k l)

pub bit_without : (c u n k : ℕ) → c < 16 → u < 2 ^ 16 → n ≡ (1 * 2 ^ c) % 2 ^ 16 → bit k (bit_and u (65535 - n)) ≡ cond (eqb k c) false (bit k u)
bit_without c u n k h small e =
    bit_and_lem k u _ ∙ ap (λ (n : ℕ). bit k u && bit k (65535 - n)) (e ∙ one_shl c 16 h)
    ∙ elim (cases_lt k 16) [
      | inl l ↦ let other : bit k (65535 - 2 ^ c) ≡ not (eqb k c) = bit_but c k h l in grind arith
      | inr l ↦ let high : bit k u ≡ false = bit_high 16 k u small l in grind arith
    ]
