-- Contexts as masks. Assumes nothing.
use Rattle.std.proofs.Common.{◌≡◌, ℕ, ◌*◌, ◌%◌, ◌^◌, ◌<◌, ◌||◌, eqb, sym, ap, ◌∙◌}
use lib.Bits.{bit_or}
use Rattle.std.proofs.lemmas.Nat.{one_shl}
use Rattle.policy.specs.Masks.{bit, members}
use Rattle.policy.specs.Rows.{including}
use Rattle.policy.proofs.Masks.{bit_or_lem, bit_pow, bit_zero, bit_including}
use Rattle.machine.specs.Typing.{outermost, under_variable, under_condition, under_conditions}
use Rattle.program.specs.Checks.{masked}

-- ── a context as two masks, with one more ──

pub masked_outermost : outermost ≡ masked 0 0
masked_outermost = λ i. record { variables = λ v. sym (bit_zero v) i; conditions = λ c. sym (bit_zero c) i }

pub bit_variable : (b u k : ℕ) → b < 64 → bit k (bit_or u ((1 * 2 ^ b) % 2 ^ 64)) ≡ (eqb k b || bit k u)
bit_variable b u k h = bit_or_lem k u _ ∙ ap (λ (n : ℕ). bit k n || bit k u) (one_shl b 64 h) ∙ ap (λ x. x || bit k u) (bit_pow k b)

pub masked_variable : (b variables conditions : ℕ) → b < 64 → under_variable b (masked variables conditions) ≡ masked (bit_or variables ((1 * 2 ^ b) % 2 ^ 64)) conditions
masked_variable b variables conditions h = λ i. record { variables = λ v. sym (bit_variable b variables v h) i; conditions = members conditions }

pub masked_condition : (c variables conditions : ℕ) → c < 16 → under_condition c (masked variables conditions) ≡ masked variables (including c conditions)
masked_condition c variables conditions h = λ i. record { variables = members variables; conditions = λ k. sym (bit_including c conditions k h) i }

pub masked_conditions : (mask variables conditions : ℕ) → under_conditions (members mask) (masked variables conditions) ≡ masked variables (bit_or conditions mask)
masked_conditions mask variables conditions = λ i. record { variables = members variables; conditions = λ k. sym (bit_or_lem k conditions mask) i }
