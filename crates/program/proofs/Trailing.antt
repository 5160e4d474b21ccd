-- `count_trailing_zeros` finds the lowest set bit. Assumes nothing.
use Rattle.std.proofs.Common.{◌≡◌, ℕ, zero, suc, ◌*◌, ◌/◌, ◌%◌, ◌^◌, ◌<◌, sym, refl, ap, ◌∙◌, suc-le-suc, pow-suc, one-add, arith}
use lib.Count.{count_trailing_zeros, under}
use Rattle.std.proofs.lemmas.Nat.{shr-shr}

abbrev digit : ℕ → ℕ → ℕ
digit n k = n / 2 ^ k % 2

bit_zero : (n : ℕ) → digit n 0 ≡ n % 2
bit_zero n = omega arith

bit_suc : (n k : ℕ) → digit n (suc k) ≡ digit (n / 2) k
bit_suc n k = ap (λ x. x % 2) (sym (shr-shr n 1 k ∙ ap (λ j. n / 2 ^ j) (one-add k)))

Found : ℕ → ℕ → ℕ → Type 0
Found w n k = (k < w) × ((digit n k ≡ 1) × ((j : ℕ) → j < k → digit n j ≡ 0))

here : (w n d : ℕ) → n % 2 ≡ suc d → Found (suc w) n 0
unfolding Found
here w n d e = (omega arith, (omega (arith, bit_zero n), λ j h. absurd (omega arith)))

lower : (n t : ℕ) → n % 2 ≡ zero → ((j : ℕ) → j < t → digit (n / 2) j ≡ 0) → (j : ℕ) → j < suc t → digit n j ≡ 0
lower n t e f zero h = bit_zero n ∙ e
lower n t e f (suc j) h = bit_suc n j ∙ f j (omega arith)

there : (w n t : ℕ) → n % 2 ≡ zero → Found w (n / 2) t → Found (suc w) n (suc t)
unfolding Found
there w n t e f = (suc-le-suc f.0, (bit_suc n t ∙ f.1.0, lower n t e f.1.1))

turn : (w n d t : ℕ) → n % 2 ≡ d → (d ≡ zero → Found w (n / 2) t) → Found (suc w) n (under d t)
turn w n zero t e f = there w n t e (f refl)
turn w n (suc d) t e f = here w n d e

trailing_found : (w n : ℕ) → n < 2 ^ w → 0 < n → Found w n (count_trailing_zeros w n)
unfolding count_trailing_zeros
trailing_found zero n h p = absurd (omega arith)
trailing_found (suc w) n h p =
    turn w n (n % 2) (count_trailing_zeros w (n / 2)) refl
    (λ e. let q : n < 2 ^ w * 2 = rw pow-suc at h in trailing_found w (n / 2) (omega arith) (omega arith))

pub trailing_lowest : (w n : ℕ) → n < 2 ^ w → 0 < n → (count_trailing_zeros w n < w) × ((digit n (count_trailing_zeros w n) ≡ 1) × ((j : ℕ) → j < count_trailing_zeros w n → digit n j ≡ 0))
unfolding Found
trailing_lowest w n h p = trailing_found w n h p
