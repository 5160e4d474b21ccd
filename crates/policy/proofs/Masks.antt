-- Bits of masks. Assumes nothing.
use Rattle.std.proofs.Common.{◌≡◌, ℕ, zero, suc, ◌+◌, ◌-◌, ◌*◌, ◌/◌, ◌%◌, ◌^◌, ◌<◌, ◌≤◌, Bool, true, false, cond, not, ◌&&◌, ◌||◌, eqb, ◌⊎◌, sym, refl, ap, ◌∙◌, inl, inr, mod-lt, zero-lt-suc, pow-suc, div-one, one-add, arith}
use native.Mathlib.Nat.{div-eq_of_lt, div_self, mul-mod_left}
use lib.Arith.{bin_ind}
use lib.Bits.{bit_and, bit_or, bit_xor, and_shr, and_mod, or_shr, or_mod, xor_shr, xor_mod, xor_zero_l, xor_zero_r, xor_self, xor_assoc, and_mask}
use Rattle.std.proofs.lemmas.Nat.{pow_pos, pow-add, shl-shr, shr-shr, pow_below, one_shl}
use Rattle.std.proofs.lemmas.Bool.{cases_Bool, cases_order, both_ways, eqb-true, eqb-false, eq-eqb, ne_eqb, cases_eq, and_parts, and_from, or_cases, or_left, or_right}
use Rattle.policy.specs.Policy.{Set, Policy, leaf, erase, wipes, wiped_by}
use Rattle.policy.specs.Masks.{bit, members, has_first, within}
use Rattle.policy.specs.Rows.{including}

two : (a : ℕ) → a % 2 < 2
two a = mod-lt a (zero-lt-suc 1)

digit_or : (x y : ℕ) → x < 2 → y < 2 → eqb (bit_or x y) 1 ≡ (eqb y 1 || eqb x 1)
digit_or zero zero hx hy = refl
digit_or zero (suc zero) hx hy = refl
digit_or zero (suc (suc y)) hx hy = absurd (omega arith)
digit_or (suc zero) zero hx hy = refl
digit_or (suc zero) (suc zero) hx hy = refl
digit_or (suc zero) (suc (suc y)) hx hy = absurd (omega arith)
digit_or (suc (suc x)) y hx hy = absurd (omega arith)

digit_xor : (x y : ℕ) → x < 2 → y < 2 → eqb (bit_xor x y) 1 ≡ cond (eqb y 1) (not (eqb x 1)) (eqb x 1)
digit_xor zero zero hx hy = refl
digit_xor zero (suc zero) hx hy = refl
digit_xor zero (suc (suc y)) hx hy = absurd (omega arith)
digit_xor (suc zero) zero hx hy = refl
digit_xor (suc zero) (suc zero) hx hy = refl
digit_xor (suc zero) (suc (suc y)) hx hy = absurd (omega arith)
digit_xor (suc (suc x)) y hx hy = absurd (omega arith)

digit_and : (x y : ℕ) → x < 2 → y < 2 → eqb (bit_and x y) 1 ≡ (eqb x 1 && eqb y 1)
digit_and zero zero hx hy = refl
digit_and zero (suc zero) hx hy = refl
digit_and zero (suc (suc y)) hx hy = absurd (omega arith)
digit_and (suc zero) zero hx hy = refl
digit_and (suc zero) (suc zero) hx hy = refl
digit_and (suc zero) (suc (suc y)) hx hy = absurd (omega arith)
digit_and (suc (suc x)) y hx hy = absurd (omega arith)

pub bit_or_lem : (k u q : ℕ) → bit k (bit_or u q) ≡ (bit k q || bit k u)
unfolding bit
bit_or_lem k u q = ap (λ (n : ℕ). eqb n 1) (ap (λ (n : ℕ). n % 2) (or_shr u q k) ∙ or_mod (u / 2 ^ k) (q / 2 ^ k) 1) ∙ digit_or _ _ (two (u / 2 ^ k)) (two (q / 2 ^ k))

pub bit_xor_lem : (k u q : ℕ) → bit k (bit_xor u q) ≡ cond (bit k q) (not (bit k u)) (bit k u)
unfolding bit
bit_xor_lem k u q = ap (λ (n : ℕ). eqb n 1) (ap (λ (n : ℕ). n % 2) (xor_shr u q k) ∙ xor_mod (u / 2 ^ k) (q / 2 ^ k) 1) ∙ digit_xor _ _ (two (u / 2 ^ k)) (two (q / 2 ^ k))

pub bit_and_lem : (k u q : ℕ) → bit k (bit_and u q) ≡ (bit k u && bit k q)
unfolding bit
bit_and_lem k u q = ap (λ (n : ℕ). eqb n 1) (ap (λ (n : ℕ). n % 2) (and_shr u q k) ∙ and_mod (u / 2 ^ k) (q / 2 ^ k) 1) ∙ digit_and _ _ (two (u / 2 ^ k)) (two (q / 2 ^ k))

even_pow : (c k : ℕ) → k < c → 2 ^ c / 2 ^ k % 2 ≡ 0
even_pow c k h =
    let d : ℕ = c - k - 1 in
    let e : c ≡ suc d + k = omega arith in
    let f : 2 ^ c ≡ 2 ^ suc d * 2 ^ k = ap (λ (n : ℕ). 2 ^ n) e ∙ pow-add 2 (suc d) k in
    ap (λ (n : ℕ). n / 2 ^ k % 2) f ∙ ap (λ (n : ℕ). n % 2) (shl-shr (2 ^ suc d) k) ∙ rw pow-suc (omega arith)

small_div : (a b : ℕ) → a < b → a / b % 2 ≡ 0
small_div a b h = ap (λ (n : ℕ). n % 2) (div-eq_of_lt h)

pub bit_pow : (k c : ℕ) → bit k (2 ^ c) ≡ eqb k c
unfolding bit
bit_pow k c =
    elim (cases_order k c) [
      | inl e ↦ ap (λ (n : ℕ). eqb (2 ^ c / 2 ^ n % 2) 1) e ∙ ap (λ (n : ℕ). eqb (n % 2) 1) (div_self (pow_pos c)) ∙ sym (eq-eqb k c e)
      | inr o ↦ elim o [
        | inl h ↦ ap (λ (n : ℕ). eqb n 1) (even_pow c k h) ∙ sym (ne_eqb k c (λ e. omega arith))
        | inr h ↦ ap (λ (n : ℕ). eqb n 1) (small_div (2 ^ c) (2 ^ k) (pow_below c k h)) ∙ sym (ne_eqb k c (λ e. omega arith))
      ]
    ]

-- a number has no bit as high as this
pub bit_small : (k n : ℕ) → n < 2 ^ k → bit k n ≡ false
unfolding bit
bit_small k n h = ap (λ (m : ℕ). eqb m 1) (small_div n (2 ^ k) h)

pub bit_zero : (k : ℕ) → bit k 0 ≡ false
bit_zero k = bit_small k 0 (pow_pos k)

-- a mask of w bits has no bit from w on
pub bit_high : (w k n : ℕ) → n < 2 ^ w → w ≤ k → bit k n ≡ false
bit_high w k n h i =
    bit_small k n
    (elim (cases_order w k) [
      | inl e ↦ rw (sym e) h
      | inr o ↦ elim o [
        | inl l ↦ omega (arith, pow_below w k l)
        | inr l ↦ absurd (omega arith)
      ]
    ])

-- a number that is not zero has a bit
pub some_bit : (n : ℕ) → (n ≡ 0 → ⊥) → (k : ℕ) × (bit k n ≡ true)
unfolding bit
some_bit =
    bin_ind (λ (n : ℕ). (n ≡ 0 → ⊥) → (k : ℕ) × (eqb (n / 2 ^ k % 2) 1 ≡ true)) (λ h. absurd (h refl))
    (λ n ih h. elim (cases_Bool (eqb (n % 2) 1)) [
      | inl e ↦ (0, ap (λ (m : ℕ). eqb (m % 2) 1) (div-one n) ∙ e)
      | inr e ↦ let ne : n % 2 ≡ 1 → ⊥ = eqb-false _ _ e in let r = ih (λ z. h (omega (arith, two n))) in (suc r.0, ap (λ (m : ℕ). eqb (m % 2) 1) (sym (shr-shr n 1 r.0 ∙ ap (λ (m : ℕ). n / 2 ^ m) (one-add r.0))) ∙ r.1)
    ])

-- a number that so many bits have no room for
pub no_bit : (w k : ℕ) → w ≤ k → (1 * 2 ^ k) % 2 ^ w ≡ 0
no_bit w k h =
    let e : k ≡ (k - w) + w = omega arith in
    ap (λ (n : ℕ). (1 * 2 ^ n) % 2 ^ w) e ∙ ap (λ (n : ℕ). n % 2 ^ w) (one (2 ^ (k - w + w)) ∙ pow-add 2 (k - w) w) ∙ mul-mod_left (2 ^ (k - w)) (2 ^ w)
  where
    one : (n : ℕ) → 1 * n ≡ n
    one n = omega arith

-- a mask with one more condition
pub bit_including : (c u k : ℕ) → c < 16 → bit k (including c u) ≡ (eqb k c || bit k u)
bit_including c u k h = bit_or_lem k u _ ∙ ap (λ (n : ℕ). bit k n || bit k u) (one_shl c 16 h) ∙ ap (λ b. b || bit k u) (bit_pow k c)

pub bit_raised : (c u k : ℕ) → c < 16 → bit k (including c u) ≡ cond (eqb k c) true (bit k u)
bit_raised c u k h = bit_including c u k h ∙ either (eqb k c) (bit k u)
  where
    either : (b d : Bool) → (b || d) ≡ cond b true d
    either true d = refl
    either false d = refl

-- the test `w >> c & 1 == 1`
pub bit_test : (c w : ℕ) → eqb (bit_and (w / 2 ^ c) 1) 1 ≡ bit c w
unfolding bit
bit_test c w = ap (λ (n : ℕ). eqb n 1) (and_mask (w / 2 ^ c) 1)

-- masks with the same bits are equal
pub same_bits : (a b : ℕ) → ((k : ℕ) → bit k a ≡ bit k b) → a ≡ b
same_bits a b f =
    elim (cases_eq (bit_xor a b) 0) [
      | inl z ↦ sym (xor_zero_r a) ∙ ap (bit_xor a) (sym z) ∙ sym (xor_assoc a a b) ∙ ap (λ (n : ℕ). bit_xor n b) (xor_self a) ∙ xor_zero_l b
      | inr n ↦ let r = some_bit (bit_xor a b) n in absurd (both_ways _ (bit_xor_lem r.0 a b ∙ ap (λ x. cond (bit r.0 b) (not x) x) (f r.0) ∙ never (bit r.0 b)) r.1)
    ]
  where
    never : (x : Bool) → cond x (not x) x ≡ false
    never true = refl
    never false = refl

-- two tests that follow from each other
same_tests : (x y : Bool) → (x ≡ true → y ≡ true) → (y ≡ true → x ≡ true) → x ≡ y
same_tests true y f h = sym (f refl)
same_tests false true f h = h refl
same_tests false false f h = refl

has_first_lem : (n mask : ℕ) (s : Set) → ((c : ℕ) → c < n → bit c mask ≡ true → s c ≡ true) → has_first n mask s ≡ true
unfolding has_first
has_first_lem zero mask s f = refl
has_first_lem (suc n) mask s f = and_from _ _ (here (bit n mask) (f n (omega arith))) (has_first_lem n mask s (λ c h. f c (omega arith)))
  where
    here : (b : Bool) → (b ≡ true → s n ≡ true) → (not b || s n) ≡ true
    here true h = h refl
    here false h = refl

first_has : (n mask : ℕ) (s : Set) → has_first n mask s ≡ true → (c : ℕ) → c < n → bit c mask ≡ true → s c ≡ true
unfolding has_first
first_has zero mask s e c h b = absurd (omega arith)
first_has (suc n) mask s e c h b =
    let parts = and_parts (not (bit n mask) || s n) (has_first n mask s) e in
    elim (cases_eq c n) [
      | inl i ↦ ap s i ∙ (elim (or_cases (not (bit n mask)) (s n) parts.0) [ inl u ↦ absurd (both_ways _ (ap not (ap (λ (m : ℕ). bit m mask) (sym i) ∙ b)) u) | inr u ↦ u ])
      | inr i ↦ first_has n mask s parts.1 c (omega (arith, i)) b
    ]

-- a guard lies in a set when the set has its members, of which there are sixteen
pub within_from : (mask : ℕ) (s : Set) → ((c : ℕ) → c < 16 → bit c mask ≡ true → s c ≡ true) → within mask s ≡ true
within_from = has_first_lem 16

pub within_member : (mask : ℕ) (s : Set) → within mask s ≡ true → (c : ℕ) → c < 16 → bit c mask ≡ true → s c ≡ true
within_member = first_has 16

pub within_none : (s : Set) → within 0 s ≡ true
within_none s = within_from 0 s (λ c h b. absurd (both_ways _ (bit_zero c) b))

pub within_itself : (mask : ℕ) → within mask (members mask) ≡ true
within_itself mask = within_from mask (members mask) (λ c h b. b)

-- what lies in a guard lies where the guard lies
pub within_more : (u mask : ℕ) (s : Set) → within mask s ≡ true → within u (members mask) ≡ true → within u s ≡ true
within_more u mask s h k = within_from u s (λ c i b. within_member mask s h c i (within_member u (members mask) k c i b))

pub within_including : (c mask : ℕ) (s : Set) → c < 16 → within (including c mask) s ≡ (within mask s && s c)
within_including c mask s h =
    same_tests _ _
    (λ e. and_from _ _ (within_from mask s (λ d i b. within_member (including c mask) s e d i (bit_including c mask d h ∙ or_right (eqb d c) _ b)))
    (within_member (including c mask) s e c h (bit_including c mask c h ∙ or_left _ (bit c mask) (eq-eqb c c refl))))
    (λ e. let parts = and_parts (within mask s) (s c) e in
    within_from (including c mask) s
    (λ d i b. elim (or_cases (eqb d c) (bit d mask) (sym (bit_including c mask d h) ∙ b)) [
      | inl q ↦ ap s (eqb-true d c q) ∙ parts.1
      | inr q ↦ within_member mask s parts.0 d i q
    ]))

-- the test `guard & set == guard`
pub within_test : (mask u : ℕ) → mask < 2 ^ 16 → eqb (bit_and mask u) mask ≡ within mask (members u)
within_test mask u h =
    same_tests _ _
    (λ e. within_from mask (members u) (λ c i b. (and_parts (bit c mask) (bit c u) (sym (bit_and_lem c mask u) ∙ ap (bit c) (eqb-true (bit_and mask u) mask e) ∙ b)).1))
    (λ e. eq-eqb _ _ (same_bits (bit_and mask u) mask (λ c. bit_and_lem c mask u ∙ both e c (cases_Bool (bit c mask)))))
  where
    small : (c : ℕ) → bit c mask ≡ true → c < 16
    small c b =
        elim (cases_order c 16) [
          | inl i ↦ absurd (both_ways _ (bit_high 16 c mask h (omega arith)) b)
          | inr o ↦ elim o [ inl i ↦ i | inr i ↦ absurd (both_ways _ (bit_high 16 c mask h (omega arith)) b) ]
        ]

    both : within mask (members u) ≡ true → (c : ℕ) → (bit c mask ≡ true) ⊎ (bit c mask ≡ false) → (bit c mask && bit c u) ≡ bit c mask
    both e c (inl b) = and_from _ _ b (within_member mask (members u) e c (small c b) b) ∙ sym b
    both e c (inr b) = ap (λ x. x && bit c u) b ∙ sym b

some_wiper : (s : Set) (p : Policy) → wiped_by s p ≡ true → (c : ℕ) × (wipes c p ≡ true) × (s c ≡ true)
some_wiper s (leaf l) h = absurd (both_ways false refl h)
some_wiper s (erase d p q) h =
    elim (or_cases (s d) (wiped_by s p) h) [
      | inl e ↦ (d, or_left _ _ (eq-eqb d d refl), e)
      | inr e ↦ let r = some_wiper s p e in (r.0, or_right (eqb r.0 d) _ r.1, r.2)
    ]

one_wiper : (c : ℕ) (s : Set) (p : Policy) → wipes c p ≡ true → s c ≡ true → wiped_by s p ≡ true
one_wiper c s (leaf l) h u = h
one_wiper c s (erase d p q) h u =
    elim (or_cases (eqb c d) (wipes c p) h) [
      | inl e ↦ or_left _ _ (ap s (sym (eqb-true c d e)) ∙ u)
      | inr e ↦ or_right (s d) _ (one_wiper c s p e u)
    ]

-- two masks meet where a condition that is up wipes
pub wiped_mask : (s : Set) (p : Policy) (w u : ℕ) → ((c : ℕ) → bit c w ≡ wipes c p) → ((c : ℕ) → s c ≡ bit c u) → not (wiped_by s p) ≡ eqb (bit_and w u) 0
wiped_mask s p w u hw hu =
    elim (cases_Bool (wiped_by s p)) [
      | inl e ↦
          let r = some_wiper s p e in
          let b : bit r.0 (bit_and w u) ≡ true = bit_and_lem r.0 w u ∙ and_from _ _ (hw r.0 ∙ r.1) (sym (hu r.0) ∙ r.2) in
          ap not e ∙ sym (ne_eqb _ _ (λ z. both_ways _ (ap (bit r.0) z ∙ bit_zero r.0) b))
      | inr e ↦ elim (cases_eq (bit_and w u) 0) [
        | inl z ↦ ap not e ∙ sym (eq-eqb _ _ z)
        | inr n ↦
            let r = some_bit (bit_and w u) n in
            let b = and_parts _ _ (sym (bit_and_lem r.0 w u) ∙ r.1) in
            absurd (both_ways _ e (one_wiper r.0 s p (sym (hw r.0) ∙ b.0) (hu r.0 ∙ b.1)))
      ]
    ]
