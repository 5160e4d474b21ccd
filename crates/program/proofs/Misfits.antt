-- Masks of sixty-four bits, and the lowest bit of a misfit mask. Assumes nothing.
use Rattle.std.proofs.Common.{◌≡◌, ℕ, ◌+◌, ◌-◌, ◌/◌, ◌%◌, ◌^◌, ◌<◌, Bool, true, false, not, ◌&&◌, ◌||◌, eqb, sym, refl, ap, ◌∙◌, inl, inr, mod-eq_of_lt, arith}
use lib.Bits.{bit_and, bit_xor, xor_add_and, and_mask}
use Rattle.std.proofs.lemmas.Nat.{pow_pos, pow_below}
use Rattle.std.proofs.lemmas.Bool.{cases_lt, both_ways, eq-eqb, and_parts, cond-true}
use Rattle.records.specs.Refusals.{refusal}
use Rattle.records.specs.Rules.{Reading, refused, Rule, rule, each_from, first}
use Rattle.records.proofs.Firsts.{first_append, each_holds, each_refuses}
use Rattle.policy.specs.Masks.{bit}
use Rattle.policy.proofs.Masks.{bit_and_lem, bit_xor_lem, bit_pow, bit_zero, bit_high}
use Rattle.program.specs.Checks.{masked}
use Rattle.program.specs.Rules.{each_within}
use Rattle.program.specs.Misfits.{inside}

full_bit : (w k : ℕ) → k < w → bit k (2 ^ w - 1) ≡ true
full_bit w k h =
    (and_parts (bit k (2 ^ k)) (bit k (2 ^ w - 1))
    (sym (bit_and_lem k (2 ^ k) (2 ^ w - 1)) ∙ ap (bit k) (and_mask (2 ^ k) w ∙ mod-eq_of_lt (pow_below k w h)) ∙ bit_pow k k ∙ eq-eqb k k refl)).1

pub bit_not : (w k x : ℕ) → x < 2 ^ w → k < w → bit k (2 ^ w - 1 - x) ≡ not (bit k x)
bit_not w k x h l =
    let a : bit_and x (2 ^ w - 1) ≡ x = and_mask x w ∙ mod-eq_of_lt h in
    let b = xor_add_and x (2 ^ w - 1) in
    let p = pow_pos w in
    let e : 2 ^ w - 1 - x ≡ bit_xor x (2 ^ w - 1) = omega (arith, a, b, p) in
    ap (bit k) e ∙ bit_xor_lem k x (2 ^ w - 1) ∙ cond-true (bit k (2 ^ w - 1)) _ _ (full_bit w k l)

misfit : (x y : Bool) → (x && not y) ≡ true → (not x || y) ≡ false
misfit true true h = absurd (both_ways false refl h)
misfit true false h = refl
misfit false y h = absurd (both_ways false refl h)

fits : (x y : Bool) → (x && not y) ≡ false → (not x || y) ≡ true
fits true true h = refl
fits true false h = absurd (both_ways true h refl)
fits false y h = refl

module _ (held admitted : ℕ) (h : admitted < 2 ^ 64) where
  misfit_bit : (i : ℕ) → i < 64 → bit i (bit_and held (2 ^ 64 - 1 - admitted)) ≡ (bit i held && not (bit i admitted))
  misfit_bit i l = bit_and_lem i held (2 ^ 64 - 1 - admitted) ∙ ap (λ b. bit i held && b) (bit_not 64 i admitted h l)

  pub no_misfit : bit_and held (2 ^ 64 - 1 - admitted) ≡ 0 → (i : ℕ) → i < 64 → inside i held admitted ≡ true
  no_misfit z i l = fits (bit i held) (bit i admitted) (sym (misfit_bit i l) ∙ ap (bit i) z ∙ bit_zero i)

  pub lowest_misfit : (i : ℕ) → i < 64 → bit_and held (2 ^ 64 - 1 - admitted) / 2 ^ i % 2 ≡ 1 → ((j : ℕ) → j < i → bit_and held (2 ^ 64 - 1 - admitted) / 2 ^ j % 2 ≡ 0)
      → (i < 64) × (inside i held admitted ≡ false) × ((j : ℕ) → j < i → inside j held admitted ≡ true)
  unfolding bit
  lowest_misfit i l e f = (
    l,
    misfit (bit i held) (bit i admitted) (sym (misfit_bit i l) ∙ eq-eqb _ 1 e),
    λ j k. fits (bit j held) (bit j admitted) (sym (misfit_bit j (omega arith)) ∙ ap (λ (n : ℕ). eqb n 1) (f j k)),
  )

-- ── the rules on what reaches a target, over masks ──

held_of : (x y : Bool) → (not x || y) ≡ false → x ≡ true
held_of true y h = refl
held_of false y h = absurd (both_ways true h refl)

module _ {X : Type 0} (number place vs cs vs' cs' : ℕ) (a : Reading X) where
  abbrev on_variables : ℕ → Rule
  on_variables v = rule number place v (inside v vs vs')

  abbrev on_conditions : ℕ → Rule
  on_conditions c = rule number place (256 + c) (inside c cs cs')

  parted : first (each_within number place (masked vs cs) (masked vs' cs')) a ≡ first (each_from 0 64 on_variables) (first (each_from 0 16 on_conditions) a)
  unfolding each_within
  parted = first_append (each_from 0 64 on_variables) (each_from 0 16 on_conditions) a

  pub variable_misfits : (v : ℕ) → v < 64 → inside v vs vs' ≡ false → ((w : ℕ) → w < v → inside w vs vs' ≡ true)
      → first (each_within number place (masked vs cs) (masked vs' cs')) a ≡ refused (refusal number place v)
  variable_misfits v l e f = parted ∙ each_refuses 0 64 v on_variables _ (omega arith) (omega arith) f e

  pub condition_misfits : (c : ℕ) → cs < 2 ^ 16 → ((v : ℕ) → v < 64 → inside v vs vs' ≡ true) → inside c cs cs' ≡ false → ((d : ℕ) → d < c → inside d cs cs' ≡ true)
      → first (each_within number place (masked vs cs) (masked vs' cs')) a ≡ refused (refusal number place (256 + c))
  condition_misfits c s all e f =
      let small : c < 16 = elim (cases_lt c 16) [ inl l ↦ l | inr l ↦ absurd (both_ways _ (bit_high 16 c cs s l) (held_of (bit c cs) (bit c cs') e)) ] in
      parted ∙ each_holds 0 64 on_variables _ (λ v l. all v (omega arith)) ∙ each_refuses 0 16 c on_conditions a (omega arith) (omega arith) f e

  pub none_misfits : ((v : ℕ) → v < 64 → inside v vs vs' ≡ true) → ((c : ℕ) → c < 64 → inside c cs cs' ≡ true) → first (each_within number place (masked vs cs) (masked vs' cs')) a ≡ a
  none_misfits f g = parted ∙ each_holds 0 64 on_variables _ (λ v l. f v (omega arith)) ∙ each_holds 0 16 on_conditions a (λ c l. g c (omega arith))
