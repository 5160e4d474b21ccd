-- One turn of a loop that decides a bit of a mask. Assumes nothing.
use Rattle.std.proofs.Common.{◌≡◌, ℕ, ◌+◌, ◌*◌, ◌%◌, ◌^◌, ◌<◌, Bool, true, false, cond, ◌||◌, eqb, sym, refl, ap, ◌∙◌, subst, inl, inr, arith, below_more}
use lib.Bits.{bit_or}
use Rattle.std.proofs.lemmas.Nat.{one_shl}
use Rattle.std.proofs.lemmas.Bool.{eq-eqb, ne_eqb, cases_eq}
use Rattle.policy.specs.Masks.{bit}
use Rattle.policy.proofs.Masks.{bit_or_lem, bit_pow, bit_zero}
use Rattle.flow.specs.TableFlows.{EachBit}

pub bits_none : (P : ℕ → Bool → Type 0) → EachBit 0 P 0
bits_none P = record { below = λ i h. absurd (omega arith); beyond = λ i h. bit_zero i }

-- bit i is decided, the others stay
pub bits_more : (P : ℕ → Bool → Type 0) (b : Bool) (i m m' : ℕ) → EachBit i P m → P i b → ((k : ℕ) → bit k m' ≡ cond (eqb k i) b (bit k m)) → EachBit (i + 1) P m'
bits_more P b i m m' h p f = record {
  below = below_more (λ k. P k (bit k m')) i (λ k l. subst (P k) (sym (other k (λ e. omega arith))) (h.below k l)) (subst (P i) (sym (f i ∙ ap (λ t. cond t b (bit i m)) (eq-eqb i i refl))) p);
  beyond = λ k l. other k (λ e. omega arith) ∙ h.beyond k (omega arith);
}
  where
    other : (k : ℕ) → (k ≡ i → ⊥) → bit k m' ≡ bit k m
    other k ne = f k ∙ ap (λ t. cond t b (bit k m)) (ne_eqb k i ne)

pub bits_set : (P : ℕ → Bool → Type 0) (w i m m' : ℕ) → i < w → EachBit i P m → P i true → m' ≡ bit_or m ((1 * 2 ^ i) % 2 ^ w) → EachBit (i + 1) P m'
bits_set P w i m m' l h p e =
    bits_more P true i m m' h p (λ k. ap (bit k) (e ∙ ap (bit_or m) (one_shl i w l)) ∙ bit_or_lem k m (2 ^ i) ∙ ap (λ t. t || bit k m) (bit_pow k i) ∙ either (eqb k i) (bit k m))
  where
    either : (b d : Bool) → (b || d) ≡ cond b true d
    either true d = refl
    either false d = refl

pub bits_left : (P : ℕ → Bool → Type 0) (i m m' : ℕ) → EachBit i P m → P i false → m' ≡ m → EachBit (i + 1) P m'
bits_left P i m m' h p e = bits_more P false i m m' h p (λ k. ap (bit k) e ∙ down k)
  where
    down : (k : ℕ) → bit k m ≡ cond (eqb k i) false (bit k m)
    down k =
        elim (cases_eq k i) [
          | inl q ↦ h.beyond k (omega arith) ∙ sym (ap (λ t. cond t false (bit k m)) (eq-eqb k i q))
          | inr q ↦ sym (ap (λ t. cond t false (bit k m)) (ne_eqb k i q))
        ]

pub bits_all : {P : ℕ → Bool → Type 0} {m : ℕ} (i n : ℕ) → i ≡ n → EachBit i P m → EachBit n P m
bits_all {P} {m} i n = subst (λ k. EachBit k P m)
