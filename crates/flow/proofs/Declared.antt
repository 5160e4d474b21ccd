-- What is decided of each declared item is decided of a table's places, as far as it declares them. Assumes nothing.
use Rattle.std.proofs.Common.{◌≡◌, ℕ, ◌+◌, ◌*◌, ◌/◌, ◌%◌, ◌^◌, ◌<◌, ◌≤◌, Bool, true, eqb, List, length, get_or, take, sym, ap, ◌∙◌, subst, inl, inr, arith}
use Rattle.std.proofs.lemmas.Nat.{shr-shr, div-add-mod'}
use Rattle.std.proofs.lemmas.List.{get_or-take, get_or_past}
use Rattle.std.proofs.lemmas.Bool.{both_ways, cases_lt, cases_eq}
use Rattle.policy.specs.Masks.{bit}
use Rattle.policy.proofs.Masks.{some_bit}
use Rattle.flow.specs.TableFlows.{EachBit, EachItem, MadeOfEach}

-- a mask all of whose bits are below w
pub mask_below : (w n : ℕ) → ((k : ℕ) → bit k n ≡ true → k < w) → n % 2 ^ w ≡ n
unfolding bit
mask_below w n f =
    elim (cases_eq (n / 2 ^ w) 0) [
      | inl e ↦ omega (arith, div-add-mod' n (2 ^ w), ap (λ (q : ℕ). q * 2 ^ w) e)
      | inr ne ↦ let r = some_bit (n / 2 ^ w) ne in absurd (omega (arith, f (w + r.0) (ap (λ (q : ℕ). eqb (q % 2) 1) (sym (shr-shr n w r.0)) ∙ r.1)))
    ]

-- the declared items are the first n of a table's
module _ {T : Type 0} (xs ys : List T) (n : ℕ) (d : T) (is : ys ≡ take n xs) (as_many : length ys ≡ n) where
  same_item : (i : ℕ) → i < n → get_or ys i d ≡ get_or xs i d
  same_item i h = ap (λ l. get_or l i d) is ∙ get_or-take n xs i d h

  pub bits_declared : {R P : T → Bool → Type 0} (m : ℕ) → ((d : T) → EachBit (length ys) (λ i. R (get_or ys i d)) m) → ((x : T) (b : Bool) → R x b → P x b) → EachBit n (λ i. P (get_or xs i d)) m
  bits_declared {R} {P} m e f = record {
    below = λ i h. f _ _ (subst (λ x. R x (bit i m)) (same_item i h) ((e d).below i (omega (arith, as_many))));
    beyond = λ i h. (e d).beyond i (omega (arith, as_many));
  }

  pub items_declared : {X : Type 0} {R P : T → X → Type 0} {Nothing : X → Type 0} (none : X) (made : List X) → n ≤ length made → MadeOfEach R Nothing ys made
      → ((x : T) (y : X) → R x y → P x y) → ((y : X) → Nothing y → y ≡ none) → EachItem n none (λ i. P (get_or xs i d)) made
  items_declared {X} {R} {P} none made room e f nothing = record {
    below = λ i h. f _ _ (subst (λ x. R x (get_or made i none)) (same_item i h) ((e i none (omega arith)).below d (omega (arith, as_many))));
    beyond = λ i h. elim (cases_lt i (length made)) [
      | inl l ↦ nothing _ ((e i none l).beyond (omega (arith, as_many)))
      | inr l ↦ get_or_past made i none l
    ];
  }

-- so few bits fit a narrower mask
pub bits_fit : {P : ℕ → Bool → Type 0} (w n m : ℕ) → n ≤ w → EachBit n P m → m % 2 ^ w ≡ m
bits_fit w n m h e = mask_below w m (λ k b. elim (cases_lt k w) [ inl l ↦ l | inr l ↦ absurd (both_ways _ (e.beyond k (omega arith)) b) ])
