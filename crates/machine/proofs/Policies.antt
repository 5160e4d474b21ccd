-- Policies under sets of conditions, and the conditions that wipe.
use Rattle.std.proofs.Common.{◌≡◌, ℕ, true, false, cond, ◌||◌, eqb, sym, refl, ap, ◌∙◌, inl, inr, true≢false}
use Rattle.std.proofs.lemmas.Bool.{or_cases, or_left, or_right, eq-eqb, eqb-true}
use Rattle.lattice.specs.Lattice.{Lattice, Lawful, Below}
use Rattle.policy.specs.Policy.{Set, Policy, leaf, erase, level_under, present_level, KnownLevels, wipes, wiped_by}
use Rattle.policy.proofs.Orders.{below_trans}
use Rattle.policy.proofs.RowLevels.{known_under}

module _ {C : Lattice} (W : Lawful C) where
  -- the level grows with the set
  pub grows : (s : Set) (p : Policy) → KnownLevels C p → Below C (present_level C p) (level_under C s p)
  grows s (leaf l) k = W.reflexive l k
  grows s (erase c p q) k =
      let kp = known_under W s p k.0 in
      let kq = known_under W s q k.1 in
      let g = grows s p k.0 in
      elim (s c) as (λ b. Below C (present_level C p) (cond b (C.join (level_under C s p) (level_under C s q)) (level_under C s p))) [
        | true ↦ below_trans W _ _ _ g (W.join_left _ _ kp kq)
        | false ↦ g
      ]

-- where the set lifts a policy above a level, the set wipes it
pub lifted_wiped : (C : Lattice) (l : ℕ) (s : Set) (p : Policy) → Below C (present_level C p) l → C.below (level_under C s p) l ≡ false → wiped_by s p ≡ true
lifted_wiped C l s (leaf x) h k = absurd (true≢false (sym h ∙ k))
lifted_wiped C l s (erase c p q) h k =
    (elim (s c) as (λ b. C.below (cond b (C.join (level_under C s p) (level_under C s q)) (level_under C s p)) l ≡ false → (b || wiped_by s p) ≡ true) [
      | true ↦ λ k. refl
      | false ↦ λ k. lifted_wiped C l s p h k
    ]) k

pub wiped_more : (s t : Set) (p : Policy) → ((c : ℕ) → s c ≡ true → t c ≡ true) → wiped_by s p ≡ true → wiped_by t p ≡ true
wiped_more s t (leaf l) f h = h
wiped_more s t (erase c p q) f h =
    elim (or_cases (s c) (wiped_by s p) h) [
      | inl e ↦ or_left (t c) (wiped_by t p) (f c e)
      | inr e ↦ or_right (t c) (wiped_by t p) (wiped_more s t p f e)
    ]

-- only what wipes counts
pub wiped_alike : (s t : Set) (p : Policy) → ((c : ℕ) → wipes c p ≡ true → s c ≡ t c) → wiped_by s p ≡ wiped_by t p
wiped_alike s t (leaf l) f = refl
wiped_alike s t (erase c p q) f =
    let e = f c (or_left (eqb c c) (wipes c p) (eq-eqb c c refl)) in
    let r = wiped_alike s t p (λ d h. f d (or_right (eqb d c) (wipes d p) h)) in
    ap (λ b. b || wiped_by s p) e ∙ ap (λ b. t c || b) r

pub wiped_one : (c : ℕ) (s : Set) (p : Policy) → wipes c p ≡ true → s c ≡ true → wiped_by s p ≡ true
wiped_one c s (leaf l) h u = h
wiped_one c s (erase d p q) h u =
    elim (or_cases (eqb c d) (wipes c p) h) [
      | inl e ↦ or_left (s d) (wiped_by s p) (ap s (sym (eqb-true c d e)) ∙ u)
      | inr e ↦ or_right (s d) (wiped_by s p) (wiped_one c s p e u)
    ]
