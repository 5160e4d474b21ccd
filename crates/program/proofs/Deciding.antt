-- The test of flowing is right both ways. Assumes nothing.
use Rattle.std.proofs.Common.{◌≡◌, ℕ, Bool, true, false, cond, eqb, refl, ap, ◌∙◌, inl, inr}
use mathlib.Core.Bool.{false≢true}
use Rattle.std.proofs.lemmas.Bool.{or_cases, or_left, or_right, eq-eqb, eqb-true, and_parts, and_from}
use Rattle.lattice.specs.Lattice.{Lattice, Lawful, Below}
use Rattle.policy.specs.Policy.{Set, none, add, Policy, leaf, erase, level_under, KnownLevels, FlowsTo}
use Rattle.policy.proofs.Orders.{below_trans}
use Rattle.policy.proofs.RowLevels.{known_under}
use Rattle.program.specs.Deciding.{flows_under, flows, DecidesFlow}

abbrev Within : Set → Set → Type 0
Within s t = (c : ℕ) → s c ≡ true → t c ≡ true

within_add : (s t : Set) (c : ℕ) → Within s t → t c ≡ true → Within (add c s) t
within_add s t c h k d e = elim (or_cases (eqb d c) (s d) e) [ inl q ↦ ap t (eqb-true d c q) ∙ k | inr q ↦ h d q ]

added : (s t : Set) (c : ℕ) → Within (add c s) t → t c ≡ true
added s t c h = h c (or_left (eqb c c) (s c) (eq-eqb c c refl))

within_more : (s t : Set) (c : ℕ) → Within (add c s) t → Within s t
within_more s t c h d e = h d (or_right (eqb d c) (s d) e)

module _ {C : Lattice} (W : Lawful C) where
  -- a larger set, a higher level
  monotone : (s t : Set) (p : Policy) → KnownLevels C p → Within s t → Below C (level_under C s p) (level_under C t p)
  monotone s t (leaf l) k h = W.reflexive l k
  monotone s t (erase c p q) k h = go (s c) (t c) (h c) (monotone s t p k.0 h) (monotone s t q k.1 h)
    where
      sp : ℕ
      sp = level_under C s p

      sq : ℕ
      sq = level_under C s q

      tp : ℕ
      tp = level_under C t p

      tq : ℕ
      tq = level_under C t q

      go : (x y : Bool) → (x ≡ true → y ≡ true) → Below C sp tp → Below C sq tq → Below C (cond x (C.join sp sq) sp) (cond y (C.join tp tq) tp)
      go true true i a b =
          let kp = known_under W t p k.0 in
          let kq = known_under W t q k.1 in
          W.join_least sp sq (C.join tp tq) (known_under W s p k.0) (known_under W s q k.1) (W.join_known tp tq kp kq)
          (below_trans W _ _ _ a (W.join_left tp tq kp kq)) (below_trans W _ _ _ b (W.join_right tp tq kp kq))
      go true false i a b = absurd (false≢true (i refl))
      go false true i a b = below_trans W _ _ _ a (W.join_left tp tq (known_under W t p k.0) (known_under W t q k.1))
      go false false i a b = a

  sound_under : (s : Set) (p q : Policy) → KnownLevels C p → KnownLevels C q → flows_under C s p q ≡ true → (t : Set) → Within s t → Below C (level_under C t p) (level_under C t q)
  unfolding flows_under
  sound_under s (leaf l) q k k' e t h = below_trans W _ _ _ e (monotone s t q k' h)
  sound_under s (erase c p r) q k k' e t h =
      let parts = and_parts (flows_under C s p q) (flows_under C (add c s) r q) e in
      go (t c) refl (sound_under s p q k.0 k' parts.0 t h) (λ u. sound_under (add c s) r q k.1 k' parts.1 t (within_add s t c h u))
    where
      go : (x : Bool) → t c ≡ x → Below C (level_under C t p) (level_under C t q) → (t c ≡ true → Below C (level_under C t r) (level_under C t q))
          → Below C (cond x (C.join (level_under C t p) (level_under C t r)) (level_under C t p)) (level_under C t q)
      go true u a b = W.join_least _ _ _ (known_under W t p k.0) (known_under W t r k.1) (known_under W t q k') a (b u)
      go false u a b = a

  complete_under : (s : Set) (p q : Policy) → KnownLevels C p → KnownLevels C q → ((t : Set) → Within s t → Below C (level_under C t p) (level_under C t q)) → flows_under C s p q ≡ true
  unfolding flows_under
  complete_under s (leaf l) q k k' f = f s (λ c e. e)
  complete_under s (erase c p r) q k k' f =
      and_from (flows_under C s p q) (flows_under C (add c s) r q)
      (complete_under s p q k.0 k' (λ t h. below_trans W _ _ _ (first t (t c)) (f t h)))
      (complete_under (add c s) r q k.1 k' (λ t h. below_trans W _ _ _ (second t (t c) (added s t c h)) (f t (within_more s t c h))))
    where
      level : Set → Bool → ℕ
      level t x = cond x (C.join (level_under C t p) (level_under C t r)) (level_under C t p)

      first : (t : Set) (x : Bool) → Below C (level_under C t p) (level t x)
      first t true = W.join_left _ _ (known_under W t p k.0) (known_under W t r k.1)
      first t false = W.reflexive _ (known_under W t p k.0)

      second : (t : Set) (x : Bool) → x ≡ true → Below C (level_under C t r) (level t x)
      second t true e = W.join_right _ _ (known_under W t p k.0) (known_under W t r k.1)
      second t false e = absurd (false≢true e)

  pub flows_sound : (p q : Policy) → KnownLevels C p → KnownLevels C q → flows C p q ≡ true → FlowsTo C p q
  flows_sound p q k k' e t = sound_under none p q k k' e t (λ c h. absurd (false≢true h))

  pub flows_complete : (p q : Policy) → KnownLevels C p → KnownLevels C q → FlowsTo C p q → flows C p q ≡ true
  flows_complete p q k k' f = complete_under none p q k k' (λ t h. f t)

  pub decides_flow : DecidesFlow C
  decides_flow = record { decides = λ p q k k'. (flows_sound p q k k', flows_complete p q k k') }
