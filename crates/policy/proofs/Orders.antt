-- The order of a lawful lattice, with as few conditions on known levels as it needs. Assumes nothing.
use Rattle.std.proofs.Common.{◌≡◌, ℕ, ap, ◌∙◌, inl, inr}
use Rattle.std.proofs.lemmas.Bool.{both_ways, cases_Bool}
use Rattle.lattice.specs.Lattice.{Lattice, Lawful, Known, Below}

module _ {C : Lattice} (W : Lawful C) where
  pub known_left : (a b : ℕ) → Below C a b → Known C a
  known_left a b h = elim (cases_Bool (C.known a)) [ inl e ↦ e | inr e ↦ absurd (both_ways _ (W.unknown_below a b e) h) ]

  pub known_right : (a b : ℕ) → Below C a b → Known C b
  known_right a b h = elim (cases_Bool (C.known b)) [ inl e ↦ e | inr e ↦ absurd (both_ways _ (W.unknown_above a b e) h) ]

  pub below_trans : (a b c : ℕ) → Below C a b → Below C b c → Below C a c
  below_trans a b c h k = W.transitive a b c (known_left a b h) (known_left b c k) (known_right b c k) h k

  -- every join is known
  pub join_any : (a b : ℕ) → Known C (C.join a b)
  join_any a b =
      elim (cases_Bool (C.known a)) [
        | inl h ↦ elim (cases_Bool (C.known b)) [
          | inl k ↦ W.join_known a b h k
          | inr k ↦ ap C.known (W.unknown_join_right a b k) ∙ W.highest_known
        ]
        | inr h ↦ ap C.known (W.unknown_join_left a b h) ∙ W.highest_known
      ]

  -- a known level is below its join with any other
  pub below_join : (a b : ℕ) → Known C a → Below C a (C.join a b)
  below_join a b h =
      elim (cases_Bool (C.known b)) [
        | inl k ↦ W.join_left a b h k
        | inr k ↦ ap (C.below a) (W.unknown_join_right a b k) ∙ W.highest_above a h
      ]

  pub join_least : (a b c : ℕ) → Below C a c → Below C b c → Below C (C.join a b) c
  join_least a b c h k = W.join_least a b c (known_left a c h) (known_left b c k) (known_right a c h) h k

  pub join_grows : (a b l : ℕ) → Below C a b → Below C (C.join a l) (C.join b l)
  join_grows a b l h =
      elim (cases_Bool (C.known l)) [
        | inl k ↦ join_least a l (C.join b l) (below_trans a b (C.join b l) h (below_join b l (known_right a b h))) (W.join_right b l (known_right a b h) k)
        | inr k ↦ ap (λ x. C.below x (C.join b l)) (W.unknown_join_right a l k) ∙ ap (C.below C.highest) (W.unknown_join_right b l k) ∙ W.reflexive C.highest W.highest_known
      ]

  pub join_assoc : (a b c : ℕ) → Known C a → Known C b → Known C c → C.join (C.join a b) c ≡ C.join a (C.join b c)
  join_assoc a b c ha hb hc =
      let bc = W.join_known b c hb hc in
      let ab = W.join_known a b ha hb in
      let right = C.join a (C.join b c) in
      let left = C.join (C.join a b) c in
      let up = W.join_right a (C.join b c) ha bc in
      let up' = W.join_left (C.join a b) c ab hc in
      W.antisymmetric left right (W.join_known _ _ ab hc) (W.join_known _ _ ha bc)
      (join_least (C.join a b) c right
      (join_least a b right (W.join_left a (C.join b c) ha bc) (below_trans _ _ _ (W.join_left b c hb hc) up))
      (below_trans _ _ _ (W.join_right b c hb hc) up))
      (join_least a (C.join b c) left (below_trans _ _ _ (W.join_left a b ha hb) up')
      (join_least b c left (below_trans _ _ _ (W.join_right a b ha hb) up') (W.join_right (C.join a b) c ab hc)))

  pub join_lowest : (a : ℕ) → Known C a → C.join C.lowest a ≡ a
  join_lowest a h =
      W.antisymmetric (C.join C.lowest a) a (W.join_known _ _ W.lowest_known h) h (join_least C.lowest a a (W.lowest_below a h) (W.reflexive a h))
      (W.join_right C.lowest a W.lowest_known h)
