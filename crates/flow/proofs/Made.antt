-- What is made of the first items of a list, in a list with room for more. Assumes nothing.
use Rattle.std.proofs.Common.{◌≡◌, ℕ, ◌+◌, ◌<◌, ◌≤◌, min, List, length, get_or, take, set, sym, ◌∙◌, subst, inl, inr, arith, length-set}
use Rattle.std.proofs.lemmas.List.{get_or-set_same, get_or-set_other, get_or-take, length-take}
use Rattle.std.proofs.lemmas.Bool.{cases_eq}
use Rattle.flow.specs.TableFlows.{MadeOfEach}

module _ {T X : Type 0} (Made : T → X → Type 0) (Nothing : X → Type 0) (room : ℕ) where
  pub record MadeUpTo (items : List T) (i : ℕ) (xs : List X) : Type 0 where
    pub full : length xs ≡ room
    pub below : (k : ℕ) (d : T) (e : X) → k < i → k < room → Made (get_or items k d) (get_or xs k e)
    pub beyond : (k : ℕ) (e : X) → i ≤ k → k < room → Nothing (get_or xs k e)

  -- one more is made, the others stay
  pub made_more : (items : List T) (i : ℕ) (xs : List X) (x : X) → MadeUpTo items i xs → ((d : T) → Made (get_or items i d) x) → MadeUpTo items (i + 1) (set xs i x)
  made_more items i xs x h here = record {
    full = length-set xs i x ∙ h.full;
    below = λ k d e l u. elim (cases_eq k i) [
      | inl same ↦ subst (λ j. Made (get_or items j d) (get_or (set xs i x) j e)) (sym same) (subst (Made (get_or items i d)) (sym (get_or-set_same xs i x e (omega (arith, h.full)))) (here d))
      | inr other ↦ subst (Made (get_or items k d)) (sym (get_or-set_other xs i k x e other)) (h.below k d e (omega arith) u)
    ];
    beyond = λ k e l u. subst Nothing (sym (get_or-set_other xs i k x e (λ q. omega arith))) (h.beyond k e (omega arith) u);
  }

  -- all are made for which there is room
  pub made_of_all : (items : List T) (n i : ℕ) (xs : List X) → n ≡ min (length items) room → i ≡ length (take n items) → MadeUpTo (take n items) i xs → MadeOfEach Made Nothing items xs
  made_of_all items n i xs fits all h = λ k e u. record {
    below = λ d l. subst (λ t. Made t (get_or xs k e)) (get_or-take n items k d (omega (arith, h.full))) (h.below k d e (omega (arith, h.full, length-take n items)) (omega (arith, h.full)));
    beyond = λ l. h.beyond k e (omega (arith, h.full, length-take n items)) (omega (arith, h.full));
  }
