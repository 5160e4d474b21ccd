-- What a move by one and a write leave of a list. Assumes nothing.
use Rattle.std.specs.Prelude.{◌≡◌, ℕ, ◌+◌, ◌-◌, ◌<◌, ◌≤◌, List, [], ◌∷◌, ◌++◌, length, take, drop, set, replicate, slice_index_or, slice_set, refl}
use Rattle.std.proofs.Common.{sym, ap, ◌∙◌, add-one, arith}
use Rattle.std.proofs.Math.Seq.{paste}
use Rattle.std.specs.List.{between}
use Rattle.std.proofs.lemmas.List.Edits.{length-between}
use Rattle.std.proofs.lemmas.List.{append_assoc, length-append, length-take-le, length_push, take_at, take_more, drop_at, drop-drop, drop_more, drop-replicate, set_at}

module _ {X : Type 0} (xs : List X) (used at : ℕ) (y : X) where
  pub moved_up : at ≤ used → used < length xs
      → slice_set (paste xs (at + 1) (drop at xs) (used - at)) at y ≡ take at xs ++ (y ∷ (between at used xs ++ drop (used + 1) xs))
  moved_up p q =
      let e : at + 1 + (used - at) ≡ used + 1 = omega arith in
      let l : length (take at xs) ≡ at = length-take-le at xs (omega arith) in
      let split : paste xs (at + 1) (drop at xs) (used - at) ≡ take at xs ++ (slice_index_or xs at y ∷ (between at used xs ++ drop (used + 1) xs)) =
      rw (take_more xs at y (omega arith), e) (simp append_assoc) in
      ap (λ l. set l at y) split ∙ set_at (take at xs) (slice_index_or xs at y) (between at used xs ++ drop (used + 1) xs) y at l

  pub moved_down : at < used → used ≤ length xs
      → slice_set (paste xs at (drop (at + 1) xs) (used - (at + 1))) (used - 1) y ≡ take at xs ++ (between (at + 1) used xs ++ (y ∷ drop used xs))
  moved_down p q =
      let e : at + (used - (at + 1)) ≡ used - 1 = omega arith in
      let f : used - 1 + 1 ≡ used = omega arith in
      let l : length (take at xs ++ between (at + 1) used xs) ≡ used - 1 =
      omega (arith, length-append (take at xs) (between (at + 1) used xs), length-take-le at xs (omega arith), length-between xs (at + 1) used q) in
      let split : paste xs at (drop (at + 1) xs) (used - (at + 1)) ≡ take at xs ++ between (at + 1) used xs ++ (slice_index_or xs (used - 1) y ∷ drop used xs) =
      rw (e, drop_more xs (used - 1) y (omega arith), f) refl in
      ap (λ l. set l (used - 1) y) split ∙ set_at (take at xs ++ between (at + 1) used xs) (slice_index_or xs (used - 1) y) (drop used xs) y (used - 1) l ∙ simp append_assoc

-- The same, of a list that ends in equal elements, and by its parts.
module _ {X : Type 0} (bs cs : List X) (m at used : ℕ) (u : X) (a : length bs ≡ at) where
  pub inserted_part : (y : X) → at + length cs ≡ used → (xs : List X) → xs ≡ bs ++ (cs ++ replicate (m + 1) u)
      → take at xs ++ (y ∷ (between at used xs ++ drop (used + 1) xs)) ≡ bs ++ (y ∷ (cs ++ replicate m u))
  inserted_part y c xs e =
      let l : length (bs ++ cs) ≡ used = omega (arith, length-append bs cs) in
      let t : take at xs ≡ bs = ap (take at) e ∙ take_at bs _ at a in
      let d : drop at xs ≡ cs ++ replicate (m + 1) u = ap (drop at) e ∙ drop_at bs _ at a in
      let b : between at used xs ≡ cs = ap (take (used - at)) d ∙ take_at cs _ (used - at) (omega arith) in
      let r : drop used xs ≡ replicate (m + 1) u = ap (drop used) (e ∙ sym (append_assoc bs cs _)) ∙ drop_at (bs ++ cs) _ used l in
      let s : drop (used + 1) xs ≡ replicate m u =
      sym (drop-drop 1 used xs) ∙ ap (drop 1) r ∙ drop-replicate 1 (m + 1) u ∙ ap (λ n. replicate n u) (omega arith) in
      rw (t, b, s) refl

  pub removed_part : (y : X) → at + length cs + 1 ≡ used → (xs : List X) → xs ≡ bs ++ (y ∷ (cs ++ replicate m u))
      → take at xs ++ (between (at + 1) used xs ++ (u ∷ drop used xs)) ≡ bs ++ (cs ++ replicate (m + 1) u)
  removed_part y c xs e =
      let l : length (bs ++ (y ∷ [])) ≡ at + 1 = length_push bs y ∙ ap (λ n. n + 1) a in
      let e' : xs ≡ bs ++ (y ∷ []) ++ (cs ++ replicate m u) = e ∙ sym (append_assoc bs (y ∷ []) _) in
      let t : take at xs ≡ bs = ap (take at) e ∙ take_at bs _ at a in
      let d : drop (at + 1) xs ≡ cs ++ replicate m u = ap (drop (at + 1)) e' ∙ drop_at (bs ++ (y ∷ [])) _ (at + 1) l in
      let b : between (at + 1) used xs ≡ cs = ap (take (used - (at + 1))) d ∙ take_at cs _ (used - (at + 1)) (omega arith) in
      let n : at + 1 + length cs ≡ used = omega arith in
      let r : drop used xs ≡ replicate m u =
      ap (λ k. drop k xs) (sym n) ∙ sym (drop-drop (length cs) (at + 1) xs) ∙ ap (drop (length cs)) d ∙ drop_at cs _ (length cs) refl in
      let f : u ∷ replicate m u ≡ replicate (m + 1) u = ap (λ k. replicate k u) (sym (add-one m)) in
      rw (t, b, r, f) refl

  pub set_part : (x y : X) (xs : List X) → xs ≡ bs ++ (x ∷ (cs ++ replicate m u)) → slice_set xs at y ≡ bs ++ (y ∷ (cs ++ replicate m u))
  set_part x y xs e = ap (λ l. set l at y) e ∙ set_at bs x (cs ++ replicate m u) y at a
