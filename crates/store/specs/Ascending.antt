-- Entries that ascend are the used entries of the values that they give, and the other way round. Assumes nothing.
use Rattle.std.specs.Prelude.{◌≡◌, ℕ, zero, suc, ◌+◌, ◌-◌, ◌<◌, ◌≤◌, true, false, List, [], ◌∷◌, ◌++◌, map, length, get_or, take, replicate, ℤ, pos}
use Rattle.std.proofs.Common.{inl, inr, sym, ap₂, ◌∙◌, arith, rules}
use Rattle.std.proofs.Math.Path.{refl, ap}
use Rattle.std.specs.List.{range_with_len}
use Rattle.std.proofs.lemmas.List.{take-append-drop, length-take-le}
use Rattle.std.proofs.lemmas.Bool.{eq-eqb, ne_eqb, cases_lt}
use Rattle.store.specs.declared.entry.Entry.{Entry}
use Rattle.store.specs.Entries.{unused, is_zero, entry_of, used_from, entries_of, value_at, values_of, ascend_from}
use Rattle.store.specs.Kept.{Kept}
use Rattle.store.specs.UsedEntries.{entry_none, entry_one, entry_front, value_none}

record Ascends (p : ℕ) (e : Entry) (es : List Entry) : Type 0 where
  above : p ≤ e.place
  below : e.place < 64
  other : is_zero e.value ≡ false
  rest : ascend_from (e.place + 1) es ≡ true

parts : (p : ℕ) (e : Entry) (es : List Entry) → ascend_from p (e ∷ es) ≡ true → Ascends p e es
unfolding ascend_from
parts p e es h = search rules

ascend_cons : (p : ℕ) (e : Entry) (es : List Entry) → p ≤ e.place → e.place < 64 → is_zero e.value ≡ false → ascend_from (e.place + 1) es ≡ true → ascend_from p (e ∷ es) ≡ true
unfolding ascend_from
ascend_cons p e es a b o r = search rules

lowered : (p q : ℕ) (es : List Entry) → p ≤ q → ascend_from q es ≡ true → ascend_from p es ≡ true
unfolding ascend_from
lowered p q [] k h = refl
lowered p q (e ∷ es) k h = let a = parts q e es h in let above = a.above in ascend_cons p e es (omega arith) a.below a.other a.rest

pub ascend_used : (q : ℕ) (vs : List ℤ) → q + length vs ≤ 64 → ascend_from q (used_from q vs) ≡ true
unfolding used_from ascend_from
ascend_used q [] h = refl
ascend_used q (v ∷ vs) h =
    let ih = ascend_used (q + 1) vs (omega arith) in
    entry_front (ascend_from q) true q v (used_from (q + 1) vs)
    (λ z. lowered q (q + 1) (used_from (q + 1) vs) (omega arith) ih)
    (λ z. ascend_cons q record { place = q; value = v } (used_from (q + 1) vs) (omega arith) (omega arith) z ih)

-- Below its first place a list that ascends gives zeros.
zero_below : (p q : ℕ) (es : List Entry) (n : ℕ) → p < 64 → p < q → ascend_from q es ≡ true → value_at (es ++ replicate n unused) p ≡ pos 0
unfolding value_at
zero_below p q [] n k l h = value_none n p k
zero_below p q (e ∷ es) n k l h =
    let a = parts q e es h in
    let above = a.above in
    rw (ne_eqb e.place p (λ z. omega arith)) (zero_below p (e.place + 1) es n k (omega arith) a.rest)

-- Values that are given by a list that ascends have that list as their used entries.
used_given : (m q : ℕ) → q + m ≡ 64 → (es : List Entry) (n : ℕ) → ascend_from q es ≡ true
    → (f : ℕ → ℤ) → ((p : ℕ) → q ≤ p → p < 64 → f p ≡ value_at (es ++ replicate n unused) p) → used_from q (map f (range_with_len q m)) ≡ es
unfolding used_from value_at ascend_from
used_given zero q k [] n h f g = refl
used_given zero q k (e ∷ es) n h f g = let a = parts q e es h in let above = a.above in let below = a.below in absurd (omega arith)
used_given (suc m) q k [] n h f g =
    let z : f q ≡ pos 0 = g q (omega arith) (omega arith) ∙ value_none n q (omega arith) in
    ap (λ l. l ++ used_from (q + 1) (map f (range_with_len (q + 1) m))) (entry_none q (f q) (ap is_zero z))
    ∙ used_given m (q + 1) (omega arith) [] n h f (λ p l b. g p (omega arith) b)
used_given (suc m) q k (e ∷ es) n h f g =
    let a = parts q e es h in
    let above = a.above in
    elim (cases_lt q e.place) [
      | inl l ↦
          let r = ascend_cons (q + 1) e es (omega arith) a.below a.other a.rest in
          let z : f q ≡ pos 0 = g q (omega arith) (omega arith) ∙ zero_below q (q + 1) (e ∷ es) n (omega arith) (omega arith) r in
          ap (λ l. l ++ used_from (q + 1) (map f (range_with_len (q + 1) m))) (entry_none q (f q) (ap is_zero z))
          ∙ used_given m (q + 1) (omega arith) (e ∷ es) n r f (λ p l b. g p (omega arith) b)
      | inr l ↦
          let i : e.place ≡ q = omega arith in
          let y : f q ≡ e.value = g q (omega arith) (omega arith) ∙ rw (eq-eqb e.place q i) refl in
          let r : ascend_from (q + 1) es ≡ true = ap (λ x. ascend_from (x + 1) es) (sym i) ∙ a.rest in
          let same : entry_of q (f q) ≡ e ∷ [] = entry_one q (f q) (ap is_zero y ∙ a.other) ∙ ap₂ (λ x v. record { place = x; value = v } ∷ []) (sym i) y in
          ap (λ l. l ++ used_from (q + 1) (map f (range_with_len (q + 1) m))) same
          ∙ ap (λ l. e ∷ l) (used_given m (q + 1) (omega arith) es n r f (λ p l b. g p (omega arith) b ∙ rw (ne_eqb e.place p (λ z. omega arith)) refl))
    ]

-- The places of entries that ascend.
above : (q : ℕ) (es : List Entry) (i : ℕ) (d : Entry) → ascend_from q es ≡ true → i < length es → q ≤ (get_or es i d).place
above q [] i d h l = search rules
above q (e ∷ es) zero d h l = search (rules, parts)
above q (e ∷ es) (suc i) d h l = let a = parts q e es h in omega (arith, above (e.place + 1) es i d a.rest (omega arith), a.above)

pub rising : (q : ℕ) (es : List Entry) (i j : ℕ) (d : Entry) → ascend_from q es ≡ true → i < j → j < length es → (get_or es i d).place < (get_or es j d).place
rising q [] i j d h k l = absurd (omega arith)
rising q (e ∷ es) i zero d h k l = absurd (omega arith)
rising q (e ∷ es) zero (suc j) d h k l = let a = parts q e es h in omega (arith, above (e.place + 1) es j d a.rest (omega arith))
rising q (e ∷ es) (suc i) (suc j) d h k l = let a = parts q e es h in rising (e.place + 1) es i j d a.rest (omega arith) (omega arith)

-- Entries of which the first ascend and the others are unused are the entries of the values that they give.
module _ (es : List Entry) (used : ℕ) (k : Kept es used) (ordered : ascend_from 0 (take used es) ≡ true) where
  split : es ≡ take used es ++ replicate (64 - used) unused
  split = sym (take-append-drop used es) ∙ ap (λ l. take used es ++ l) k.blank

  first : used_from 0 (values_of es) ≡ take used es
  unfolding values_of
  first = used_given 64 0 refl (take used es) (64 - used) ordered (value_at es) (λ p l b. ap (λ x. value_at x p) split)

  long : length (take used es) ≡ used
  long = let full = k.full in let room = k.room in length-take-le used es (omega arith)

  pub counted : used ≡ length (used_from 0 (values_of es))
  counted = sym (ap length first ∙ long)

  pub normal : es ≡ entries_of (values_of es)
  unfolding entries_of
  normal = split ∙ ap (λ n. take used es ++ replicate (64 - n) unused) (sym long) ∙ ap (λ l. l ++ replicate (64 - length l) unused) (sym first)

-- Equal values come of equal entries, and of as many.
module _ {es fs : List Entry} {m n : ℕ} (k : Kept es m) (o : ascend_from 0 (take m es) ≡ true) (l : Kept fs n) (q : ascend_from 0 (take n fs) ≡ true)
    (e : values_of es ≡ values_of fs) where
  pub same_entries : es ≡ fs
  same_entries = normal es m k o ∙ ap entries_of e ∙ sym (normal fs n l q)

  pub same_used : m ≡ n
  same_used = counted es m k o ∙ ap (λ vs. length (used_from 0 vs)) e ∙ sym (counted fs n l q)
