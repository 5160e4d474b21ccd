-- The used entries of values: how many there are, what they give back, and where a place stands among them. Assumes nothing.
use Rattle.std.specs.Prelude.{◌≡◌, ℕ, zero, suc, ◌+◌, ◌<◌, ◌≤◌, true, false, List, [], ◌∷◌, ◌++◌, length, get_or, replicate, ℤ, pos, negsuc, slice_index_or, refl}
use Rattle.std.proofs.Common.{inl, inr, sym, ap, subst, ◌∙◌, arith, rules}
use Rattle.std.proofs.lemmas.List.{append_assoc, length-append}
use Rattle.std.proofs.lemmas.Bool.{lt-ltb, le-ltb, eq-eqb, ne_eqb, cases_Bool}
use Rattle.store.specs.declared.entry.Entry.{Entry}
use Rattle.store.specs.Entries.{unused, is_zero, entry_of, used_from, value_at}
use Rattle.store.specs.Positions.{before}

pub zero_is : (v : ℤ) → is_zero v ≡ true → v ≡ pos 0
zero_is (pos n) h = search rules
zero_is (negsuc n) h = search rules

pub entry_none : (p : ℕ) (v : ℤ) → is_zero v ≡ true → entry_of p v ≡ []
entry_none p v h = search rules

pub entry_one : (p : ℕ) (v : ℤ) → is_zero v ≡ false → entry_of p v ≡ record { place = p; value = v } ∷ []
entry_one p v h = search rules

-- in front of any list
pub entry_front : {Y : Type 0} (F : List Entry → Y) (y : Y) (p : ℕ) (v : ℤ) (es : List Entry)
    → (is_zero v ≡ true → F es ≡ y) → (is_zero v ≡ false → F (record { place = p; value = v } ∷ es) ≡ y) → F (entry_of p v ++ es) ≡ y
entry_front F y p v es z n =
    elim (cases_Bool (is_zero v)) [ inl h ↦ ap (λ l. F (l ++ es)) (entry_none p v h) ∙ z h | inr h ↦ ap (λ l. F (l ++ es)) (entry_one p v h) ∙ n h ]

pub used_append : (q : ℕ) (xs ys : List ℤ) → used_from q (xs ++ ys) ≡ used_from q xs ++ used_from (q + length xs) ys
unfolding used_from
used_append q [] ys = let e : q + 0 ≡ q = omega arith in ap (λ n. used_from n ys) (sym e)
used_append q (x ∷ xs) ys =
    let e : q + 1 + length xs ≡ q + suc (length xs) = omega arith in
    ap (λ l. entry_of q x ++ l) (used_append (q + 1) xs ys ∙ ap (λ n. used_from (q + 1) xs ++ used_from n ys) e) ∙ sym (append_assoc (entry_of q x) (used_from (q + 1) xs) _)

entry_short : (p : ℕ) (v : ℤ) → length (entry_of p v) ≤ 1
entry_short p v = search rules

pub used_short : (q : ℕ) (vs : List ℤ) → length (used_from q vs) ≤ length vs
unfolding used_from
used_short q [] = omega arith
used_short q (v ∷ vs) = omega (arith, length-append (entry_of q v) (used_from (q + 1) vs), entry_short q v, used_short (q + 1) vs)

-- What the entries give back.
pub value_none : (n p : ℕ) → p < 64 → value_at (replicate n unused) p ≡ pos 0
unfolding value_at
value_none zero p h = refl
value_none (suc n) p h = rw (ne_eqb 255 p (λ e. omega arith)) (value_none n p h)

pub value_below : (q : ℕ) (vs : List ℤ) (n p : ℕ) → p < 64 → p < q → value_at (used_from q vs ++ replicate n unused) p ≡ pos 0
unfolding used_from value_at
value_below q [] n p k h = value_none n p k
value_below q (v ∷ vs) n p k h =
    let ih = value_below (q + 1) vs n p k (omega arith) in
    ap (λ l. value_at l p) (append_assoc (entry_of q v) (used_from (q + 1) vs) _)
    ∙ entry_front (λ l. value_at l p) (pos 0) q v _ (λ z. ih) (λ z. rw (ne_eqb q p (λ e. omega arith)) ih)

pub value_at_lem : (q : ℕ) (vs : List ℤ) (n i : ℕ) → q + i < 64 → value_at (used_from q vs ++ replicate n unused) (q + i) ≡ slice_index_or vs i (pos 0)
unfolding used_from value_at
value_at_lem q [] n i k = value_none n (q + i) k
value_at_lem q (v ∷ vs) n zero k =
    let e : q + 0 ≡ q = omega arith in
    ap (λ l. value_at l (q + 0)) (append_assoc (entry_of q v) (used_from (q + 1) vs) _)
    ∙ entry_front (λ l. value_at l (q + 0)) v q v _
    (λ z. value_below (q + 1) vs n (q + 0) k (omega arith) ∙ sym (zero_is v z))
    (λ z. rw (eq-eqb q (q + 0) (sym e)) refl)
value_at_lem q (v ∷ vs) n (suc i) k =
    let e : q + 1 + i ≡ q + suc i = omega arith in
    let ih = value_at_lem (q + 1) vs n i (omega arith) in
    let ih' : value_at (used_from (q + 1) vs ++ replicate n unused) (q + suc i) ≡ get_or vs i (pos 0) = ap (λ p. value_at (used_from (q + 1) vs ++ replicate n unused) p) (sym e) ∙ ih in
    ap (λ l. value_at l (q + suc i)) (append_assoc (entry_of q v) (used_from (q + 1) vs) _)
    ∙ entry_front (λ l. value_at l (q + suc i)) (slice_index_or vs i (pos 0)) q v _
    (λ z. ih') (λ z. rw (ne_eqb q (q + suc i) (λ e. omega arith)) ih')

-- Where a place stands: after every entry of a lower place, before every other.
pub before_lower : (q : ℕ) (vs : List ℤ) (es : List Entry) (p : ℕ) → q + length vs ≤ p → before p (used_from q vs ++ es) ≡ length (used_from q vs) + before p es
unfolding used_from before
before_lower q [] es p h = omega arith
before_lower q (v ∷ vs) es p h =
    let ih = before_lower (q + 1) vs es p (omega arith) in
    let l = length-append (entry_of q v) (used_from (q + 1) vs) in
    ap (before p) (append_assoc (entry_of q v) (used_from (q + 1) vs) es)
    ∙ entry_front (before p) (length (entry_of q v ++ used_from (q + 1) vs) + before p es) q v _
    (λ z. let n = ap length (entry_none q v z) in omega arith)
    (λ z. let n = ap length (entry_one q v z) in rw (lt-ltb q p (omega arith)) (omega arith))

before_none : (n p : ℕ) → p < 64 → before p (replicate n unused) ≡ 0
unfolding before
before_none zero p h = refl
before_none (suc n) p h = rw (le-ltb 255 p (omega arith)) refl

pub before_upper : (q : ℕ) (vs : List ℤ) (n p : ℕ) → p < 64 → p ≤ q → before p (used_from q vs ++ replicate n unused) ≡ 0
unfolding used_from before
before_upper q [] n p k h = before_none n p k
before_upper q (v ∷ vs) n p k h =
    ap (before p) (append_assoc (entry_of q v) (used_from (q + 1) vs) _)
    ∙ entry_front (before p) 0 q v _ (λ z. before_upper (q + 1) vs n p k (omega arith)) (λ z. rw (le-ltb q p h) refl)

-- The first of entries from a place on stands at that place or above.
pub head_above : (q : ℕ) (vs : List ℤ) (es : List Entry) (d : Entry) → 0 < length (used_from q vs) → q ≤ (get_or (used_from q vs ++ es) 0 d).place
unfolding used_from
head_above q [] es d h = absurd (omega arith)
head_above q (v ∷ vs) es d h =
    let P : List Entry → Type 0 = λ l. 0 < length l → q ≤ (get_or (l ++ es) 0 d).place in
    let w = used_from (q + 1) vs in
    elim (cases_Bool (is_zero v)) [
      | inl z ↦ subst P (sym (ap (λ l. l ++ w) (entry_none q v z))) (λ k. omega (arith, head_above (q + 1) vs es d k)) h
      | inr z ↦ subst P (sym (ap (λ l. l ++ w) (entry_one q v z))) (λ k. omega arith) h
    ]
