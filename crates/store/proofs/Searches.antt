-- What a count and a binary search by place end at in a sparse store. Assumes nothing.
use Rattle.std.proofs.Common.{◌≡◌, ℕ, ◌-◌, ◌<◌, ◌≤◌, List, length, get_or, take, drop, nat_lt, ℤ, pos, Ok, Err, Result, sym, ap, ◌∙◌, inl, inr, arith}
use Rattle.std.specs.List.Sorted.{IsSearchInRange, IsBinarySearchResult, IsNonDecreasingBy}
use Rattle.std.specs.Ordering.{nat_cmp, ordering_index}
use Rattle.std.proofs.lemmas.Cmp.{ranked}
use Rattle.std.proofs.lemmas.List.{length-take-le, get_or-take, get_or-drop, get_or-replicate}
use Rattle.std.proofs.lemmas.List.Sorted.{IsNonDecreasingBy-from_default}
use Rattle.std.proofs.lemmas.List.Sums.{prefix_len_is, prefix_len_passes}
use Rattle.std.proofs.lemmas.Bool.Decides.{nat_tests}
use Rattle.std.proofs.lemmas.Bool.{lt-ltb, le-ltb, cases_Bool, cases_lt, cond-true, cond-false}
use Rattle.store.specs.declared.entry.Entry.{Entry}
use Rattle.store.specs.declared.sparse.SparseStore.{SparseStore}
use Rattle.store.specs.Entries.{unused, is_zero, values_of}
use Rattle.store.specs.Positions.{before, position_of}
use Rattle.store.specs.Ascending.{rising}
use Rattle.store.proofs.Places.{room_free, room_held, place_free, entry_held}

module _ (s : SparseStore) (p : ℕ) (h : p < 64) where
  abbrev es : List Entry
  es = s.entries

  abbrev old : ℤ
  old = get_or (values_of es) p (pos 0)

  finds : (at : ℕ) → at ≡ before p es → at < s.used → (d : Entry) → (get_or es at d).place ≡ p → ◌≡◌ {A = Result ℕ ℕ} (Ok at) (position_of es p)
  finds at a u d e =
      elim (cases_Bool (is_zero old)) [
        | inl z ↦ absurd (place_free s p h at a z u d e)
        | inr z ↦ ap Ok a ∙ sym (cond-false (is_zero old) (Err (before p es)) (Ok (before p es)) z)
      ]

  misses : (at : ℕ) → at ≡ before p es → (d : Entry) → (at < s.used → (get_or es at d).place ≡ p → ⊥) → ◌≡◌ {A = Result ℕ ℕ} (Err at) (position_of es p)
  misses at a d k =
      elim (cases_Bool (is_zero old)) [
        | inl z ↦ ap Err a ∙ sym (cond-true (is_zero old) (Err (before p es)) (Ok (before p es)) z)
        | inr z ↦ absurd (k (room_held s p h at a z) (ap (λ (x : Entry). x.place) (entry_held s p h at a z d)))
      ]

  spare : (d : Entry) → s.used < 64 → (get_or es s.used d).place ≡ 255
  spare d l =
      let at_drop : get_or (drop s.used es) 0 d ≡ get_or es s.used d = get_or-drop s.used es 0 d ∙ ap (λ n. get_or es n d) (omega arith) in
      let blank : get_or (drop s.used es) 0 d ≡ unused = ap (λ l. get_or l 0 d) s.kept.blank ∙ get_or-replicate (64 - s.used) 0 unused d (omega arith) in
      ap (λ (e : Entry). e.place) (sym at_drop ∙ blank)

  -- The entry after those below the place settles it: an unused one is at no place.
  reached : (at : ℕ) → at ≡ before p es → (d : Entry) → (get_or es at d).place ≡ p → at < s.used
  reached at a d e =
      elim (cases_Bool (is_zero old)) [
        | inl z ↦
            let r = room_free s p h at a z in
            elim (cases_lt at s.used) [
              | inl u ↦ u
              | inr u ↦ let same : at ≡ s.used = omega arith in absurd (omega (arith, spare d r.1, ap (λ n. (get_or es n d).place) same))
            ]
        | inr z ↦ room_held s p h at a z
      ]

  module _ (at : ℕ) (a : at ≡ before p es) (d : Entry) where
    pub counted_within : (k : ℕ) → p ≤ (get_or es k d).place → at ≤ k
    unfolding before
    counted_within k le =
        elim (cases_lt k at) [
          | inl l ↦ let low = prefix_len_passes (λ (e : Entry). nat_lt e.place p) es k d (omega arith) in absurd (grind (arith, nat_tests))
          | inr l ↦ l
        ]

    pub counted_there : (get_or es at d).place ≡ p → ◌≡◌ {A = Result ℕ ℕ} (Ok at) (position_of es p)
    counted_there e = finds at a (reached at a d e) d e

    pub counted_past : ((get_or es at d).place ≡ p → ⊥) → ◌≡◌ {A = Result ℕ ℕ} (Err at) (position_of es p)
    counted_past k = misses at a d (λ u e. k e)

  -- The used entries, and what a binary search among them ends at.
  abbrev front : List Entry
  front = take s.used es

  front_length : length front ≡ s.used
  front_length = let full = s.kept.full in let room = s.kept.room in length-take-le s.used es (omega arith)

  front_place : (i : ℕ) → i < s.used → (get_or front i unused).place ≡ (get_or es i unused).place
  front_place i l = ap (λ (e : Entry). e.place) (get_or-take s.used es i unused l)

  below : (i j : ℕ) → i < j → j < s.used → (get_or front i unused).place < (get_or front j unused).place
  below i j l u = rising 0 front i j unused s.ordered l (omega (arith, front_length))

  rises : IsNonDecreasingBy (λ e. ordering_index (nat_cmp e.place p)) front
  rises = IsNonDecreasingBy-from_default (λ e. ordering_index (nat_cmp e.place p)) front unused (λ i j le lt.
      let up : (get_or front i unused).place ≤ (get_or front j unused).place =
      grind (arith, below i j, front_length, λ (same : i ≡ j). ap (λ x. (get_or front x unused).place) same) in
      grind (arith, nat_tests))

  stops : (i : ℕ) → i ≤ s.used → ((j : ℕ) → j < i → (get_or front j unused).place < p) → (i < s.used → p ≤ (get_or front i unused).place) → i ≡ before p es
  unfolding before
  stops i le lower upper =
      let full = s.kept.full in
      let room = s.kept.room in
      sym (prefix_len_is (λ e. nat_lt e.place p) es i unused (omega arith)
      (λ j l. lt-ltb _ p (omega (arith, lower j l, front_place j (omega arith))))
      (λ l. le-ltb _ p (elim (cases_lt i s.used) [
        | inl u ↦ omega (arith, upper u, front_place i u)
        | inr u ↦ let e : i ≡ s.used = omega arith in omega (arith, spare unused (omega arith), ap (λ n. (get_or es n unused).place) e)
      ])))

  pub searched : (r : Result ℕ ℕ) → IsSearchInRange r (length front) → IsBinarySearchResult (λ e. nat_cmp e.place p) front r → r ≡ position_of es p
  searched (Ok at) bound equal =
      let u : at < s.used = omega (arith, front_length) in
      let e : (get_or front at unused).place ≡ p = ranked _ p _ (sym (equal unused)) in
      let b = stops at (omega arith) (λ j l. omega (arith, below j at l u)) (λ l. omega arith) in
      finds at b u unused (sym (front_place at u) ∙ e)
  searched (Err at) bound parted =
      let le : at ≤ s.used = omega (arith, front_length) in
      let q = parted rises in
      let lower : (j : ℕ) → j < at → (get_or front j unused).place < p = λ j l. ranked _ p _ (sym (q.0 j unused (omega arith) l)) in
      let upper : at < s.used → p < (get_or front at unused).place = λ u. ranked _ p _ (sym (q.1 at unused (omega arith) (omega (arith, front_length)))) in
      let b = stops at le lower (λ u. omega (arith, upper u)) in
      misses at b unused (λ u e. omega (arith, upper u, front_place at u))
