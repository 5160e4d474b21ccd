-- The entries of a sparse store around a place, and what a put there leaves. Assumes nothing.
use Rattle.std.specs.Prelude.{◌≡◌, ℕ, suc, ◌+◌, ◌-◌, ◌<◌, ◌≤◌, true, false, List, ◌∷◌, ◌++◌, length, get_or, take, drop, set, replicate, ℤ, pos, ◌≢◌, slice_index_or, slice_set}
use Rattle.std.proofs.Common.{sym, ◌∙◌}
use Rattle.std.proofs.Math.Path.{ap}
use native.Mathlib.Omega.{arith}
use Rattle.std.specs.List.{between}
use Rattle.std.proofs.lemmas.List.{append_assoc, length-append, length-drop, length-set, length-take-le, get_or_at, get_or-append_right, set-get_or, set_split}
use Rattle.store.specs.declared.sparse.SparseStore.{SparseStore}
use Rattle.store.specs.declared.entry.Entry.{Entry}
use Rattle.store.specs.Entries.{unused, is_zero, entry_of, used_from, entries_of, values_of}
use Rattle.store.specs.Positions.{before}
use Rattle.store.specs.Ascending.{normal, counted}
use Rattle.store.specs.NormalForm.{KeptFor, kept_for, length_values}
use Rattle.store.proofs.Moves.{inserted_part, removed_part, set_part}
use Rattle.store.specs.UsedEntries.{entry_none, entry_one, used_append, used_short, before_lower, before_upper, head_above}

-- Entries below the place, and entries above. A put changes what stands between.
module _ (s : SparseStore) (p : ℕ) (h : p < 64) where
  abbrev es : List Entry
  es = s.entries

  abbrev vs : List ℤ
  vs = values_of es

  long : length vs ≡ 64
  long = length_values es

  abbrev lower : List Entry
  lower = used_from 0 (take p vs)

  abbrev upper : List Entry
  upper = used_from (p + 1) (drop (suc p) vs)

  abbrev both : ℕ
  both = length lower + length upper

  few : both ≤ 63
  few = omega (arith, long, used_short 0 (take p vs), used_short (p + 1) (drop (suc p) vs), length-take-le p vs (omega (arith, long)), length-drop (suc p) vs)

  used_set : (v : ℤ) → used_from 0 (slice_set vs p v) ≡ lower ++ (entry_of p v ++ upper)
  unfolding used_from
  used_set v =
      let e : 0 + length (take p vs) ≡ p = omega (arith, length-take-le p vs (omega (arith, long))) in
      ap (used_from 0) (set_split vs p v (omega (arith, long))) ∙ used_append 0 (take p vs) (v ∷ drop (suc p) vs)
      ∙ ap (λ q. used_from 0 (take p vs) ++ used_from q (v ∷ drop (suc p) vs)) e

  count_free : (v : ℤ) → is_zero v ≡ true → length (used_from 0 (slice_set vs p v)) ≡ both
  count_free v z = ap length (used_set v ∙ ap (λ l. lower ++ (l ++ upper)) (entry_none p v z)) ∙ length-append lower upper

  count_held : (v : ℤ) → is_zero v ≡ false → length (used_from 0 (slice_set vs p v)) ≡ both + 1
  count_held v z =
      let e = ap length (used_set v ∙ ap (λ l. lower ++ (l ++ upper)) (entry_one p v z)) in
      omega (arith, length-append lower (record { place = p; value = v } ∷ upper))

  entries_free : (v : ℤ) → is_zero v ≡ true → entries_of (slice_set vs p v) ≡ lower ++ (upper ++ replicate (63 - both + 1) unused)
  unfolding entries_of
  entries_free v z =
      let f = few in
      let k : 64 - length (used_from 0 (slice_set vs p v)) ≡ 63 - both + 1 = omega (arith, count_free v z) in
      rw k (ap (λ l. l ++ replicate (63 - both + 1) unused) (used_set v ∙ ap (λ l. lower ++ (l ++ upper)) (entry_none p v z)) ∙ append_assoc lower upper _)

  entries_held : (v : ℤ) → is_zero v ≡ false → entries_of (slice_set vs p v) ≡ lower ++ (record { place = p; value = v } ∷ (upper ++ replicate (63 - both) unused))
  unfolding entries_of
  entries_held v z =
      let k : 64 - length (used_from 0 (slice_set vs p v)) ≡ 63 - both = omega (arith, count_held v z) in
      rw k (ap (λ l. l ++ replicate (63 - both) unused) (used_set v ∙ ap (λ l. lower ++ (l ++ upper)) (entry_one p v z)) ∙ append_assoc lower _ _)

  -- what stands at the place now
  abbrev old : ℤ
  old = slice_index_or vs p (pos 0)

  same : set vs p old ≡ vs
  same = set-get_or vs p (pos 0)

  free : is_zero old ≡ true → (s.used ≡ both) × (es ≡ lower ++ (upper ++ replicate (63 - both + 1) unused))
  free z = (
    counted es s.used s.kept s.ordered ∙ ap (λ l. length (used_from 0 l)) (sym same) ∙ count_free old z,
    normal es s.used s.kept s.ordered ∙ ap entries_of (sym same) ∙ entries_free old z,
  )

  held : is_zero old ≡ false → (s.used ≡ both + 1) × (es ≡ lower ++ (record { place = p; value = old } ∷ (upper ++ replicate (63 - both) unused)))
  held z = (
    counted es s.used s.kept s.ordered ∙ ap (λ l. length (used_from 0 l)) (sym same) ∙ count_held old z,
    normal es s.used s.kept s.ordered ∙ ap entries_of (sym same) ∙ entries_held old z,
  )

  before_is : before p es ≡ length lower
  unfolding used_from entries_of
  before_is =
      let k = 64 - length (used_from 0 vs) in
      let r = replicate k unused in
      let above = used_from p (old ∷ drop (suc p) vs) in
      let e : es ≡ lower ++ (above ++ r) =
      normal es s.used s.kept s.ordered ∙ ap (λ l. l ++ r) (ap (used_from 0) (sym same) ∙ used_set old) ∙ append_assoc lower above r in
      ap (before p) e ∙ before_lower 0 (take p vs) (above ++ r) p (omega (arith, length-take-le p vs (omega (arith, long))))
      ∙ ap (λ m. length lower + m) (before_upper p (old ∷ drop (suc p) vs) k p h (omega arith)) ∙ omega arith

  -- An index that stands where the place does.
  module _ (at : ℕ) (found : at ≡ before p es) where
    at_is : at ≡ length lower
    at_is = found ∙ before_is

    pub room_free : is_zero old ≡ true → (at ≤ s.used) × (s.used < 64)
    room_free z = let u = (free z).0 in let f = few in let q = at_is in (omega arith, omega arith)

    pub room_held : is_zero old ≡ false → at < s.used
    room_held z = let u = (held z).0 in let q = at_is in omega arith

    pub place_free : is_zero old ≡ true → at < s.used → (d : Entry) → (get_or es at d).place ≢ p
    place_free z k d e =
        let u = (free z).0 in
        let q = at_is in
        let r = replicate (63 - both + 1) unused in
        let g : get_or es at d ≡ get_or (upper ++ r) 0 d =
        ap (λ l. get_or l at d) (free z).1 ∙ get_or-append_right lower (upper ++ r) at at d (sym q) (omega arith)
        ∙ ap (λ m. get_or (upper ++ r) m d) (omega arith) in
        omega (arith, ap (λ (x : Entry). x.place) g, head_above (p + 1) (drop (suc p) vs) r d (omega arith))

    pub entry_held : is_zero old ≡ false → (d : Entry) → slice_index_or es at d ≡ record { place = p; value = old }
    entry_held z d = ap (λ l. get_or l at d) (held z).1 ∙ get_or_at lower (record { place = p; value = old }) _ d at (sym at_is)

    -- What a put leaves there.
    module _ (v : ℤ) (fs : List Entry) where
      pub put_insert : is_zero old ≡ true → is_zero v ≡ false
          → fs ≡ take at es ++ (record { place = p; value = v } ∷ (between at s.used es ++ drop (s.used + 1) es)) → KeptFor fs (s.used + 1) (slice_set vs p v)
      put_insert z y e =
          let u = (free z).0 in
          let q = at_is in
          kept_for fs _ (slice_set vs p v) (length-set vs p v ∙ long)
          (e ∙ inserted_part lower upper (63 - both) at s.used unused (sym q) (record { place = p; value = v }) (omega arith) es (free z).1
          ∙ sym (entries_held v y))
          (omega (arith, count_held v y))

      pub put_remove : is_zero old ≡ false → is_zero v ≡ true
          → fs ≡ take at es ++ (between (at + 1) s.used es ++ (unused ∷ drop s.used es)) → KeptFor fs (s.used - 1) (slice_set vs p v)
      put_remove z y e =
          let u = (held z).0 in
          let q = at_is in
          kept_for fs _ (slice_set vs p v) (length-set vs p v ∙ long)
          (e ∙ removed_part lower upper (63 - both) at s.used unused (sym q) (record { place = p; value = old }) (omega arith) es (held z).1
          ∙ sym (entries_free v y))
          (omega (arith, count_free v y))

      pub put_over : is_zero old ≡ false → is_zero v ≡ false → fs ≡ set es at record { place = p; value = v } → KeptFor fs s.used (slice_set vs p v)
      put_over z y e =
          kept_for fs _ (slice_set vs p v) (length-set vs p v ∙ long)
          (e ∙ set_part lower upper (63 - both) at s.used unused (sym at_is) (record { place = p; value = old }) (record { place = p; value = v }) es (held z).1
          ∙ sym (entries_held v y))
          ((held z).0 ∙ sym (count_held v y))
