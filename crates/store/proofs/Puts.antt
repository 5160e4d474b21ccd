-- What a put leaves in a sparse store, by what was found there. Assumes nothing.
use Rattle.std.proofs.Common.{◌≡◌, ℕ, ◌+◌, ◌-◌, ◌<◌, ◌≤◌, Bool, true, false, cond, List, ◌∷◌, ◌++◌, get_or, take, drop, set, ℤ, pos, Ok, Err, Result, MatchResult, ap, rules, w32, SFits, of_z}
use Rattle.std.specs.List.{between}
use Rattle.store.specs.declared.entry.Entry.{Entry}
use Rattle.store.specs.declared.sparse.SparseStore.{SparseStore}
use Rattle.store.specs.Entries.{unused, is_zero, values_of}
use Rattle.store.specs.Positions.{before, position_of}
use Rattle.store.specs.NormalForm.{KeptFor}
use Rattle.store.proofs.Places.{room_free, room_held, entry_held, put_insert, put_remove, put_over}

pub zero_from_bits : (v : ℤ) → SFits w32 v → of_z w32 v ≡ 0 → is_zero v ≡ true
zero_from_bits v f e = search rules

pub other_from_bits : (v : ℤ) → SFits w32 v → (of_z w32 v ≡ 0 → ⊥) → is_zero v ≡ false
other_from_bits v f e = search rules

ok_held : (z : Bool) (b at : ℕ) → ◌≡◌ {A = Result ℕ ℕ} (Ok at) (cond z (Err b) (Ok b)) → (z ≡ false) × (at ≡ b)
ok_held z b at e = search rules

err_free : (z : Bool) (b at : ℕ) → ◌≡◌ {A = Result ℕ ℕ} (Err at) (cond z (Err b) (Ok b)) → (z ≡ true) × (at ≡ b)
err_free z b at e = search rules

module _ (s : SparseStore) (p : ℕ) (h : p < 64) where
  abbrev es : List Entry
  es = s.entries

  abbrev vs : List ℤ
  vs = values_of es

  abbrev old : ℤ
  old = get_or vs p (pos 0)

  module _ (at : ℕ) (f : ◌≡◌ {A = Result ℕ ℕ} (Ok at) (position_of es p)) where
    is_held : (is_zero old ≡ false) × (at ≡ before p es)
    is_held = ok_held (is_zero old) (before p es) at f

    pub held_value : (d : Entry) → (get_or es at d).value ≡ old
    held_value d = ap (λ (x : Entry). x.value) (entry_held s p h at is_held.1 is_held.0 d)

    pub kept_remove : (v : ℤ) → is_zero v ≡ true → (fs : List Entry) → fs ≡ take at es ++ (between (at + 1) s.used es ++ (unused ∷ drop s.used es)) → KeptFor fs (s.used - 1) (set vs p v)
    kept_remove v y fs e = put_remove s p h at is_held.1 v fs is_held.0 y e

    pub kept_over : (v : ℤ) → is_zero v ≡ false → (fs : List Entry) → fs ≡ set es at record { place = p; value = v } → KeptFor fs s.used (set vs p v)
    kept_over v y fs e = put_over s p h at is_held.1 v fs is_held.0 y e

  module _ (at : ℕ) (f : ◌≡◌ {A = Result ℕ ℕ} (Err at) (position_of es p)) where
    is_free : (is_zero old ≡ true) × (at ≡ before p es)
    is_free = err_free (is_zero old) (before p es) at f

    pub kept_insert : (v : ℤ) → is_zero v ≡ false → (fs : List Entry) → fs ≡ take at es ++ (record { place = p; value = v } ∷ (between at s.used es ++ drop (s.used + 1) es)) → KeptFor fs (s.used + 1) (set vs p v)
    kept_insert v y fs e = put_insert s p h at is_free.1 v fs is_free.0 y e

  pub room : (r : Result ℕ ℕ) → r ≡ position_of es p → MatchResult r (λ at. at < s.used) (λ at. (at ≤ s.used) × (s.used < 64))
  room (Ok at) f = room_held s p h at (is_held at f).1 (is_held at f).0
  room (Err at) f = room_free s p h at (is_free at f).1 (is_free at f).0
