-- The entries of a sparse store: each value that is not zero, with its place, in the order of the places; then unused ones.
use Rattle.std.specs.Prelude.{ℕ, ◌+◌, ◌-◌, Bool, true, false, cond, not, ◌&&◌, List, [], ◌∷◌, ◌++◌, map, length, replicate, ℤ, pos, negsuc, ◌==◌, nat_le, nat_lt}
use Rattle.std.specs.List.{range_with_len}
use Rattle.store.specs.declared.entry.Entry.{Entry}

abbrev pub unused : Entry
unused = record { place = 255; value = pos 0 }

abbrev pub is_zero : ℤ → Bool
is_zero (pos n) = n == 0
is_zero (negsuc n) = false

-- A value at its place is one entry, and a zero none.
abbrev pub entry_of : ℕ → ℤ → List Entry
entry_of p v = cond (is_zero v) [] (record { place = p; value = v } ∷ [])

-- The used entries of values that stand from a place on.
unfoldable pub used_from : ℕ → List ℤ → List Entry
used_from p [] = []
used_from p (v ∷ vs) = entry_of p v ++ used_from (p + 1) vs

unfoldable pub entries_of : List ℤ → List Entry
entries_of vs = used_from 0 vs ++ replicate (64 - length (used_from 0 vs)) unused

-- The value that entries give to a place: that of the first entry with the place, else zero.
unfoldable pub value_at : List Entry → ℕ → ℤ
value_at [] p = pos 0
value_at (e ∷ es) p = cond (e.place == p) e.value (value_at es p)

unfoldable pub values_of : List Entry → List ℤ
values_of es = map (value_at es) (range_with_len 0 64)

-- Entries ascend by place, from p to at most 63, and none holds zero.
unfoldable pub ascend_from : ℕ → List Entry → Bool
ascend_from p [] = true
ascend_from p (e ∷ es) = nat_le p e.place && (nat_lt e.place 64 && (not (is_zero e.value) && ascend_from (e.place + 1) es))
