-- The images of the two stores: the bytes that stand for 64 values.
use Rattle.std.specs.Prelude.{ℕ, ◌/◌, ◌%◌, List, [], ◌∷◌, ℤ}
use Rattle.std.specs.Int.{w32}
use Rattle.std.proofs.Common.{of_z}
use Rattle.std.specs.List.{flat_map}
use Rattle.store.specs.declared.entry.Entry.{Entry}
use Rattle.store.specs.Entries.{entries_of}

-- A value of 32 bits, in two's complement, most significant byte first.
abbrev pub value_bytes : ℤ → List ℕ
value_bytes v = (of_z w32 v / 16777216 % 256) ∷ (of_z w32 v / 65536 % 256) ∷ (of_z w32 v / 256 % 256) ∷ (of_z w32 v % 256) ∷ []

-- The dense image has the values in order.
unfoldable pub dense_image : List ℤ → List ℕ
dense_image vs = flat_map value_bytes vs

-- The sparse image has the entries in order, of each the place and then the value.
abbrev pub entry_bytes : Entry → List ℕ
entry_bytes e = e.place ∷ value_bytes e.value

unfoldable pub sparse_image : List ℤ → List ℕ
sparse_image vs = flat_map entry_bytes (entries_of vs)
