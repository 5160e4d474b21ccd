-- The dense image has four bytes to a value, the sparse image five to an entry. Assumes nothing.
use Rattle.std.specs.Prelude.{◌≡◌, ℕ, ◌*◌, ◌/◌, ◌%◌, ◌<◌, List, length, ℤ, slice_index, slice_index_or, refl}
use Rattle.std.proofs.Common.{sym, ap, ◌∙◌, arith}
use Rattle.std.specs.List.{flat_map}
use Rattle.store.specs.declared.entry.Entry.{Entry}
use Rattle.store.specs.Entries.{entries_of}
use Rattle.store.specs.Images.{value_bytes, dense_image, entry_bytes, sparse_image}
use Rattle.store.specs.Blocks.{length_joined, get_or_block}
use Rattle.store.specs.NormalForm.{length_entries}

pub length_dense : (vs : List ℤ) → length (dense_image vs) ≡ 4 * length vs
unfolding dense_image
length_dense = length_joined value_bytes 4 (λ v. refl)

pub get_or_dense : (vs : List ℤ) (at : ℕ) (d : ℤ) → at / 4 < length vs → slice_index (dense_image vs) at ≡ slice_index (value_bytes (slice_index_or vs (at / 4) d)) (at % 4)
unfolding dense_image
get_or_dense vs at d = get_or_block value_bytes 4 (λ v. refl) vs at d (omega arith)

pub length_sparse : (vs : List ℤ) → length vs ≡ 64 → length (sparse_image vs) ≡ 320
unfolding sparse_image
length_sparse vs n = omega (arith, length_joined entry_bytes 5 (λ e. refl) (entries_of vs), length_entries vs n)

pub get_or_sparse : (vs : List ℤ) (es : List Entry) → es ≡ entries_of vs → (at : ℕ) (d : Entry) → at / 5 < length es
    → slice_index (sparse_image vs) at ≡ slice_index (entry_bytes (slice_index_or es (at / 5) d)) (at % 5)
unfolding sparse_image
get_or_sparse vs es n at d h = ap (λ l. slice_index (flat_map entry_bytes l) at) (sym n) ∙ get_or_block entry_bytes 5 (λ e. refl) es at d (omega arith) h
