-- A worked example: after 5 at place 9, -1 at 2 and 0 at 9, the sparse image has one used entry and 63 unused ones.
use Rattle.std.specs.Prelude.{ℕ, List, [], ◌∷◌, replicate, ℤ, pos, negsuc, slice_set}
use Rattle.std.specs.List.{flat_map}

unfoldable pub example_values : List ℤ
example_values = slice_set (slice_set (slice_set (replicate 64 (pos 0)) 9 (pos 5)) 2 (negsuc 0)) 9 (pos 0)

unfoldable pub example_image : List ℕ
example_image = 2 ∷ 255 ∷ 255 ∷ 255 ∷ 255 ∷ flat_map (λ entry. entry) (replicate 63 (255 ∷ 0 ∷ 0 ∷ 0 ∷ 0 ∷ []))
