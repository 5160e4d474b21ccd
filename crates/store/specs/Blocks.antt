-- A list that is joined from blocks of one length: how long it is, and what stands where. Assumes nothing.
use Rattle.std.specs.Prelude.{◌≡◌, ℕ, ◌+◌, ◌*◌, ◌/◌, ◌%◌, ◌<◌, List, [], ◌∷◌, length, take, slice_index, slice_index_or}
use Rattle.std.proofs.Common.{sym, ap, ◌∙◌, mul-suc, arith, length-append}
use Rattle.std.specs.List.{flat_map}
use Rattle.std.proofs.lemmas.List.{length-take-le}
use Rattle.std.proofs.lemmas.List.Concat.{get_or-flat_map}

module _ {X : Type 0} (f : X → List ℕ) (k : ℕ) (block : (x : X) → length (f x) ≡ k) where
  pub length_joined : (xs : List X) → length (flat_map f xs) ≡ k * length xs
  length_joined [] = omega arith
  length_joined (x ∷ xs) =
      let m = mul-suc k (length xs) in
      omega (arith, length-append (f x) (flat_map f xs), block x, length_joined xs)

  pub get_or_block : (xs : List X) (at : ℕ) (d : X) → 0 < k → at / k < length xs → slice_index (flat_map f xs) at ≡ slice_index (f (slice_index_or xs (at / k) d)) (at % k)
  get_or_block xs at d z h =
      let b = block (slice_index_or xs (at / k) d) in
      let l = length_joined (take (at / k) xs) ∙ ap (λ n. k * n) (length-take-le (at / k) xs (omega arith)) in
      let e : length (flat_map f (take (at / k) xs)) + at % k ≡ at = omega arith in
      ap (slice_index (flat_map f xs)) (sym e) ∙ get_or-flat_map f xs (at / k) (at % k) d 0 h (omega arith)
