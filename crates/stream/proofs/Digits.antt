-- Bytes that are written as digits, one after another. Assumes nothing.
use Rattle.std.proofs.Common.{◌≡◌, ℕ, ◌+◌, ◌/◌, ◌%◌, ◌<◌, false, List, [], ◌∷◌, ◌++◌, length, get_or, set, take, sym, refl, ap, ◌∙◌, append_assoc, arith}
use Rattle.std.proofs.lemmas.List.{take_more, take_more_set, length-set}
use Rattle.std.specs.Fmt.{digit_glyph}
use Rattle.stream.specs.Lines.{hexadecimal}

hexadecimal_push : (bs : List ℕ) (b : ℕ) → hexadecimal (bs ++ b ∷ []) ≡ hexadecimal bs ++ (digit_glyph false (b / 16) ∷ digit_glyph false (b % 16) ∷ [])
hexadecimal_push [] b = refl
hexadecimal_push (x ∷ xs) b = ap (λ (l : List ℕ). digit_glyph false (x / 16) ∷ digit_glyph false (x % 16) ∷ l) (hexadecimal_push xs b)

-- one byte more
pub hexadecimal_more : (bs : List ℕ) (i : ℕ) → i < length bs
    → hexadecimal (take i bs) ++ (digit_glyph false (get_or bs i 0 / 16) ∷ digit_glyph false (get_or bs i 0 % 16) ∷ []) ≡ hexadecimal (take (i + 1) bs)
hexadecimal_more bs i l = sym (ap hexadecimal (take_more bs i 0 l) ∙ hexadecimal_push (take i bs) (get_or bs i 0))

-- two more digits at the end of a text
pub two_more : (xs : List ℕ) (n a b : ℕ) → n + 1 < length xs → take (n + 2) (set (set xs n a) (n + 1) b) ≡ take n xs ++ (a ∷ b ∷ [])
two_more xs n a b l =
    let ys = set xs n a in
    let ahead : n + 2 ≡ n + 1 + 1 = omega arith in
    ap (λ k. take k (set ys (n + 1) b)) ahead
    ∙ take_more_set ys (n + 1) b (omega (arith, length-set xs n a))
    ∙ ap (λ (zs : List ℕ). zs ++ b ∷ []) (take_more_set xs n a (omega arith))
    ∙ append_assoc (take n xs) (a ∷ []) (b ∷ [])
