-- One record more, and a rest that is none. Assumes nothing.
use Rattle.std.proofs.Common.{◌≡◌, ℕ, ◌+◌, ◌-◌, ◌*◌, ◌/◌, ◌%◌, ◌<◌, ◌≤◌, List, [], ◌∷◌, ◌++◌, length, get_or, take, drop, sym, refl, ap, ◌∙◌, arith, length-drop, length-take, take_all}
use Rattle.records.specs.declared.Record.{Record}
use Rattle.records.specs.Records.{bytes, records}

pub records_short : (xs : List ℕ) → length xs < 8 → records xs ≡ []
unfolding records
records_short [] p = refl
records_short (a ∷ []) p = refl
records_short (a ∷ b ∷ []) p = refl
records_short (a ∷ b ∷ c ∷ []) p = refl
records_short (a ∷ b ∷ c ∷ d ∷ []) p = refl
records_short (a ∷ b ∷ c ∷ d ∷ e ∷ []) p = refl
records_short (a ∷ b ∷ c ∷ d ∷ e ∷ f ∷ []) p = refl
records_short (a ∷ b ∷ c ∷ d ∷ e ∷ f ∷ g ∷ []) p = refl
records_short (a ∷ b ∷ c ∷ d ∷ e ∷ f ∷ g ∷ h ∷ rest) p = absurd (omega arith)

abbrev first_record : List ℕ → ℕ → Record
first_record xs n = record { letter = get_or xs 0 0; a = get_or xs 1 0; b = get_or xs 2 0; c = get_or xs 3 0; n = n }

pub records_more : (xs : List ℕ) (n : ℕ) → 8 ≤ length xs → n ≡ get_or xs 4 0 * 16777216 + get_or xs 5 0 * 65536 + get_or xs 6 0 * 256 + get_or xs 7 0
    → records xs ≡ first_record xs n ∷ records (take (length xs - 8) (drop 8 xs))
unfolding records
records_more [] n p q = absurd (omega arith)
records_more (a ∷ []) n p q = absurd (omega arith)
records_more (a ∷ b ∷ []) n p q = absurd (omega arith)
records_more (a ∷ b ∷ c ∷ []) n p q = absurd (omega arith)
records_more (a ∷ b ∷ c ∷ d ∷ []) n p q = absurd (omega arith)
records_more (a ∷ b ∷ c ∷ d ∷ e ∷ []) n p q = absurd (omega arith)
records_more (a ∷ b ∷ c ∷ d ∷ e ∷ f ∷ []) n p q = absurd (omega arith)
records_more (a ∷ b ∷ c ∷ d ∷ e ∷ f ∷ g ∷ []) n p q = absurd (omega arith)
records_more (a ∷ b ∷ c ∷ d ∷ e ∷ f ∷ g ∷ h ∷ rest) n p q = rw q (ap (λ l. first_record (a ∷ b ∷ c ∷ d ∷ e ∷ f ∷ g ∷ h ∷ rest) (e * 16777216 + f * 65536 + g * 256 + h) ∷ records l) (sym (take_all _ rest (omega arith))))

pub length_more : (xs : List ℕ) → 8 ≤ length xs → length xs ≡ 8 + length (take (length xs - 8) (drop 8 xs))
length_more xs h = simp (length-take, length-drop) (omega arith)

pub bytes_more : (xs : List ℕ) (n : ℕ) → 8 ≤ length xs → ((i : ℕ) → get_or xs i 0 < 256) → n ≡ get_or xs 4 0 * 16777216 + get_or xs 5 0 * 65536 + get_or xs 6 0 * 256 + get_or xs 7 0
    → xs ≡ bytes (first_record xs n ∷ []) ++ take (length xs - 8) (drop 8 xs)
unfolding bytes
bytes_more [] n p t q = absurd (omega arith)
bytes_more (a ∷ []) n p t q = absurd (omega arith)
bytes_more (a ∷ b ∷ []) n p t q = absurd (omega arith)
bytes_more (a ∷ b ∷ c ∷ []) n p t q = absurd (omega arith)
bytes_more (a ∷ b ∷ c ∷ d ∷ []) n p t q = absurd (omega arith)
bytes_more (a ∷ b ∷ c ∷ d ∷ e ∷ []) n p t q = absurd (omega arith)
bytes_more (a ∷ b ∷ c ∷ d ∷ e ∷ f ∷ []) n p t q = absurd (omega arith)
bytes_more (a ∷ b ∷ c ∷ d ∷ e ∷ f ∷ g ∷ []) n p t q = absurd (omega arith)
bytes_more (a ∷ b ∷ c ∷ d ∷ n3 ∷ n2 ∷ n1 ∷ n0 ∷ rest) n p t q =
    let f3 : n3 < 256 = t 4 in
    let f2 : n2 < 256 = t 5 in
    let f1 : n1 < 256 = t 6 in
    let f0 : n0 < 256 = t 7 in
    let e3 : n / 16777216 % 256 ≡ n3 = omega (arith, f3, f2, f1, f0, q) in
    let e2 : n / 65536 % 256 ≡ n2 = omega (arith, f3, f2, f1, f0, q) in
    let e1 : n / 256 % 256 ≡ n1 = omega (arith, f3, f2, f1, f0, q) in
    let e0 : n % 256 ≡ n0 = omega (arith, f3, f2, f1, f0, q) in
    let r : rest ≡ take (length rest) rest = sym (take_all _ rest (omega arith)) in
    let s : length rest ≡ length (a ∷ b ∷ c ∷ d ∷ n3 ∷ n2 ∷ n1 ∷ n0 ∷ rest) - 8 = omega arith in
    λ i. a ∷ b ∷ c ∷ d ∷ sym e3 i ∷ sym e2 i ∷ sym e1 i ∷ sym e0 i ∷ (r ∙ ap (λ k. take k rest) s) i
