-- Records and their bytes. Assumes nothing.
use Rattle.std.proofs.Common.{◌≡◌, ℕ, suc, ◌+◌, ◌*◌, ◌/◌, ◌%◌, ◌<◌, ◌≤◌, List, [], ◌∷◌, ◌++◌, length, get_or, sym, refl, ap, ◌∙◌, arith}
use Rattle.records.specs.declared.Record.{Record}
use Rattle.records.specs.Records.{bytes, records, Each, Byte, Fit}

four : (n : ℕ) → n < 4294967296 → n / 16777216 % 256 * 16777216 + n / 65536 % 256 * 65536 + n / 256 % 256 * 256 + n % 256 ≡ n
four n h =
    let a : n / 256 / 256 ≡ n / 65536 = omega arith in
    let b : n / 65536 / 256 ≡ n / 16777216 = omega arith in
    let c : n / 16777216 % 256 ≡ n / 16777216 = omega (arith, h) in
    let d : n / 256 % 256 + n / 256 / 256 * 256 ≡ n / 256 = omega arith in
    let e : n / 65536 % 256 + n / 65536 / 256 * 256 ≡ n / 65536 = omega arith in
    let f : n % 256 + n / 256 * 256 ≡ n = omega arith in
    go (n / 16777216 % 256) (n / 65536 % 256) (n / 256 % 256) (n % 256) (n / 16777216) (n / 65536) (n / 256) (d ∙ refl) a b c d e f
  where
    go : (x y z w p q r : ℕ) → z + n / 256 / 256 * 256 ≡ r → n / 256 / 256 ≡ q → n / 65536 / 256 ≡ p → x ≡ p → z + n / 256 / 256 * 256 ≡ r → y + n / 65536 / 256 * 256 ≡ q → w + r * 256 ≡ n → x * 16777216 + y * 65536 + z * 256 + w ≡ n
    go x y z w p q r d0 a b c d e f =
        let a1 : z + q * 256 ≡ r = ap (λ k. z + k * 256) (sym a) ∙ d in
        let b1 : y + p * 256 ≡ q = ap (λ k. y + k * 256) (sym b) ∙ e in
        omega (arith, a1, b1, c, f)

pub records_bytes : (rs : List Record) → Each Fit rs → records (bytes rs) ≡ rs
unfolding bytes records
records_bytes [] f = refl
records_bytes (r ∷ rs) f =
    λ i. record { letter = r.letter; a = r.a; b = r.b; c = r.c; n = four r.n f.0 i } ∷ records_bytes rs f.1 i

pub length_bytes : (rs : List Record) → length (bytes rs) ≡ 8 * length rs
unfolding bytes
length_bytes [] = refl
length_bytes (r ∷ rs) = omega (arith, length_bytes rs)

four_fit : (n3 n2 n1 n0 : ℕ) → n3 < 256 → n2 < 256 → n1 < 256 → n0 < 256 → n3 * 16777216 + n2 * 65536 + n1 * 256 + n0 < 4294967296
four_fit n3 n2 n1 n0 a b c d = omega arith

pub bytes_records : (bs : List ℕ) → Each Byte bs → length bs % 8 ≡ 0 → bytes (records bs) ≡ bs
unfolding bytes records
bytes_records [] f h = refl
bytes_records (a ∷ []) f h = absurd (omega arith)
bytes_records (a ∷ b ∷ []) f h = absurd (omega arith)
bytes_records (a ∷ b ∷ c ∷ []) f h = absurd (omega arith)
bytes_records (a ∷ b ∷ c ∷ d ∷ []) f h = absurd (omega arith)
bytes_records (a ∷ b ∷ c ∷ d ∷ e ∷ []) f h = absurd (omega arith)
bytes_records (a ∷ b ∷ c ∷ d ∷ e ∷ g ∷ []) f h = absurd (omega arith)
bytes_records (a ∷ b ∷ c ∷ d ∷ e ∷ g ∷ k ∷ []) f h = absurd (omega arith)
bytes_records (a ∷ b ∷ c ∷ d ∷ n3 ∷ n2 ∷ n1 ∷ n0 ∷ rest) f h =
    let f3 = f.1.1.1.1.0 in
    let f2 = f.1.1.1.1.1.0 in
    let f1 = f.1.1.1.1.1.1.0 in
    let f0 = f.1.1.1.1.1.1.1.0 in
    let e3 : (n3 * 16777216 + n2 * 65536 + n1 * 256 + n0) / 16777216 % 256 ≡ n3 = omega (arith, f3, f2, f1, f0) in
    let e2 : (n3 * 16777216 + n2 * 65536 + n1 * 256 + n0) / 65536 % 256 ≡ n2 = omega (arith, f3, f2, f1, f0) in
    let e1 : (n3 * 16777216 + n2 * 65536 + n1 * 256 + n0) / 256 % 256 ≡ n1 = omega (arith, f3, f2, f1, f0) in
    let e0 : (n3 * 16777216 + n2 * 65536 + n1 * 256 + n0) % 256 ≡ n0 = omega (arith, f3, f2, f1, f0) in
    λ i. a ∷ b ∷ c ∷ d ∷ e3 i ∷ e2 i ∷ e1 i ∷ e0 i ∷ bytes_records rest f.1.1.1.1.1.1.1.1 (omega (arith, h)) i

pub length_records : (bs : List ℕ) → 8 * length (records bs) ≤ length bs
unfolding records
length_records [] = omega arith
length_records (a ∷ []) = omega arith
length_records (a ∷ b ∷ []) = omega arith
length_records (a ∷ b ∷ c ∷ []) = omega arith
length_records (a ∷ b ∷ c ∷ d ∷ []) = omega arith
length_records (a ∷ b ∷ c ∷ d ∷ e ∷ []) = omega arith
length_records (a ∷ b ∷ c ∷ d ∷ e ∷ g ∷ []) = omega arith
length_records (a ∷ b ∷ c ∷ d ∷ e ∷ g ∷ k ∷ []) = omega arith
length_records (a ∷ b ∷ c ∷ d ∷ n3 ∷ n2 ∷ n1 ∷ n0 ∷ rest) = omega (arith, length_records rest)

pub records_fit : (bs : List ℕ) → Each Byte bs → Each Fit (records bs)
unfolding records
records_fit [] f = tt
records_fit (a ∷ []) f = tt
records_fit (a ∷ b ∷ []) f = tt
records_fit (a ∷ b ∷ c ∷ []) f = tt
records_fit (a ∷ b ∷ c ∷ d ∷ []) f = tt
records_fit (a ∷ b ∷ c ∷ d ∷ e ∷ []) f = tt
records_fit (a ∷ b ∷ c ∷ d ∷ e ∷ g ∷ []) f = tt
records_fit (a ∷ b ∷ c ∷ d ∷ e ∷ g ∷ k ∷ []) f = tt
records_fit (a ∷ b ∷ c ∷ d ∷ n3 ∷ n2 ∷ n1 ∷ n0 ∷ rest) f =
    (four_fit n3 n2 n1 n0 f.1.1.1.1.0 f.1.1.1.1.1.0 f.1.1.1.1.1.1.0 f.1.1.1.1.1.1.1.0, records_fit rest f.1.1.1.1.1.1.1.1)

pub each_append : {X : Type 0} (P : X → Type 0) (xs ys : List X) → Each P xs → Each P ys → Each P (xs ++ ys)
each_append P [] ys f g = g
each_append P (x ∷ xs) ys f g = (f.0, each_append P xs ys f.1 g)

-- what holds at every index holds of each
pub each_at : (bs : List ℕ) → ((i : ℕ) → get_or bs i 0 < 256) → Each Byte bs
each_at [] f = tt
each_at (b ∷ bs) f = (f 0, each_at bs (λ i. f (suc i)))

-- what stands at the front of bytes is one record only
pub record_front : (r s : Record) (xs ys : List ℕ) → Fit r → Fit s → bytes (r ∷ []) ++ xs ≡ bytes (s ∷ []) ++ ys → (r ≡ s) × (xs ≡ ys)
unfolding bytes
record_front r s xs ys f g h =
    let l : r.letter ≡ s.letter = cc h in
    let a : r.a ≡ s.a = cc h in
    let b : r.b ≡ s.b = cc h in
    let c : r.c ≡ s.c = cc h in
    let e3 : r.n / 16777216 % 256 ≡ s.n / 16777216 % 256 = cc h in
    let e2 : r.n / 65536 % 256 ≡ s.n / 65536 % 256 = cc h in
    let e1 : r.n / 256 % 256 ≡ s.n / 256 % 256 = cc h in
    let e0 : r.n % 256 ≡ s.n % 256 = cc h in
    let rest : xs ≡ ys = cc h in
    let n : r.n ≡ s.n = sym (four r.n f) ∙ (λ i. e3 i * 16777216 + e2 i * 65536 + e1 i * 256 + e0 i) ∙ four s.n g in
    (λ i. record { letter = l i; a = a i; b = b i; c = c i; n = n i }, rest)
