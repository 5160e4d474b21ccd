-- Records of eight bytes: letter, a, b, c and n, which fills four bytes, most significant first.
use Rattle.std.specs.Prelude.{ℕ, ◌+◌, ◌*◌, ◌/◌, ◌%◌, ◌<◌, List, [], ◌∷◌}
use Rattle.records.specs.declared.Record.{Record}

unfoldable pub bytes : List Record → List ℕ
bytes [] = []
bytes (r ∷ rs) = r.letter ∷ r.a ∷ r.b ∷ r.c ∷ r.n / 16777216 % 256 ∷ r.n / 65536 % 256 ∷ r.n / 256 % 256 ∷ r.n % 256 ∷ bytes rs

-- the whole records at the front of the bytes
unfoldable pub records : List ℕ → List Record
records [] = []
records (a ∷ []) = []
records (a ∷ b ∷ []) = []
records (a ∷ b ∷ c ∷ []) = []
records (a ∷ b ∷ c ∷ d ∷ []) = []
records (a ∷ b ∷ c ∷ d ∷ e ∷ []) = []
records (a ∷ b ∷ c ∷ d ∷ e ∷ f ∷ []) = []
records (a ∷ b ∷ c ∷ d ∷ e ∷ f ∷ g ∷ []) = []
records (letter ∷ a ∷ b ∷ c ∷ n3 ∷ n2 ∷ n1 ∷ n0 ∷ rest) = record { letter = letter; a = a; b = b; c = c; n = n3 * 16777216 + n2 * 65536 + n1 * 256 + n0 } ∷ records rest

abbrev pub Each : {X : Type 0} → (X → Type 0) → List X → Type 0
Each P [] = Unit {0}
Each P (x ∷ xs) = P x × Each P xs

abbrev pub Byte : ℕ → Type 0
Byte b = b < 256

-- four bytes hold the record's number
abbrev pub Fit : Record → Type 0
Fit r = r.n < 4294967296
