-- Sheets that are accepted, one that each rule refuses, and sheets that break two rules at once, where the answer is the rule that
-- is asked first; on the chain with top 3.
use Rattle.std.specs.Prelude.{◌≡◌, ℕ, true, false, List, [], ◌∷◌}
use Rattle.lattice.specs.Chain.{chain}
use Rattle.records.specs.declared.Record.{Record}
use Rattle.records.specs.Records.{bytes}
use Rattle.records.specs.Rules.{Reading, accepted, refused_by}
use Rattle.policy.specs.Policy.{leaf, erase}
use Rattle.sheet.specs.Sheet.{Sheet, empty}
use Rattle.sheet.specs.Rules.{sheet_in}

abbrev pub line : (letter a b c n : ℕ) → Record
line letter a b c n = record { letter = letter; a = a; b = b; c = c; n = n }

abbrev pub C : (a n : ℕ) → Record
C a n = line 67 a 0 0 n

abbrev pub V : (a b : ℕ) → Record
V a b = line 86 a b 0 0

abbrev pub R : (a n : ℕ) → Record
R a n = line 82 a 0 0 n

abbrev pub L : ℕ → Record
L n = line 76 0 0 0 n

abbrev pub E : ℕ → Record
E a = line 69 a 0 0 0

-- a letter that no sheet has
abbrev pub X : Record
X = line 88 0 0 0 0

abbrev pub read : List Record → Reading Sheet
read rs = sheet_in (chain 3) (bytes rs)

pub record SheetExamples : Type 0 where
  pub nothing : read [] ≡ accepted empty
  pub all_letters : read (C 0 0 ∷ V 0 1 ∷ E 0 ∷ L 1 ∷ L 3 ∷ R 0 1 ∷ L 3 ∷ E 0 ∷ L 1 ∷ L 2 ∷ [])
      ≡ accepted (record {
        conditions = 0 ∷ [];
        variables = record { policy = erase 0 (leaf 1) (leaf 3); fed = true } ∷ [];
        permits = record { conditions = 1; from = leaf 3; to = erase 0 (leaf 1) (leaf 2) } ∷ [];
      })
  -- condition 0 stands in the later part alone, so its level does not matter
  pub later_part : read (C 0 3 ∷ C 1 0 ∷ V 0 0 ∷ E 1 ∷ L 1 ∷ E 0 ∷ L 1 ∷ L 3 ∷ [])
      ≡ accepted (record { conditions = 3 ∷ 0 ∷ []; variables = record { policy = erase 1 (leaf 1) (erase 0 (leaf 1) (leaf 3)); fed = false } ∷ []; permits = [] })
  -- the bytes of a record: its letter, a, b, c, and n with its most significant byte first
  pub bytes_in_order : sheet_in (chain 3) (86 ∷ 0 ∷ 1 ∷ 0 ∷ 0 ∷ 0 ∷ 0 ∷ 0 ∷ 76 ∷ 0 ∷ 0 ∷ 0 ∷ 0 ∷ 0 ∷ 0 ∷ 2 ∷ [])
      ≡ accepted (record { conditions = []; variables = record { policy = leaf 2; fed = true } ∷ []; permits = [] })
  pub most_significant_first : sheet_in (chain 3) (67 ∷ 0 ∷ 0 ∷ 0 ∷ 1 ∷ 2 ∷ 3 ∷ 4 ∷ []) ≡ refused_by 6 0 16909060
  -- one for each rule
  pub odd : sheet_in (chain 3) (67 ∷ []) ≡ refused_by 2 0 0
  pub no_letter : read (X ∷ []) ≡ refused_by 3 0 0
  pub late_condition : read (V 0 0 ∷ L 0 ∷ C 0 0 ∷ []) ≡ refused_by 3 2 0
  pub late_variable : read (R 0 0 ∷ L 0 ∷ L 0 ∷ V 0 0 ∷ []) ≡ refused_by 3 3 0
  pub no_later_part : read (C 0 0 ∷ V 0 0 ∷ E 0 ∷ L 1 ∷ []) ≡ refused_by 3 4 0
  pub no_to_tree : read (R 0 0 ∷ L 0 ∷ []) ≡ refused_by 3 2 0
  pub not_zero_or_one : read (V 0 2 ∷ []) ≡ refused_by 4 0 0
  pub first_is_zero : read (C 1 0 ∷ []) ≡ refused_by 5 0 0
  pub unknown : read (C 0 4 ∷ []) ≡ refused_by 6 0 4
  pub lowest_undeclared : read (C 0 0 ∷ R 0 65538 ∷ []) ≡ refused_by 7 1 1
  pub last_bit : read (R 0 2147483648 ∷ []) ≡ refused_by 7 0 31
  pub too_deep : read (C 0 0 ∷ V 0 0 ∷ E 0 ∷ E 0 ∷ E 0 ∷ E 0 ∷ L 0 ∷ []) ≡ refused_by 8 6 0
  pub wiper_above : read (C 0 2 ∷ V 0 0 ∷ E 0 ∷ L 1 ∷ L 3 ∷ []) ≡ refused_by 9 1 0
  pub lowest_wiper : read (C 0 2 ∷ C 1 3 ∷ V 0 0 ∷ E 1 ∷ E 0 ∷ L 1 ∷ L 3 ∷ L 3 ∷ []) ≡ refused_by 9 2 0
  -- two rules at once
  pub length_letter : sheet_in (chain 3) (88 ∷ []) ≡ refused_by 2 0 0
  pub letter_fields : read (line 76 1 0 0 0 ∷ []) ≡ refused_by 3 0 0
  pub fields_number : read (line 67 1 1 0 0 ∷ []) ≡ refused_by 4 0 0
  pub fields_level : read (V 0 0 ∷ line 76 1 0 0 9 ∷ []) ≡ refused_by 4 1 0
  pub fields_declared : read (V 0 0 ∷ line 69 5 1 0 0 ∷ []) ≡ refused_by 4 1 0
  pub number_level : read (C 1 9 ∷ []) ≡ refused_by 5 0 0
  pub number_declared : read (R 1 1 ∷ []) ≡ refused_by 5 0 0
  pub level_depth : read (C 0 0 ∷ V 0 0 ∷ E 0 ∷ E 0 ∷ E 0 ∷ E 0 ∷ L 9 ∷ []) ≡ refused_by 6 6 9
  pub declared_depth : read (C 0 0 ∷ V 0 0 ∷ E 0 ∷ E 0 ∷ E 0 ∷ E 0 ∷ E 1 ∷ []) ≡ refused_by 7 6 1
  -- every rule of a record before the next record; of a variable, 9 with its last node
  pub mask_tree : read (R 0 1 ∷ L 9 ∷ []) ≡ refused_by 7 0 0
  pub level_wipers : read (C 0 2 ∷ V 0 0 ∷ E 0 ∷ L 1 ∷ L 9 ∷ []) ≡ refused_by 6 4 9
  pub wipers_next : read (C 0 2 ∷ V 0 0 ∷ E 0 ∷ L 1 ∷ L 3 ∷ X ∷ []) ≡ refused_by 9 1 0
