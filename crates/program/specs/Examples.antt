-- Programs that are accepted, one that each rule refuses, and programs that break two rules at once, where the answer is the rule
-- that is asked first; on the chain with top 3.
use Rattle.std.specs.Prelude.{◌≡◌, ℕ, true, List, [], ◌∷◌, pos, negsuc}
use Rattle.lattice.specs.Chain.{chain}
use Rattle.records.specs.declared.Record.{Record}
use Rattle.records.specs.Records.{bytes}
use Rattle.records.specs.Rules.{Reading, accepted, refused_by}
use Rattle.policy.specs.Policy.{Policy, leaf, erase}
use Rattle.sheet.specs.Sheet.{Sheet, Variable}
use Rattle.machine.specs.Command.{Command, skip, ◌⨾◌, set, combine, release, raise, if_variable, if_condition, while, plus}
use Rattle.program.specs.Rules.{program_in}

abbrev pub variable : Policy → Variable
variable p = record { policy = p; fed = true }

abbrev pub transient : Policy
transient = erase 0 (leaf 1) (leaf 3)

-- conditions at levels 0 and 2; variables: two transient ones, level 1 for good, the lowest, the highest; permits: on condition 0
-- from level 3 to transient, on condition 1 from level 3 to level 0, always from level 0 to level 3
abbrev pub sheet : Sheet
sheet = record {
  conditions = 0 ∷ 2 ∷ [];
  variables = variable transient ∷ variable transient ∷ variable (leaf 1) ∷ variable (leaf 0) ∷ variable (leaf 3) ∷ [];
  permits =
      record { conditions = 1; from = leaf 3; to = transient }
      ∷ record { conditions = 2; from = leaf 3; to = leaf 0 }
      ∷ record { conditions = 0; from = leaf 0; to = leaf 3 }
      ∷ [];
}

abbrev pub line : (letter a b c n : ℕ) → Record
line letter a b c n = record { letter = letter; a = a; b = b; c = c; n = n }

abbrev pub read : List Record → Reading Command
read rs = program_in (chain 3) sheet (bytes rs)

abbrev pub J : Record
J = line 74 0 0 0 0

abbrev pub K : Record
K = line 75 0 0 0 0

-- a test that may stand anywhere
abbrev pub I : Record
I = line 73 0 3 0 0

pub record ProgramExamples : Type 0 where
  pub nothing : read [] ≡ accepted skip
  pub sums : read (line 43 1 0 2 0 ∷ line 83 3 0 0 4294967295 ∷ []) ≡ accepted (combine plus 1 0 2 ⨾ set 3 (negsuc 0) ⨾ skip)
  -- the accident: a branch on a transient variable sets a count that stays
  pub accident : read (line 73 0 0 0 0 ∷ line 83 2 0 0 1 ∷ J ∷ K ∷ []) ≡ refused_by 16 1 0
  pub repaired : read (line 73 0 0 0 0 ∷ line 83 1 0 0 1 ∷ J ∷ K ∷ []) ≡ accepted (if_variable 0 (set 1 (pos 1) ⨾ skip) skip ⨾ skip)
  -- the context counts in the second block too
  pub second : read (line 73 0 0 0 0 ∷ J ∷ line 83 2 0 0 1 ∷ K ∷ []) ≡ refused_by 16 2 0
  -- and no more after K
  pub later : read (line 73 0 0 0 0 ∷ J ∷ K ∷ line 83 2 0 0 1 ∷ []) ≡ accepted (if_variable 0 skip skip ⨾ set 2 (pos 1) ⨾ skip)
  pub long : read (line 83 2 0 0 1 ∷ line 81 0 0 0 0 ∷ line 87 0 3 0 0 ∷ line 85 0 0 0 0 ∷ K ∷ J ∷ line 68 0 4 0 0 ∷ K ∷ [])
      ≡ accepted (set 2 (pos 1) ⨾ if_condition 0 (while 3 (raise 0 ⨾ skip) ⨾ skip) (release 0 4 0 ⨾ skip) ⨾ skip)
  pub odd : program_in (chain 3) sheet (83 ∷ 1 ∷ []) ≡ refused_by 11 0 0
  pub no_letter : read (line 83 1 0 0 1 ∷ line 88 0 0 0 0 ∷ []) ≡ refused_by 12 1 0
  pub no_block : read (K ∷ []) ≡ refused_by 12 0 0
  pub no_second : read (line 73 0 3 0 0 ∷ K ∷ []) ≡ refused_by 12 1 0
  pub no_third : read (line 73 0 3 0 0 ∷ J ∷ J ∷ []) ≡ refused_by 12 2 0
  pub loop_no_second : read (line 87 0 3 0 0 ∷ J ∷ []) ≡ refused_by 12 1 0
  pub left_open : read (line 73 0 3 0 0 ∷ J ∷ []) ≡ refused_by 12 2 0
  pub not_zero : read (line 83 9 1 0 0 ∷ []) ≡ refused_by 13 0 0
  pub no_variable : read (line 60 1 5 6 0 ∷ []) ≡ refused_by 14 0 5
  pub no_permit : read (line 68 1 2 3 0 ∷ []) ≡ refused_by 14 0 3
  pub no_condition : read (line 81 2 0 0 0 ∷ []) ≡ refused_by 14 0 2
  pub too_deep : read (line 73 0 3 0 0 ∷ line 73 0 3 0 0 ∷ line 73 0 3 0 0 ∷ line 73 0 3 0 0 ∷ line 73 0 3 0 0 ∷ line 73 0 3 0 0 ∷ line 73 0 3 0 0 ∷ line 73 0 3 0 0 ∷ line 73 0 3 0 0 ∷ []) ≡ refused_by 15 8 0
  -- the lowest variable that does not flow, of those read and those of the context
  pub lowest_variable : read (line 73 0 1 0 0 ∷ line 43 2 4 0 0 ∷ []) ≡ refused_by 16 1 0
  -- else the lowest condition
  pub lowest_condition : read (line 81 1 0 0 0 ∷ line 83 0 0 0 1 ∷ []) ≡ refused_by 16 1 257
  pub permit_condition : read (line 68 0 4 1 0 ∷ []) ≡ refused_by 16 0 257
  -- else the permit
  pub permit_target : read (line 68 2 4 0 0 ∷ []) ≡ refused_by 16 0 512
  -- the source counts only where it is in the context as well
  pub source_in_context : read (line 73 0 4 0 0 ∷ line 68 0 4 0 0 ∷ []) ≡ refused_by 16 1 4
  pub raised_too_low : read (line 73 0 2 0 0 ∷ line 85 0 0 0 0 ∷ []) ≡ refused_by 16 1 2
  pub loop_variable : read (line 73 0 1 0 0 ∷ line 87 0 2 0 0 ∷ []) ≡ refused_by 17 1 1
  pub loop_condition : read (line 81 1 0 0 0 ∷ line 87 0 3 0 0 ∷ []) ≡ refused_by 17 1 257
  pub source : read (line 68 4 2 2 0 ∷ []) ≡ refused_by 18 0 0
  -- two rules at once; that fields come before names is `not_zero`
  pub letter_fields : read (line 75 1 0 0 0 ∷ []) ≡ refused_by 12 0 0
  pub names_in_order : read (line 43 9 8 7 0 ∷ []) ≡ refused_by 14 0 9
  pub names_depth : read (I ∷ I ∷ I ∷ I ∷ I ∷ I ∷ I ∷ I ∷ line 73 0 9 0 0 ∷ []) ≡ refused_by 14 8 9
  pub depth_lowest : read (I ∷ I ∷ I ∷ I ∷ I ∷ I ∷ I ∷ I ∷ line 87 0 2 0 0 ∷ []) ≡ refused_by 15 8 0
  pub names_reach : read (line 43 2 0 9 0 ∷ []) ≡ refused_by 14 0 9
  pub variable_condition : read (line 81 1 0 0 0 ∷ line 73 0 4 0 0 ∷ line 83 2 0 0 1 ∷ []) ≡ refused_by 16 2 4
  pub condition_permit : read (line 81 1 0 0 0 ∷ line 68 3 4 0 0 ∷ []) ≡ refused_by 16 1 257
  pub permit_source : read (line 68 2 4 2 0 ∷ []) ≡ refused_by 16 0 514
