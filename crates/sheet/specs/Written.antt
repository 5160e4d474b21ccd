-- How a sheet is written: all conditions, then all variables with their trees, then all permits with theirs, each
-- numbered from 0. A tree stands node first, then its present part, then its later part. Fields not named are zero.
use Rattle.std.specs.Prelude.{ℕ, ◌+◌, Bool, cond, List, [], ◌∷◌, ◌++◌}
use Rattle.records.specs.declared.Record.{Record}
use Rattle.policy.specs.Policy.{Policy, leaf, erase}
use Rattle.sheet.specs.Sheet.{Variable, Permit, Sheet}

-- C
abbrev pub condition_record : ℕ → ℕ → Record
condition_record i level = record { letter = 67; a = i; b = 0; c = 0; n = level }

-- V
abbrev pub variable_record : ℕ → Bool → Record
variable_record i fed = record { letter = 86; a = i; b = cond fed 1 0; c = 0; n = 0 }

-- R
abbrev pub permit_record : ℕ → ℕ → Record
permit_record i mask = record { letter = 82; a = i; b = 0; c = 0; n = mask }

-- L
abbrev pub leaf_record : ℕ → Record
leaf_record level = record { letter = 76; a = 0; b = 0; c = 0; n = level }

-- E
abbrev pub erase_record : ℕ → Record
erase_record c = record { letter = 69; a = c; b = 0; c = 0; n = 0 }

unfoldable pub tree : Policy → List Record
tree (leaf level) = leaf_record level ∷ []
tree (erase c present later) = erase_record c ∷ (tree present ++ tree later)

abbrev pub numbered : {X : Type 0} → (ℕ → X → List Record) → ℕ → List X → List Record
numbered f i [] = []
numbered f i (x ∷ xs) = f i x ++ numbered f (i + 1) xs

abbrev pub condition : ℕ → ℕ → List Record
condition i level = condition_record i level ∷ []

abbrev pub variable : ℕ → Variable → List Record
variable i v = variable_record i v.fed ∷ tree v.policy

abbrev pub permit : ℕ → Permit → List Record
permit i p = permit_record i p.conditions ∷ (tree p.from ++ tree p.to)

unfoldable pub written : Sheet → List Record
written sh = numbered condition 0 sh.conditions ++ (numbered variable 0 sh.variables ++ numbered permit 0 sh.permits)
