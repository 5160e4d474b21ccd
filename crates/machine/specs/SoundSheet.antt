-- What an accepted sheet obeys: every level is known, permits name declared conditions, and each condition that wipes a
-- variable has a level below the variable's present level, so that whoever sees the variable sees what wipes it.
use Rattle.std.specs.Prelude.{◌≡◌, ℕ, true}
use Rattle.lattice.specs.Lattice.{Lattice, Known, Below}
use Rattle.policy.specs.Policy.{wipes, present_level, KnownLevels}
use Rattle.policy.specs.Masks.{bit}
use Rattle.sheet.specs.Sheet.{Sheet, policy_of, level_of, permit_at, declared_variable, declared_condition, declared_permit}

abbrev pub HasVariable : Sheet → ℕ → Type 0
HasVariable sh v = declared_variable sh v ≡ true

abbrev pub HasCondition : Sheet → ℕ → Type 0
HasCondition sh c = declared_condition sh c ≡ true

abbrev pub HasPermit : Sheet → ℕ → Type 0
HasPermit sh p = declared_permit sh p ≡ true

pub record SoundSheet (C : Lattice) (sh : Sheet) : Type 0 where
  pub conditions : (c : ℕ) → HasCondition sh c → Known C (level_of sh c)
  pub variables : (v : ℕ) → HasVariable sh v → KnownLevels C (policy_of sh v)
  pub permits : (p : ℕ) → HasPermit sh p → KnownLevels C (permit_at sh p).from × KnownLevels C (permit_at sh p).to
  pub named : (p c : ℕ) → HasPermit sh p → bit c (permit_at sh p).conditions ≡ true → HasCondition sh c
  pub wipers : (v c : ℕ) → HasVariable sh v → wipes c (policy_of sh v) ≡ true → Below C (level_of sh c) (present_level C (policy_of sh v))
