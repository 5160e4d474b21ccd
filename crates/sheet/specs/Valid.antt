-- Which sheets are valid.
use Rattle.std.specs.Prelude.{◌≡◌, ℕ, ◌+◌, ◌<◌, ◌≤◌, true, length}
use Rattle.lattice.specs.Lattice.{Lattice, Known, Below}
use Rattle.policy.specs.Policy.{Policy, leaf, erase, wipes, present_level}
use Rattle.sheet.specs.Sheet.{Variable, Permit, Sheet, level_of}
use Rattle.policy.specs.Masks.{bit}
use Rattle.records.specs.Records.{Each}
use Rattle.sheet.specs.Written.{written}

-- a level that the lattice knows, and that four bytes hold
abbrev pub Level : Lattice → ℕ → Type 0
Level C level = Known C level × (level < 4294967296)

-- with so many conditions declared, a policy whose root stands at this depth
abbrev pub WellFormed : Lattice → ℕ → ℕ → Policy → Type 0
WellFormed C count depth (leaf level) = Level C level × (depth ≤ 4)
WellFormed C count depth (erase c present later) = (c < count) × (depth ≤ 4) × WellFormed C count (depth + 1) present × WellFormed C count (depth + 1) later

abbrev pub WipersBelow : Lattice → Sheet → Policy → Type 0
WipersBelow C sh p = (c : ℕ) → wipes c p ≡ true → Below C (level_of sh c) (present_level C p)

abbrev pub ValidVariable : Lattice → Sheet → Variable → Type 0
ValidVariable C sh v = WellFormed C (length sh.conditions) 1 v.policy × WipersBelow C sh v.policy

abbrev pub ValidPermit : Lattice → Sheet → Permit → Type 0
ValidPermit C sh p =
    (p.conditions < 4294967296) × ((c : ℕ) → bit c p.conditions ≡ true → c < length sh.conditions)
    × WellFormed C (length sh.conditions) 1 p.from × WellFormed C (length sh.conditions) 1 p.to

pub record Valid (C : Lattice) (sh : Sheet) : Type 0 where
  pub size : length (written sh) ≤ 512
  pub counts : (length sh.conditions ≤ 16) × (length sh.variables ≤ 64) × (length sh.permits ≤ 8)
  pub levels : Each (Level C) sh.conditions
  pub variables : Each (ValidVariable C sh) sh.variables
  pub permits : Each (ValidPermit C sh) sh.permits
