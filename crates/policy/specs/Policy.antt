-- Erasure policies. A policy is a level, or it erases on a condition: the present part says who may know the value now,
-- and the later part who may know it once the condition has come up.
use Rattle.std.specs.Prelude.{ℕ, ◌<◌, Bool, false, cond, ◌||◌, ◌==◌}
use Rattle.lattice.specs.Lattice.{Lattice, Known, Below}

-- a set of numbers, here of conditions
abbrev pub Set : Type 0
Set = ℕ → Bool

abbrev pub none : Set
none n = false

abbrev pub add : ℕ → Set → Set
add a s n = n == a || s n

pub data Policy : Type 0 where
  leaf : (level : ℕ) → Policy
  erase : (condition : ℕ) → (present later : Policy) → Policy

-- once the conditions of the set have come up
abbrev pub level_under : Lattice → Set → Policy → ℕ
level_under C s (leaf l) = l
level_under C s (erase c p q) = cond (s c) (C.join (level_under C s p) (level_under C s q)) (level_under C s p)

abbrev pub present_level : Lattice → Policy → ℕ
present_level C p = level_under C none p

-- whatever comes up, the one level is below the other
abbrev pub FlowsTo : Lattice → Policy → Policy → Type 0
FlowsTo C p q = (s : Set) → Below C (level_under C s p) (level_under C s q)

-- Does the condition wipe a variable of this policy? A node's own condition does, and what wipes its present part.
abbrev pub wipes : ℕ → Policy → Bool
wipes c (leaf l) = false
wipes c (erase d p q) = c == d || wipes c p

-- does some condition of the set wipe a variable of this policy?
abbrev pub wiped_by : Set → Policy → Bool
wiped_by s (leaf l) = false
wiped_by s (erase d p q) = s d || wiped_by s p

abbrev pub KnownLevels : Lattice → Policy → Type 0
KnownLevels C (leaf l) = Known C l
KnownLevels C (erase c p q) = KnownLevels C p × KnownLevels C q

abbrev pub ConditionsBelow : ℕ → Policy → Type 0
ConditionsBelow n (leaf l) = Unit {0}
ConditionsBelow n (erase c p q) = (c < n) × ConditionsBelow n p × ConditionsBelow n q
