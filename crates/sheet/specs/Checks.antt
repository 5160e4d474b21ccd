-- The rules that are left to ask of a record once it may stand where it stands, over what the reader has at hand.
use Rattle.std.specs.Prelude.{ℕ, Bool, not, ◌&&◌, ◌||◌, List, [], ◌∷◌, ◌==◌, nat_le, nat_lt, slice_index}
use Rattle.lattice.specs.Lattice.{Lattice}
use Rattle.records.specs.declared.Record.{Record}
use Rattle.records.specs.Rules.{Rule, rule, each_from}
use Rattle.policy.specs.Masks.{bit}
use Rattle.sheet.specs.Rules.{rest_zero, conditions, variables, permits, leaves, nodes}

-- a leaf at this depth, whose level is known or not
abbrev pub leaf_rules : Record → ℕ → ℕ → Bool → List Rule
leaf_rules r place depth known = rule 4 place 0 (rest_zero r leaves) ∷ rule 6 place r.n known ∷ rule 8 place 0 (nat_le depth 4) ∷ []

-- a wiping node at this depth, with so many conditions declared
abbrev pub node_rules : Record → ℕ → ℕ → ℕ → List Rule
node_rules r place depth declared = rule 4 place 0 (rest_zero r nodes) ∷ rule 7 place r.a (nat_lt r.a declared) ∷ rule 8 place 0 (nat_le depth 4) ∷ []

-- a record whose named fields are its number, the next of so many, and n
abbrev pub numbered_rules : Record → ℕ → ℕ → ℕ → List Rule
numbered_rules r place count limit = rule 4 place 0 (r.b == 0 && r.c == 0) ∷ rule 5 place 0 (r.a == count && nat_lt r.a limit) ∷ []

-- a condition, a variable, a permit, with so many before it
abbrev pub condition_rules : Record → ℕ → ℕ → Bool → List Rule
condition_rules r place count known = rule 4 place 0 (rest_zero r conditions) ∷ rule 5 place 0 (r.a == count && nat_lt r.a 16) ∷ rule 6 place r.n known ∷ []

abbrev pub variable_rules : Record → ℕ → ℕ → List Rule
variable_rules r place count = rule 4 place 0 (rest_zero r variables) ∷ rule 5 place 0 (r.a == count && nat_lt r.a 64) ∷ []

abbrev pub permit_rules : Record → ℕ → ℕ → List Rule
permit_rules r place count = rule 4 place 0 (rest_zero r permits) ∷ rule 5 place 0 (r.a == count && nat_lt r.a 8) ∷ []

-- rule 7 of a permit's mask, with so many conditions declared
abbrev pub mask_rules : ℕ → ℕ → ℕ → List Rule
mask_rules declared mask place = each_from 0 32 (λ c. rule 7 place c (not (bit c mask) || nat_lt c declared))

-- rule 9 over a mask of wipers and a table of levels
abbrev pub wiper_rules : Lattice → List ℕ → ℕ → ℕ → ℕ → List Rule
wiper_rules C levels wipers present place = each_from 0 16 (λ c. rule 9 place c (not (bit c wipers) || C.below (slice_index levels c) present))
