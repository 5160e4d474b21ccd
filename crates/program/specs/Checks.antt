-- The rules that are left to ask of a record once it may stand where it stands, over what the checker has at hand: how many things
-- are declared, and how many blocks are open. What reaches a target is asked after these, by `each_within`.
use Rattle.std.specs.Prelude.{ℕ, ◌+◌, List, [], ◌∷◌, nat_le, nat_lt}
use Rattle.records.specs.declared.Record.{Record}
use Rattle.records.specs.Rules.{Rule, rule}
use Rattle.machine.specs.Typing.{Context}
use Rattle.policy.specs.Masks.{members}
use Rattle.program.specs.Rules.{rest_zero, sets, releases, raises, variable_tests, condition_tests, ends}

abbrev pub set_fields : Record → ℕ → ℕ → List Rule
set_fields r place variables = rule 13 place 0 (rest_zero r sets) ∷ rule 14 place r.a (nat_lt r.a variables) ∷ []

-- a sign names three variables, a release two and a permit
abbrev pub three_fields : Record → ℕ → ℕ → ℕ → List Rule
three_fields r place variables thirds =
    rule 13 place 0 (rest_zero r releases) ∷ rule 14 place r.a (nat_lt r.a variables) ∷ rule 14 place r.b (nat_lt r.b variables) ∷ rule 14 place r.c (nat_lt r.c thirds) ∷ []

abbrev pub raise_fields : Record → ℕ → ℕ → List Rule
raise_fields r place conditions = rule 13 place 0 (rest_zero r raises) ∷ rule 14 place r.a (nat_lt r.a conditions) ∷ []

-- I and W
abbrev pub variable_test_fields : Record → ℕ → ℕ → ℕ → List Rule
variable_test_fields r place variables opened = rule 13 place 0 (rest_zero r variable_tests) ∷ rule 14 place r.b (nat_lt r.b variables) ∷ rule 15 place 0 (nat_le (opened + 1) 8) ∷ []

abbrev pub condition_test_fields : Record → ℕ → ℕ → ℕ → List Rule
condition_test_fields r place conditions opened = rule 13 place 0 (rest_zero r condition_tests) ∷ rule 14 place r.a (nat_lt r.a conditions) ∷ rule 15 place 0 (nat_le (opened + 1) 8) ∷ []

-- J and K
abbrev pub mark_fields : Record → ℕ → List Rule
mark_fields r place = rule 13 place 0 (rest_zero r ends) ∷ []

-- a context as two masks
abbrev pub masked : ℕ → ℕ → Context
masked variables conditions = record { variables = members variables; conditions = members conditions }
