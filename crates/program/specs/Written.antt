-- How a program is written: its commands in their order, each as a record, blocks between I or Q and J and K, or between W and K.
-- Fields not named are zero.
use Rattle.std.specs.Prelude.{ℕ, List, [], ◌∷◌, ◌++◌}
use Rattle.std.specs.Int.{w32}
use Rattle.std.proofs.Common.{of_z}
use Rattle.records.specs.declared.Record.{Record}
use Rattle.machine.specs.Command.{Sign, plus, minus, times, less, equal, Command, skip, ◌⨾◌, set, combine, release, raise, if_variable, if_condition, while}

abbrev pub fields : ℕ → ℕ → ℕ → ℕ → Record
fields letter a b c = record { letter = letter; a = a; b = b; c = c; n = 0 }

-- + - * < =
abbrev pub letter_of : Sign → ℕ
letter_of plus = 43
letter_of minus = 45
letter_of times = 42
letter_of less = 60
letter_of equal = 61

-- S, the signs, D, U; I, Q and W with J and K. A signed number is written in two's complement.
unfoldable pub written : Command → List Record
written skip = []
written (c ⨾ d) = written c ++ written d
written (set a x) = record { letter = 83; a = a; b = 0; c = 0; n = of_z w32 x } ∷ []
written (combine s a b c) = fields (letter_of s) a b c ∷ []
written (release a b p) = fields 68 a b p ∷ []
written (raise c) = fields 85 c 0 0 ∷ []
written (if_variable b c d) = fields 73 0 b 0 ∷ (written c ++ (fields 74 0 0 0 ∷ (written d ++ (fields 75 0 0 0 ∷ []))))
written (if_condition a c d) = fields 81 a 0 0 ∷ (written c ++ (fields 74 0 0 0 ∷ (written d ++ (fields 75 0 0 0 ∷ []))))
written (while b c) = fields 87 0 b 0 ∷ (written c ++ (fields 75 0 0 0 ∷ []))
