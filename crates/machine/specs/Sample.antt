-- The reader of sheets with a reader that accepts one program, and a session: what the promises ask of readers can be met.
use Rattle.std.specs.Prelude.{◌≡◌, ℕ, ◌%◌, Bool, true, false, ◌&&◌, List, [], ◌∷◌, map, pos, ◌==◌}
use Rattle.std.specs.Int.{w32}
use Rattle.std.proofs.Common.{of_z}
use Rattle.lattice.specs.Chain.{chain}
use Rattle.records.specs.declared.Record.{Record}
use Rattle.records.specs.Records.{bytes}
use Rattle.records.specs.Refusals.{refusal}
use Rattle.records.specs.Rules.{Rule, rule, first, accepted}
use Rattle.policy.specs.Policy.{Policy, leaf, erase}
use Rattle.sheet.specs.Sheet.{Sheet, policy_of, declared_variable}
use Rattle.machine.specs.Command.{Command, skip, ◌⨾◌, combine, plus}
use Rattle.machine.specs.Calls.{Call, Answer}
use Rattle.machine.specs.Machine.{Readers, System, bare, history}
use Rattle.machine.specs.SheetReader.{read_sheet}
use Rattle.machine.specs.Promises.{SoundReaders, SameKind}

abbrev pub sample_program : Command
sample_program = combine plus 2 0 0 ⨾ skip

abbrev line : (letter a b c n : ℕ) → Record
line letter a b c n = record { letter = letter; a = a; b = b; c = c; n = n }

-- C; V, E, L, L; V, L; V, E, L, L
abbrev pub sheet_bytes : List ℕ
sheet_bytes = bytes (
    line 67 0 0 0 0
    ∷ line 86 0 1 0 0 ∷ line 69 0 0 0 0 ∷ line 76 0 0 0 1 ∷ line 76 0 0 0 3
    ∷ line 86 1 0 0 0 ∷ line 76 0 0 0 0
    ∷ line 86 2 0 0 0 ∷ line 69 0 0 0 0 ∷ line 76 0 0 0 1 ∷ line 76 0 0 0 3
    ∷ [])

-- +
abbrev pub program_bytes : List ℕ
program_bytes = bytes (line 43 2 0 0 0 ∷ [])

abbrev pub same : List ℕ → List ℕ → Bool
same [] [] = true
same [] (y ∷ ys) = false
same (x ∷ xs) [] = false
same (x ∷ xs) (y ∷ ys) = x == y && same xs ys

abbrev pub same_policy : Policy → Policy → Bool
same_policy (leaf l) (leaf k) = l == k
same_policy (leaf l) (erase d r t) = false
same_policy (erase c p q) (leaf k) = false
same_policy (erase c p q) (erase d r t) = c == d && (same_policy p r && same_policy q t)

-- a value may flow to a variable of the same policy
abbrev pub program_rules : Sheet → List ℕ → List Rule
program_rules sh xs =
    rule 12 0 0 (same xs program_bytes) ∷ rule 14 0 2 (declared_variable sh 2) ∷ rule 14 0 0 (declared_variable sh 0)
    ∷ rule 16 0 0 (same_policy (policy_of sh 0) (policy_of sh 2)) ∷ []

abbrev pub sample_readers : Readers
sample_readers = record { sheet = read_sheet; program = λ C sh xs. first (program_rules sh xs) (accepted sample_program) }

-- the store shows the last byte of each value
abbrev pub sample : System
sample = record { lattice = chain 3; readers = sample_readers; image = map (λ x. of_z w32 x % 256) }

abbrev pub session : List Call
session =
    Call.sheet sheet_bytes ∷ Call.load program_bytes ∷ Call.feed 0 (pos 7) ∷ Call.pass 10 ∷ Call.look 1 2
    ∷ Call.raise 0 ∷ Call.look 1 2 ∷ Call.feed 0 (pos 9) ∷ Call.lower 0 ∷ Call.feed 0 (pos 9) ∷ Call.look 0 0 ∷ []

abbrev pub session_answers : List Answer
session_answers =
    Answer.number (pos 3) ∷ Answer.number (pos 1) ∷ Answer.number (pos 0) ∷ Answer.done 0 ∷ Answer.number (pos 14)
    ∷ Answer.number (pos 0) ∷ Answer.number (pos 0) ∷ Answer.refused (refusal 20 0 0)
    ∷ Answer.number (pos 0) ∷ Answer.number (pos 0) ∷ Answer.refused (refusal 25 0 0) ∷ []

pub record SampleStands : Type 0 where
  pub sound : SoundReaders sample_readers
  pub kind : SameKind sample_readers sample sample
  pub answers : map (λ e. e.answer) (history sample bare session) ≡ session_answers
