-- The rules of a program in their order, numbered as in docs/RULES.md. The first that fails is the answer.
use Rattle.std.specs.Prelude.{ℕ, ◌+◌, ◌%◌, Bool, true, false, cond, not, ◌&&◌, ◌||◌, List, [], ◌∷◌, ◌++◌, length, ◌==◌, nat_le}
use Rattle.std.specs.Int.{w32}
use Rattle.std.proofs.Common.{to_z}
use Rattle.lattice.specs.Lattice.{Lattice}
use Rattle.records.specs.declared.Record.{Record}
use Rattle.records.specs.Records.{records}
use Rattle.records.specs.Rules.{Reading, accepted, Rule, rule, each_from, first}
use Rattle.policy.specs.Policy.{Policy, leaf, present_level}
use Rattle.policy.specs.Masks.{members}
use Rattle.sheet.specs.Sheet.{Sheet, policy_of, level_of, permit_at, declared_variable, declared_condition, declared_permit}
use Rattle.machine.specs.Command.{Sign, plus, minus, times, less, equal, Command, skip, ◌⨾◌, set, combine, release, raise, if_variable, if_condition, while}
use Rattle.machine.specs.Typing.{Context, outermost, under_variable, under_condition, under_conditions}
use Rattle.program.specs.Deciding.{flows}

-- ── what the records so far have established ──

-- what I or Q tests
pub data Test : Type 0 where
  on_variable on_condition : ℕ → Test

abbrev pub tested : Test → Context → Context
tested (on_variable v) pc = under_variable v pc
tested (on_condition c) pc = under_condition c pc

abbrev pub branch : Test → Command → Command → Command
branch (on_variable v) c d = if_variable v c d
branch (on_condition a) c d = if_condition a c d

-- An open block, with the context around it and the commands before it, once those after it are known: the first block of a test,
-- the second (with the first), or a loop's.
pub data Block : Type 0 where
  then_block : Test → (around : Context) → (before : Command → Command) → Block
  else_block : Test → (then : Command) → (around : Context) → (before : Command → Command) → Block
  loop_block : (variable : ℕ) → (around : Context) → (before : Command → Command) → Block

pub record State : Type 0 where
  -- how many records went before
  pub place : ℕ
  -- the open blocks, the innermost first
  pub blocks : List Block
  -- the context in the innermost
  pub context : Context
  -- the commands of the innermost, once those that follow are known
  pub commands : Command → Command

abbrev pub at : ℕ → List Block → Context → (Command → Command) → State
at place blocks pc commands = record { place = place; blocks = blocks; context = pc; commands = commands }

-- ── the letters S, + - * < =, D, U, I, Q, W, J, K ──

pub data Kind : Type 0 where
  sets releases raises variable_tests condition_tests loops elses ends others : Kind
  signs : Sign → Kind

abbrev pub kind : ℕ → Kind
kind letter =
    cond (letter == 83) sets
    (cond (letter == 43) (signs plus)
    (cond (letter == 45) (signs minus)
    (cond (letter == 42) (signs times)
    (cond (letter == 60) (signs less)
    (cond (letter == 61) (signs equal)
    (cond (letter == 68) releases
    (cond (letter == 85) raises
    (cond (letter == 73) variable_tests
    (cond (letter == 81) condition_tests
    (cond (letter == 87) loops
    (cond (letter == 74) elses
    (cond (letter == 75) ends others))))))))))))

-- ── the rules ──

abbrev pub in_first : List Block → Bool
in_first (then_block t pc before ∷ bs) = true
in_first (else_block t c pc before ∷ bs) = false
in_first (loop_block v pc before ∷ bs) = false
in_first [] = false

abbrev pub in_last : List Block → Bool
in_last (then_block t pc before ∷ bs) = false
in_last (else_block t c pc before ∷ bs) = true
in_last (loop_block v pc before ∷ bs) = true
in_last [] = false

-- 12: the letter may stand here: J ends the first block of a test, K the second or a loop's
abbrev pub may_stand : List Block → Kind → Bool
may_stand bs elses = in_first bs
may_stand bs ends = in_last bs
may_stand bs others = false
may_stand bs sets = true
may_stand bs (signs s) = true
may_stand bs releases = true
may_stand bs raises = true
may_stand bs variable_tests = true
may_stand bs condition_tests = true
may_stand bs loops = true

-- 13: fields that are not named are zero
abbrev pub rest_zero : Record → Kind → Bool
rest_zero r sets = r.b == 0 && r.c == 0
rest_zero r (signs s) = r.n == 0
rest_zero r releases = r.n == 0
rest_zero r raises = r.b == 0 && (r.c == 0 && r.n == 0)
rest_zero r variable_tests = r.a == 0 && (r.c == 0 && r.n == 0)
rest_zero r condition_tests = r.b == 0 && (r.c == 0 && r.n == 0)
rest_zero r loops = r.a == 0 && (r.c == 0 && r.n == 0)
rest_zero r elses = r.a == 0 && (r.b == 0 && (r.c == 0 && r.n == 0))
rest_zero r ends = r.a == 0 && (r.b == 0 && (r.c == 0 && r.n == 0))
rest_zero r others = true

-- 14: each thing named is declared
abbrev pub declared : Sheet → ℕ → Record → Kind → List Rule
declared sh place r sets = rule 14 place r.a (declared_variable sh r.a) ∷ []
declared sh place r (signs s) =
    rule 14 place r.a (declared_variable sh r.a) ∷ rule 14 place r.b (declared_variable sh r.b) ∷ rule 14 place r.c (declared_variable sh r.c) ∷ []
declared sh place r releases =
    rule 14 place r.a (declared_variable sh r.a) ∷ rule 14 place r.b (declared_variable sh r.b) ∷ rule 14 place r.c (declared_permit sh r.c) ∷ []
declared sh place r raises = rule 14 place r.a (declared_condition sh r.a) ∷ []
declared sh place r variable_tests = rule 14 place r.b (declared_variable sh r.b) ∷ []
declared sh place r condition_tests = rule 14 place r.a (declared_condition sh r.a) ∷ []
declared sh place r loops = rule 14 place r.b (declared_variable sh r.b) ∷ []
declared sh place r elses = []
declared sh place r ends = []
declared sh place r others = []

-- 15: at most 8 blocks are open, with the one that opens here
abbrev pub shallow : List Block → Kind → Bool
shallow bs variable_tests = nat_le (length bs + 1) 8
shallow bs condition_tests = nat_le (length bs + 1) 8
shallow bs loops = nat_le (length bs + 1) 8
shallow bs sets = true
shallow bs (signs s) = true
shallow bs releases = true
shallow bs raises = true
shallow bs elses = true
shallow bs ends = true
shallow bs others = true

-- the widest context that may reach a target of this policy
abbrev pub widest : Lattice → Sheet → Policy → Context
widest C sh p = record { variables = λ v. flows C (policy_of sh v) p; conditions = λ c. C.below (level_of sh c) (present_level C p) }

-- each variable of the one context is in the other, the lowest first, and then each condition
unfoldable pub each_within : ℕ → ℕ → Context → Context → List Rule
each_within number place pc wide =
    each_from 0 64 (λ v. rule number place v (not (pc.variables v) || wide.variables v))
    ++ each_from 0 16 (λ c. rule number place (256 + c) (not (pc.conditions c) || wide.conditions c))

-- 16: all that reaches the target flows to it: what is read, the context and, for D, the permit's conditions and what it releases to
abbrev pub reaching : Lattice → Sheet → ℕ → Context → Record → Kind → List Rule
reaching C sh place pc r sets = each_within 16 place pc (widest C sh (policy_of sh r.a))
reaching C sh place pc r (signs s) = each_within 16 place (under_variable r.b (under_variable r.c pc)) (widest C sh (policy_of sh r.a))
reaching C sh place pc r releases =
    each_within 16 place (under_conditions (members (permit_at sh r.c).conditions) pc) (widest C sh (policy_of sh r.a))
    ++ rule 16 place (512 + r.c) (flows C (permit_at sh r.c).to (policy_of sh r.a)) ∷ []
reaching C sh place pc r raises = each_within 16 place pc (widest C sh (leaf (level_of sh r.a)))
reaching C sh place pc r variable_tests = []
reaching C sh place pc r condition_tests = []
reaching C sh place pc r loops = []
reaching C sh place pc r elses = []
reaching C sh place pc r ends = []
reaching C sh place pc r others = []

-- 17: a loop's variable and all around it are at the lowest level; 18: what is released flows to what the permit releases from
abbrev pub limited : Lattice → Sheet → ℕ → Context → Record → Kind → List Rule
limited C sh place pc r loops = each_within 17 place (under_variable r.b pc) (widest C sh (leaf C.lowest))
limited C sh place pc r releases = rule 18 place 0 (flows C (policy_of sh r.b) (permit_at sh r.c).from) ∷ []
limited C sh place pc r sets = []
limited C sh place pc r (signs s) = []
limited C sh place pc r raises = []
limited C sh place pc r variable_tests = []
limited C sh place pc r condition_tests = []
limited C sh place pc r elses = []
limited C sh place pc r ends = []
limited C sh place pc r others = []

abbrev pub rules : Lattice → Sheet → State → Record → Kind → List Rule
rules C sh s r k =
    rule 12 s.place 0 (may_stand s.blocks k)
    ∷ rule 13 s.place 0 (rest_zero r k)
    ∷ (declared sh s.place r k ++ (rule 15 s.place 0 (shallow s.blocks k) ∷ (reaching C sh s.place s.context r k ++ limited C sh s.place s.context r k)))

abbrev pub none : {X : Type 0} → List X → Bool
none [] = true
none (x ∷ xs) = false

-- at the end no block is left open
abbrev pub rules_at_end : State → List Rule
rules_at_end s = rule 12 s.place 0 (none s.blocks) ∷ []

-- ── what a record establishes ──

abbrev pub after : State → Command → State
after s c = at (s.place + 1) s.blocks s.context (λ rest. s.commands (c ⨾ rest))

abbrev pub testing : State → Test → State
testing s t = at (s.place + 1) (then_block t s.context s.commands ∷ s.blocks) (tested t s.context) (λ rest. rest)

abbrev pub looping : State → ℕ → State
looping s v = at (s.place + 1) (loop_block v s.context s.commands ∷ s.blocks) (under_variable v s.context) (λ rest. rest)

-- J: the second block stands under the test again
abbrev pub turned : State → List Block → State
turned s (then_block t pc before ∷ bs) = at (s.place + 1) (else_block t (s.commands skip) pc before ∷ bs) (tested t pc) (λ rest. rest)
turned s (else_block t c pc before ∷ bs) = s
turned s (loop_block v pc before ∷ bs) = s
turned s [] = s

-- K: the context is again what it was
abbrev pub closed : State → List Block → State
closed s (else_block t c pc before ∷ bs) = at (s.place + 1) bs pc (λ rest. before (branch t c (s.commands skip) ⨾ rest))
closed s (loop_block v pc before ∷ bs) = at (s.place + 1) bs pc (λ rest. before (while v (s.commands skip) ⨾ rest))
closed s (then_block t pc before ∷ bs) = s
closed s [] = s

abbrev pub established : State → Record → Kind → State
established s r sets = after s (set r.a (to_z w32 r.n))
established s r (signs sign) = after s (combine sign r.a r.b r.c)
established s r releases = after s (release r.a r.b r.c)
established s r raises = after s (raise r.a)
established s r variable_tests = testing s (on_variable r.b)
established s r condition_tests = testing s (on_condition r.a)
established s r loops = looping s r.b
established s r elses = turned s s.blocks
established s r ends = closed s s.blocks
established s r others = s

-- ── the answer ──

unfoldable pub answer : Lattice → Sheet → State → List Record → Reading Command
answer C sh s [] = first (rules_at_end s) (accepted (s.commands skip))
answer C sh s (r ∷ rs) = first (rules C sh s r (kind r.letter)) (answer C sh (established s r (kind r.letter)) rs)

abbrev pub start : State
start = at 0 [] outermost (λ rest. rest)

-- 11: the bytes are whole records, at most 2,048 bytes
abbrev pub whole_records : List ℕ → Bool
whole_records bs = length bs % 8 == 0 && nat_le (length bs) 2048

-- the program that stands in these bytes, or the refusal
unfoldable pub program_in : Lattice → Sheet → List ℕ → Reading Command
program_in C sh bs = first (rule 11 0 0 (whole_records bs) ∷ []) (answer C sh start (records bs))
