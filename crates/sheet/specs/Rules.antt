-- The rules of a sheet in their order, numbered as in docs/RULES.md. The first that fails is the answer.
use Rattle.std.specs.Prelude.{ℕ, ◌+◌, ◌%◌, Bool, true, false, cond, not, ◌&&◌, ◌||◌, List, [], ◌∷◌, ◌++◌, length, ◌==◌, nat_le, nat_lt}
use Rattle.lattice.specs.Lattice.{Lattice}
use Rattle.records.specs.declared.Record.{Record}
use Rattle.records.specs.Records.{records}
use Rattle.records.specs.Rules.{Reading, accepted, Rule, rule, each_from, first}
use Rattle.policy.specs.Policy.{Policy, leaf, erase, wipes, present_level}
use Rattle.policy.specs.Masks.{bit}
use Rattle.sheet.specs.Sheet.{Sheet, empty, level_of, declared_condition}

-- ── what the records so far have established ──

-- whose trees stand open, or stood last
pub data Owner : Type 0 where
  nobody : Owner
  a_variable : (place : ℕ) → (fed : Bool) → Owner
  a_permit : (mask : ℕ) → Owner

pub record State : Type 0 where
  -- how many records went before
  pub place : ℕ
  -- what they declare, but for the owner
  pub sheet : Sheet
  pub owner : Owner
  -- the depths of the trees and parts that are awaited, the next one first
  pub awaited : List ℕ
  -- the owner's trees, once the awaited ones are known
  pub trees : List Policy → List Policy

-- the sheet with its last owner in it, whose trees are whole
abbrev pub declare : Owner → List Policy → Sheet → Sheet
declare (a_variable place fed) (p ∷ ps) sh = record { conditions = sh.conditions; variables = sh.variables ++ record { policy = p; fed = fed } ∷ []; permits = sh.permits }
declare (a_permit mask) (p ∷ q ∷ ps) sh = record { conditions = sh.conditions; variables = sh.variables; permits = sh.permits ++ record { conditions = mask; from = p; to = q } ∷ [] }
declare nobody ps sh = sh
declare (a_variable place fed) [] sh = sh
declare (a_permit mask) [] sh = sh
declare (a_permit mask) (p ∷ []) sh = sh

abbrev pub so_far : State → Sheet
so_far s = declare s.owner (s.trees []) s.sheet

-- ── the letters C, V, R, L, E ──

pub data Kind : Type 0 where
  conditions variables permits leaves nodes others : Kind

abbrev pub kind : ℕ → Kind
kind letter = cond (letter == 67) conditions (cond (letter == 86) variables (cond (letter == 82) permits (cond (letter == 76) leaves (cond (letter == 69) nodes others))))

-- ── the rules ──

abbrev pub none : {X : Type 0} → List X → Bool
none [] = true
none (x ∷ xs) = false

-- 3: the letter may stand here
abbrev pub may_stand : State → Kind → Bool
may_stand s conditions = none s.awaited && (none (so_far s).variables && none (so_far s).permits)
may_stand s variables = none s.awaited && none (so_far s).permits
may_stand s permits = none s.awaited
may_stand s leaves = not (none s.awaited)
may_stand s nodes = not (none s.awaited)
may_stand s others = false

-- 4: fields that are not named are zero, and a variable's b is 0 or 1
abbrev pub rest_zero : Record → Kind → Bool
rest_zero r conditions = r.b == 0 && r.c == 0
rest_zero r variables = nat_le r.b 1 && (r.c == 0 && r.n == 0)
rest_zero r permits = r.b == 0 && r.c == 0
rest_zero r leaves = r.a == 0 && (r.b == 0 && r.c == 0)
rest_zero r nodes = r.b == 0 && (r.c == 0 && r.n == 0)
rest_zero r others = true

-- 5: the number is the next of its kind
abbrev pub next_number : State → Record → Kind → Bool
next_number s r conditions = r.a == length (so_far s).conditions && nat_lt r.a 16
next_number s r variables = r.a == length (so_far s).variables && nat_lt r.a 64
next_number s r permits = r.a == length (so_far s).permits && nat_lt r.a 8
next_number s r leaves = true
next_number s r nodes = true
next_number s r others = true

-- 6: the level is known
abbrev pub known_level : Lattice → Record → Kind → Bool
known_level C r conditions = C.known r.n
known_level C r leaves = C.known r.n
known_level C r variables = true
known_level C r permits = true
known_level C r nodes = true
known_level C r others = true

-- 7: each condition named is declared
abbrev pub declared : State → Record → Kind → List Rule
declared s r nodes = rule 7 s.place r.a (declared_condition s.sheet r.a) ∷ []
declared s r permits = each_from 0 32 (λ c. rule 7 s.place c (not (bit c r.n) || declared_condition (so_far s) c))
declared s r conditions = []
declared s r variables = []
declared s r leaves = []
declared s r others = []

-- 8: no node or leaf is deeper than 4
abbrev pub shallow : List ℕ → Kind → Bool
shallow (depth ∷ ds) leaves = nat_le depth 4
shallow (depth ∷ ds) nodes = nat_le depth 4
shallow (depth ∷ ds) conditions = true
shallow (depth ∷ ds) variables = true
shallow (depth ∷ ds) permits = true
shallow (depth ∷ ds) others = true
shallow [] k = true

-- 9: each wiper's level is below the present level
abbrev pub wipers_below : Lattice → Sheet → Owner → List Policy → List Rule
wipers_below C sh (a_variable place fed) (p ∷ ps) = each_from 0 16 (λ c. rule 9 place c (not (wipes c p) || C.below (level_of sh c) (present_level C p)))
wipers_below C sh (a_variable place fed) [] = []
wipers_below C sh (a_permit mask) ps = []
wipers_below C sh nobody ps = []

-- 9 is asked of a variable once its tree is whole, before the next record or the end
abbrev pub once_whole : Lattice → State → List Rule
once_whole C s = cond (none s.awaited) (wipers_below C s.sheet s.owner (s.trees [])) []

abbrev pub asked : Lattice → State → Record → Kind → List Rule
asked C s r k =
    rule 3 s.place 0 (may_stand s k)
    ∷ rule 4 s.place 0 (rest_zero r k)
    ∷ rule 5 s.place 0 (next_number s r k)
    ∷ rule 6 s.place r.n (known_level C r k)
    ∷ (declared s r k ++ rule 8 s.place 0 (shallow s.awaited k) ∷ [])

abbrev pub rules : Lattice → State → Record → Kind → List Rule
rules C s r k = once_whole C s ++ asked C s r k

-- at the end no tree is left unfinished
abbrev pub rules_at_end : Lattice → State → List Rule
rules_at_end C s = once_whole C s ++ rule 3 s.place 0 (none s.awaited) ∷ []

-- ── what a record establishes ──

abbrev pub rest : List ℕ → List ℕ
rest [] = []
rest (d ∷ ds) = ds

abbrev pub parts : List ℕ → List ℕ
parts [] = []
parts (d ∷ ds) = (d + 1) ∷ (d + 1) ∷ ds

-- the first two trees are the parts of a node
abbrev pub joined : ℕ → List Policy → List Policy
joined c (p ∷ q ∷ ps) = erase c p q ∷ ps
joined c (p ∷ []) = []
joined c [] = []

abbrev pub established : State → Record → Kind → State
established s r conditions = record {
  place = s.place + 1;
  sheet = record { conditions = (so_far s).conditions ++ r.n ∷ []; variables = (so_far s).variables; permits = (so_far s).permits };
  owner = nobody;
  awaited = [];
  trees = λ ps. ps;
}
established s r variables = record { place = s.place + 1; sheet = so_far s; owner = a_variable s.place (r.b == 1); awaited = 1 ∷ []; trees = λ ps. ps }
established s r permits = record { place = s.place + 1; sheet = so_far s; owner = a_permit r.n; awaited = 1 ∷ 1 ∷ []; trees = λ ps. ps }
established s r leaves = record { place = s.place + 1; sheet = s.sheet; owner = s.owner; awaited = rest s.awaited; trees = λ ps. s.trees (leaf r.n ∷ ps) }
established s r nodes = record { place = s.place + 1; sheet = s.sheet; owner = s.owner; awaited = parts s.awaited; trees = λ ps. s.trees (joined r.a ps) }
established s r others = s

-- ── the answer ──

unfoldable pub answer : Lattice → State → List Record → Reading Sheet
answer C s [] = first (rules_at_end C s) (accepted (so_far s))
answer C s (r ∷ rs) = first (rules C s r (kind r.letter)) (answer C (established s r (kind r.letter)) rs)

abbrev pub start : State
start = record { place = 0; sheet = empty; owner = nobody; awaited = []; trees = λ ps. ps }

-- 2: the bytes are whole records, at most 4,096 bytes
abbrev pub whole_records : List ℕ → Bool
whole_records bs = length bs % 8 == 0 && nat_le (length bs) 4096

-- the sheet that stands in these bytes, or the refusal
unfoldable pub sheet_in : Lattice → List ℕ → Reading Sheet
sheet_in C bs = first (rule 2 0 0 (whole_records bs) ∷ []) (answer C start (records bs))
