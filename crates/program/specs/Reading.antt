-- What the checks of a record, a command and a block answer for: the rules refuse as they do, or go on after it.
use Rattle.std.specs.Prelude.{◌≡◌, ℕ, ◌+◌, ◌-◌, ◌<◌, true, Some, None, Option, List, [], ◌∷◌, ◌++◌, length, slice_index_or}
use Rattle.lattice.specs.Lattice.{Lattice, Lawful}
use Rattle.records.specs.declared.Record.{Record}
use Rattle.records.specs.declared.refusal.Refusal.{Refusal}
use Rattle.records.specs.Rules.{refused}
use Rattle.sheet.specs.Sheet.{Sheet}
use Rattle.machine.specs.Command.{Command}
use Rattle.machine.specs.SoundSheet.{HasVariable, HasCondition}
use Rattle.machine.specs.Typing.{Context}
use Rattle.flow.specs.declared.masks.FlowMasks.{FlowMasks}
use Rattle.flow.specs.Flows.{MasksOf}
use Rattle.program.specs.declared.context.Context.{Context as Masks}
use Rattle.program.specs.declared.innermost.Innermost.{Innermost}
use Rattle.program.specs.declared.innermost.RecordKind.{RecordKind}
use Rattle.program.specs.declared.innermost.RecordKind.TheVariants.{Mark}
use Rattle.program.specs.declared.kept.Instruction.{Instruction}
use Rattle.program.specs.declared.kept.Instruction.TheVariants.{IfVariable, IfCondition}
use Rattle.program.specs.Kept.{blank, linked, Placed}
use Rattle.program.specs.Keeping.{kept_as}
use Rattle.program.specs.Rules.{Test, on_variable, on_condition, tested, Block, then_block, at, Kind, kind, sets, signs, releases, raises, variable_tests, condition_tests, loops, elses, ends, others, rest_zero, established, answer}
use Rattle.program.specs.Checks.{masked}
use Rattle.program.specs.Letters.{innermost_of, kind_at}
use Rattle.program.specs.Acceptance.{UsableSheet}

abbrev pub context_of : Masks → Context
context_of pc = masked pc.variables pc.conditions

-- a context of declared variables and conditions
pub record Declared (sh : Sheet) (pc : Context) : Type 0 where
  pub variables : (v : ℕ) → pc.variables v ≡ true → HasVariable sh v
  pub conditions : (c : ℕ) → pc.conditions c ≡ true → HasCondition sh c

-- where the rules and the checker stand alike: the masks are the sheet's, the context is declared, and so many blocks are open
pub record Alike (C : Lattice) (sh : Sheet) (m : FlowMasks) (pc : Masks) (opened : ℕ) (inner : Option Innermost) (blocks : List Block) : Type 0 where
  pub lawful : Lawful C
  pub usable : UsableSheet C sh
  pub masks : MasksOf C sh m
  pub declared : Declared sh (context_of pc)
  pub depth : length blocks ≡ opened
  pub innermost : innermost_of blocks ≡ inner

-- the rules refuse so, whatever else is open
pub record Refused (m : FlowMasks) (pc : Masks) (opened : ℕ) (inner : Option Innermost) (place : ℕ) (rs : List Record) (e : Refusal) : Type 0 where
  pub says : (C : Lattice) (sh : Sheet) (blocks : List Block) (commands : Command → Command) → Alike C sh m pc opened inner blocks
      → answer C sh (at place blocks (context_of pc) commands) rs ≡ refused e

-- all that the record names is declared
abbrev pub Named : FlowMasks → Record → Kind → Type 0
Named m r sets = r.a < m.variables
Named m r (signs s) = (r.a < m.variables) × (r.b < m.variables) × (r.c < m.variables)
Named m r releases = (r.a < m.variables) × (r.b < m.variables) × (r.c < m.permits)
Named m r raises = r.a < m.conditions
Named m r variable_tests = r.b < m.variables
Named m r condition_tests = r.a < m.conditions
Named m r loops = r.b < m.variables
Named m r elses = Unit {0}
Named m r ends = Unit {0}
Named m r others = Unit {0}

-- every rule that is asked of this record holds
pub record Passed (m : FlowMasks) (pc : Masks) (opened : ℕ) (inner : Option Innermost) (place : ℕ) (r : Record) (k : RecordKind) : Type 0 where
  pub is : Some k ≡ kind_at r.letter inner
  pub rest : rest_zero r (kind r.letter) ≡ true
  pub named : Named m r (kind r.letter)
  pub goes : (C : Lattice) (sh : Sheet) (blocks : List Block) (commands : Command → Command) → Alike C sh m pc opened inner blocks → (rs : List Record)
      → answer C sh (at place blocks (context_of pc) commands) (r ∷ rs) ≡ answer C sh (established (at place blocks (context_of pc) commands) r (kind r.letter)) rs

-- the instruction of a test with the way to its J
abbrev pub opening : Test → ℕ → Instruction
opening (on_variable v) n = IfVariable v n
opening (on_condition c) n = IfCondition c n

-- the record opens the two blocks of this test, which stand under that context
pub record Branches (m : FlowMasks) (pc : Masks) (opened : ℕ) (inner : Option Innermost) (place : ℕ) (r : Record) (k : RecordKind) (t : Test) (inside : Masks) : Type 0 where
  pub opens : (n : ℕ) → opening t n ≡ kept_as k r n
  pub under : tested t (context_of pc) ≡ context_of inside
  pub declared : (C : Lattice) (sh : Sheet) (blocks : List Block) → Alike C sh m pc opened inner blocks → Declared sh (context_of inside)
  pub goes : (C : Lattice) (sh : Sheet) (blocks : List Block) (commands : Command → Command) → Alike C sh m pc opened inner blocks → (rs : List Record)
      → answer C sh (at place blocks (context_of pc) commands) (r ∷ rs) ≡ answer C sh (at (place + 1) (then_block t (context_of pc) commands ∷ blocks) (tested t (context_of pc)) (λ c. c)) rs

-- these instructions stand in the list, from this place on
abbrev pub Stand : List Instruction → ℕ → List Instruction → Type 0
Stand xs place [] = Unit {0}
Stand xs place (y ∷ ys) = (slice_index_or xs place blank ≡ y) × Stand xs (place + 1) ys

-- The records up to the next place are commands, before whatever follows: they are kept there, nothing before them is changed,
-- and the rules go on after them.
pub record Reads (m : FlowMasks) (pc : Masks) (opened : ℕ) (inner : Option Innermost) (place : ℕ) (rs : List Record) (before after : List Instruction) (next : ℕ) (left : List Record) : Type 0 where
  pub commands : Command → Command
  pub instructions : List Instruction
  pub placed : (c : Command) → Placed c → Placed (commands c)
  pub links : (c : Command) → linked (commands c) ≡ instructions ++ linked c
  pub stand : Stand after place instructions
  pub reached : next ≡ place + length instructions
  pub earlier : (i : ℕ) → i < place → slice_index_or after i blank ≡ slice_index_or before i blank
  pub goes : (C : Lattice) (sh : Sheet) (blocks : List Block) (around : Command → Command) → Alike C sh m pc opened inner blocks
      → answer C sh (at place blocks (context_of pc) around) rs ≡ answer C sh (at next blocks (context_of pc) (λ c. around (commands c))) left

-- a block ends at a mark that passes, and the outermost where no record is left
abbrev pub Ends : FlowMasks → Masks → ℕ → Option Innermost → ℕ → List Record → List Record → Type 0
Ends m pc opened None place left rest = left ≡ []
Ends m pc opened (Some i) place left rest = (r : Record) × (left ≡ r ∷ rest) × Passed m pc opened (Some i) place r Mark

-- the records are commands up to the end of the block, and then the rest
pub record BlockRead (m : FlowMasks) (pc : Masks) (opened : ℕ) (inner : Option Innermost) (place : ℕ) (rs : List Record) (before after : List Instruction) (next : ℕ) (rest : List Record) : Type 0 where
  pub left : List Record
  pub reads : Reads m pc opened inner place rs before after next left
  pub ends : Ends m pc opened inner next left rest

-- the place of a block's end, where this is the place behind it
abbrev pub end_of : Option Innermost → ℕ → ℕ
end_of None next = next
end_of (Some i) next = next - 1
