-- What a call on a box owes to the machine.
use Rattle.std.specs.Prelude.{◌≡◌, ℕ, ◌≤◌, Bool, cond, List, ◌++◌, length, take, drop, ℤ, pos, Ok, Err, Result}
use Rattle.lattice.specs.Lattice.{Lattice}
use Rattle.records.specs.declared.refusal.Refusal.{Refusal}
use Rattle.machine.specs.Calls.{Call, Answer}
use Rattle.machine.specs.Machine.{System, State, bare, ready, step}
use Rattle.program.specs.Readers.{readers}
use Rattle.interpreter.specs.declared.interpret.Ending.{Ending}
use Rattle.interpreter.specs.declared.interpret.Ending.TheVariants.{Done, Spent}
use Rattle.siteunit.specs.declared.site.SiteBox.{SiteBox}
use Rattle.siteunit.specs.Standing.{Stands, WipedWhileUp}

-- the machine on a lattice and a kind of store
abbrev pub system_of : Lattice → (List ℤ → List ℕ) → System
system_of C image = record { lattice = C; readers = readers; image = image }

-- Results as the machine's answers. What is no number by itself is 1 or 0, or, where there is nothing to tell, 0.
abbrev pub answer_of : {T : Type 0} → (T → Answer) → Result T Refusal → Answer
answer_of told (Ok x) = told x
answer_of told (Err e) = Answer.refused e

abbrev pub itself : ℤ → Answer
itself x = Answer.number x

abbrev pub count : ℕ → Answer
count n = Answer.number (pos n)

abbrev pub one_if : Bool → Answer
one_if b = Answer.number (cond b (pos 1) (pos 0))

abbrev pub nothing : {T : Type 0} → T → Answer
nothing x = Answer.number (pos 0)

-- how a pass ended, and its turns
abbrev pub ending : Ending → Answer
ending (Done used) = Answer.done used
ending (Spent used) = Answer.spent used

-- the bytes at the front of a buffer
abbrev pub front_of : List ℕ → ℕ → Answer
front_of buffer n = Answer.bytes (take n buffer)

-- The image fills the front of the buffer, and the bytes after it stay. A refusal leaves every byte.
pub record Fills (image before after : List ℕ) (r : Result ℕ Refusal) : Type 0 where
  pub filled : (n : ℕ) → r ≡ Ok n → (n ≡ length image) × (n ≤ length before) × (after ≡ image ++ drop n before)
  pub kept : (e : Refusal) → r ≡ Err e → after ≡ before

module _ {X Y : Type 0} (lattice_of : X → Lattice) (values_of : Y → List ℤ) where
  abbrev pub StandsFor : SiteBox X Y → State → Type 0
  StandsFor b st = Stands (lattice_of b.lattice) b.sheet b.program (values_of b.memory.store) b.memory.up st

  -- in the box itself, no variable holds anything but zero while a condition that wipes it is up
  abbrev pub WipedIn : SiteBox X Y → State → Type 0
  WipedIn b bare = Unit {0}
  WipedIn b (ready sh p m) = WipedWhileUp sh (values_of b.memory.store) b.memory.up

  -- For whichever state of the machine the box stands for, the answer is the machine's, and the box then stands for the machine's
  -- next state, with its variables wiped while they should be. A refusal leaves the box as it is.
  pub record Obeys (image : List ℤ → List ℕ) {T : Type 0} (told : T → Answer) (b b' : SiteBox X Y) (call : Call) (r : Result T Refusal) : Type 0 where
    pub lattice : b'.lattice ≡ b.lattice
    pub kept : (e : Refusal) → r ≡ Err e → b' ≡ b
    pub answer : (st : State) → StandsFor b st → answer_of told r ≡ (step (system_of (lattice_of b.lattice) image) st call).answer
    pub next : (st : State) → StandsFor b st → StandsFor b' (step (system_of (lattice_of b.lattice) image) st call).next
    pub wiped : (st : State) → StandsFor b st → WipedIn b' (step (system_of (lattice_of b.lattice) image) st call).next
