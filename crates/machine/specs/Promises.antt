-- What is promised of every box, and of every two boxes on one order of levels and one kind of store.
use Rattle.std.specs.Prelude.{◌≡◌, ℕ, true, false, List, ℤ, pos}
use Rattle.lattice.specs.Lattice.{Lattice, Known, Lawful, SameOrder}
use Rattle.records.specs.Rules.{accepted}
use Rattle.policy.specs.Policy.{Set, none, wipes}
use Rattle.sheet.specs.Sheet.{Sheet, policy_of}
use Rattle.machine.specs.Command.{Command}
use Rattle.machine.specs.SoundSheet.{SoundSheet}
use Rattle.machine.specs.Typing.{outermost, WellTyped}
use Rattle.machine.specs.Calls.{Call}
use Rattle.machine.specs.Machine.{Readers, System, State, bare, ready, history, final}
use Rattle.machine.specs.Observation.{Observer, observed_answers, SameInput}

-- What the readers guarantee: accepted sheets are sound, and programs accepted on an accepted sheet are well-typed.
pub record SoundReaders (R : Readers) : Type 0 where
  pub sheets : (C : Lattice) → Lawful C → (bytes : List ℕ) (sh : Sheet) → R.sheet C bytes ≡ accepted sh → SoundSheet C sh
  pub programs : (C : Lattice) → Lawful C → (bytes : List ℕ) (sh : Sheet) → R.sheet C bytes ≡ accepted sh →
      (bytes' : List ℕ) (c : Command) → R.program C sh bytes' ≡ accepted c → WellTyped C sh outermost c

-- Two boxes of one kind, with these readers: lattices with the same known levels in the same order, and stores that show equal values alike.
pub record SameKind (R : Readers) (S T : System) : Type 0 where
  pub readers : S.readers ≡ R
  pub readers' : T.readers ≡ R
  pub lawful : Lawful S.lattice
  pub lawful' : Lawful T.lattice
  pub order : SameOrder S.lattice T.lattice
  pub image : (values : List ℤ) → S.image values ≡ T.image values

-- no variable holds anything but zero while a condition that wipes it is up
abbrev pub Wiped : State → Type 0
Wiped bare = Unit {0}
Wiped (ready sh p m) = (v c : ℕ) → wipes c (policy_of sh v) ≡ true → m.up c ≡ true → m.values v ≡ pos 0

-- the whole set is up; without a sheet nothing is
abbrev pub AllUp : Set → State → Type 0
AllUp s bare = (c : ℕ) → s c ≡ false
AllUp s (ready sh p m) = (c : ℕ) → s c ≡ true → m.up c ≡ true

-- after any list of calls
abbrev pub WipedWhileUp : Type 0
WipedWhileUp = (S : System) (cs : List Call) → Wiped (final S bare cs)

abbrev pub observing : ℕ → Set → Observer
observing level s = record { level = level; set = s }

-- Strike from two lists of calls all that is hidden from a level under a set. If what remains went in alike, it is answered alike.
abbrev pub HiddenLeaveNoTrace : System → System → Type 0
HiddenLeaveNoTrace S T =
    (level : ℕ) → Known S.lattice level → (s : Set) (cs ds : List Call) →
    SameInput S.lattice T.lattice (observing level s) (history S bare cs) (history T bare ds) →
    observed_answers S.lattice (observing level s) (history S bare cs) ≡ observed_answers T.lattice (observing level s) (history T bare ds)

-- Cut each list once, where the whole set is up. If what remains before the cuts under the set went in alike, and what remains after
-- them under the empty set, then what remains after them is answered alike: what the set wiped is gone for good.
abbrev pub WipedLeaveNoTrace : System → System → Type 0
WipedLeaveNoTrace S T =
    (level : ℕ) → Known S.lattice level → (s : Set) (cs ds cs' ds' : List Call) →
    AllUp s (final S bare cs) → AllUp s (final T bare ds) →
    SameInput S.lattice T.lattice (observing level s) (history S bare cs) (history T bare ds) →
    SameInput S.lattice T.lattice (observing level none) (history S (final S bare cs) cs') (history T (final T bare ds) ds') →
    observed_answers S.lattice (observing level none) (history S (final S bare cs) cs')
    ≡ observed_answers T.lattice (observing level none) (history T (final T bare ds) ds')

-- of every two boxes of one kind
abbrev pub HiddenCallsLeaveNoTrace : Readers → Type 0
HiddenCallsLeaveNoTrace R = (S T : System) → SameKind R S T → HiddenLeaveNoTrace S T

abbrev pub WipedValuesLeaveNoTrace : Readers → Type 0
WipedValuesLeaveNoTrace R = (S T : System) → SameKind R S T → WipedLeaveNoTrace S T
