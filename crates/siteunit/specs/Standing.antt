-- Which state of the machine a box's fields stand for.
use Rattle.std.specs.Prelude.{◌≡◌, ℕ, true, false, List, get_or, ℤ, pos, Some, None, Option, slice_index, slice_index_or}
use Rattle.std.proofs.Math.Option as option
use Rattle.lattice.specs.Lattice.{Lattice}
use Rattle.policy.specs.Policy.{present_level, wiped_by}
use Rattle.policy.specs.Masks.{members}
use Rattle.sheet.specs.declared.rows.VariableRow.{VariableRow}
use Rattle.sheet.specs.Sheet.{Sheet, variable_at, policy_of, level_of}
use Rattle.sheet.specs.Valid.{Valid}
use Rattle.machine.specs.Command.{Command}
use Rattle.machine.specs.SoundSheet.{HasVariable, HasCondition}
use Rattle.machine.specs.Memory.{Memory}
use Rattle.machine.specs.Machine.{State, bare, ready}
use Rattle.flow.specs.Flows.{MasksOf}
use Rattle.program.specs.declared.kept.Program.{Program}
use Rattle.program.specs.Kept.{Keeps}
use Rattle.interpreter.specs.Meaning.{memory_of}
use Rattle.policy.specs.Rows.{no_leaf}
use Rattle.siteunit.specs.declared.kept.Access.{Access}
use Rattle.siteunit.specs.declared.kept.KeptSheet.{KeptSheet}

abbrev pub no_access : Access
no_access = record { present = 0; fed = false }

abbrev pub access_of : VariableRow → Access
access_of row = record { present = (get_or row.policy.levels 0 no_leaf).level; fed = row.fed }

-- a valid sheet, as it is kept
pub record KeepsSheet (C : Lattice) (sh : Sheet) (k : KeptSheet) : Type 0 where
  pub valid : Valid C sh
  pub masks : MasksOf C sh k.masks
  pub levels : (c : ℕ) → HasCondition sh c → slice_index k.levels c ≡ level_of sh c
  pub present : (v : ℕ) → HasVariable sh v → (get_or k.access v no_access).present ≡ present_level C (policy_of sh v)
  pub fed : (v : ℕ) → HasVariable sh v → (get_or k.access v no_access).fed ≡ (variable_at sh v).fed

abbrev pub KeptAs : Lattice → Sheet → Option KeptSheet → Type 0
KeptAs C sh None = ⊥
KeptAs C sh (Some k) = KeepsSheet C sh k

-- no variable holds anything but zero while a condition that wipes it is up
abbrev pub WipedWhileUp : Sheet → List ℤ → ℕ → Type 0
WipedWhileUp sh values up = (v : ℕ) → wiped_by (members up) (policy_of sh v) ≡ true → slice_index_or values v (pos 0) ≡ pos 0

-- the program that was loaded last, if any, as it is kept
abbrev pub LoadedAs : option.Option Command → Option Program → Type 0
LoadedAs option.none None = Unit {0}
LoadedAs option.none (Some k) = ⊥
LoadedAs (option.some c) None = ⊥
LoadedAs (option.some c) (Some k) = Keeps k c

-- With a sheet: it is kept, and so is the program; the values and the conditions up are the machine's.
pub record Ready (C : Lattice) (kept : Option KeptSheet) (loaded : Option Program) (values : List ℤ) (up : ℕ) (sh : Sheet) (p : option.Option Command) (m : Memory) : Type 0 where
  pub sheet : KeptAs C sh kept
  pub program : LoadedAs p loaded
  pub memory : m ≡ memory_of values up
  pub wiped : WipedWhileUp sh values up

abbrev pub Stands : Lattice → Option KeptSheet → Option Program → List ℤ → ℕ → State → Type 0
Stands C kept loaded values up bare = kept ≡ None
Stands C kept loaded values up (ready sh p m) = Ready C kept loaded values up sh p m
