-- What the rules are worth: bytes are accepted exactly when they are how a valid program is written.
use Rattle.std.specs.Prelude.{◌≡◌, ℕ, ◌≤◌, List, length}
use Rattle.lattice.specs.Lattice.{Lattice}
use Rattle.records.specs.Records.{Each, Byte, bytes}
use Rattle.records.specs.Rules.{accepted}
use Rattle.sheet.specs.Sheet.{Sheet}
use Rattle.machine.specs.Command.{Command}
use Rattle.machine.specs.Memory.{Memory}
use Rattle.machine.specs.Run.{run}
use Rattle.machine.specs.SoundSheet.{SoundSheet}
use Rattle.program.specs.Written.{written}
use Rattle.program.specs.Valid.{Valid, normal}
use Rattle.program.specs.Rules.{program_in}

-- what an accepted sheet is: sound, with at most 16 conditions, 64 variables and 8 permits
pub record UsableSheet (C : Lattice) (sh : Sheet) : Type 0 where
  pub sound : SoundSheet C sh
  pub conditions : length sh.conditions ≤ 16
  pub variables : length sh.variables ≤ 64
  pub permits : length sh.permits ≤ 8

-- Brackets within a block are not written, so a program is accepted in its normal form, which is written alike and does the same.
pub record AcceptsExactlyTheWellTyped (C : Lattice) (sh : Sheet) : Type 0 where
  pub only : (bs : List ℕ) → Each Byte bs → (c : Command) → program_in C sh bs ≡ accepted c → Valid C sh c × (bs ≡ bytes (written c))
  pub all : (c : Command) → Valid C sh c → program_in C sh (bytes (written c)) ≡ accepted (normal c)
  pub normal_written : (c : Command) → written (normal c) ≡ written c
  pub normal_runs : (c : Command) (turns : ℕ) (m : Memory) → run sh (normal c) turns m ≡ run sh c turns m
