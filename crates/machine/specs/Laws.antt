-- Laws of the machine, over all its runs and calls.
use Rattle.std.specs.Prelude.{◌≡◌, ℕ, zero, suc, true, false, []}
use Rattle.records.specs.declared.refusal.Refusal.{Refusal}
use Rattle.sheet.specs.Sheet.{Sheet}
use Rattle.machine.specs.Command.{Command, while}
use Rattle.machine.specs.Memory.{Memory}
use Rattle.machine.specs.Run.{done, spent, and_then, is_zero, run}
use Rattle.machine.specs.Calls.{Call, Answer}
use Rattle.machine.specs.Machine.{System, State, step}

pub record MachineLaws : Type 0 where
  -- a false test ends a loop at no cost; a true one takes a turn, or stops the run where there is none
  pub loops : (sh : Sheet) (b : ℕ) (c : Command) (n : ℕ) (m : Memory) → run sh (while b c) n m ≡ elim (is_zero (m.values b)) [
    | true ↦ done n m []
    | false ↦ elim n [ zero ↦ spent m [] | suc k ↦ and_then (run sh c k m) (run sh (while b c)) ]
  ]
  pub refusals_change_nothing : (S : System) (st : State) (c : Call) (r : Refusal) → (step S st c).answer ≡ Answer.refused r → (step S st c).next ≡ st
  pub refusals_store_nothing : (S : System) (st : State) (c : Call) (r : Refusal) → (step S st c).answer ≡ Answer.refused r → (step S st c).releases ≡ []
