-- What a pass owes to the machine: which sheet the masks enforce, which memory a store stands for, and the answer.
use Rattle.std.specs.Prelude.{◌≡◌, ℕ, ◌-◌, List, length, get_or, ℤ, pos, slice_index_or}
use Rattle.policy.specs.Policy.{wipes}
use Rattle.policy.specs.Masks.{bit, members}
use Rattle.sheet.specs.Sheet.{Sheet, policy_of, permit_at}
use Rattle.machine.specs.SoundSheet.{HasPermit}
use Rattle.machine.specs.Memory as machine
use Rattle.machine.specs.Run.{Outcome, done, spent}
use Rattle.flow.specs.declared.masks.FlowMasks.{FlowMasks}
use Rattle.flow.specs.Flows.{no_variable_flow, no_permit}
use Rattle.interpreter.specs.declared.memory.Memory.{Memory}
use Rattle.interpreter.specs.declared.interpret.Ending.{Ending}
use Rattle.interpreter.specs.declared.interpret.Ending.TheVariants.{Done, Spent}

-- the masks have the sheet's wipers and its permits' conditions, which is all that a run asks of them
pub record Enforces (m : FlowMasks) (sh : Sheet) : Type 0 where
  pub wipers : (v c : ℕ) → bit c (slice_index_or m.variable v no_variable_flow).wipers ≡ wipes c (policy_of sh v)
  pub permits : m.permits ≡ length sh.permits
  pub conditions : (p : ℕ) → HasPermit sh p → (get_or m.permit p no_permit).conditions ≡ (permit_at sh p).conditions

-- the memory that a store's values and a mask of the conditions up stand for
abbrev pub memory_of : List ℤ → ℕ → machine.Memory
memory_of xs u = record { values = λ v. slice_index_or xs v (pos 0); up = members u }

-- the memory that the code's own stands for, over the values that a store stands for
abbrev pub meaning : {S : Type 0} → (S → List ℤ) → Memory S → machine.Memory
meaning values m = memory_of (values m.store) m.up

-- the answer of a pass with so many turns, and the memory after it, are the machine's
abbrev pub Answers : Ending → ℕ → machine.Memory → Outcome → Type 0
Answers r turns now (done left m l) = (r ≡ Done (turns - left)) × (now ≡ m)
Answers r turns now (spent m l) = (r ≡ Spent turns) × (now ≡ m)
