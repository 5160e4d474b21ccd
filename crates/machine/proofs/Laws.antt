-- A refusal changes nothing.
use Rattle.std.proofs.Common.{◌≡◌, ℕ, List, [], refl}
use mathlib.Core.Option.{Option, none, some}
use Rattle.records.specs.declared.refusal.Refusal.{Refusal}
use Rattle.records.specs.Rules.{Reading, accepted, refused}
use Rattle.sheet.specs.Sheet.{Sheet}
use Rattle.machine.specs.Command.{Command}
use Rattle.machine.specs.Memory.{Memory}
use Rattle.machine.specs.Run.{Outcome, done, spent, run}
use Rattle.machine.specs.Calls.{Call, Answer}
use Rattle.machine.specs.Machine.{System, State, bare, ready, Step, begun, loaded, ended, passed, rules_of, effect, first_step, step}
use Rattle.machine.specs.Laws.{MachineLaws}
use Rattle.machine.proofs.Asking.{asked_keeps}
use Rattle.machine.proofs.Loops.{while_law}

-- a step that refuses leaves this state, and stores nothing
abbrev Keeps : State → Refusal → Step → Type 0
Keeps st r t = t.answer ≡ Answer.refused r → (t.next ≡ st) × (t.releases ≡ [])

module _ (S : System) (r : Refusal) where
  keeps_begun : (x : Reading Sheet) → Keeps bare r (begun x)
  keeps_begun (refused q) e = (refl, refl)
  keeps_begun (accepted sh) e = cc

  keeps_first : (c : Call) → Keeps bare r (first_step S c)
  keeps_first (Call.sheet xs) e = keeps_begun (S.readers.sheet S.lattice xs) e
  keeps_first (Call.load xs) e = (refl, refl)
  keeps_first (Call.feed v x) e = (refl, refl)
  keeps_first (Call.raise c) e = (refl, refl)
  keeps_first (Call.lower c) e = (refl, refl)
  keeps_first (Call.pass n) e = (refl, refl)
  keeps_first (Call.look l v) e = (refl, refl)
  keeps_first (Call.ask l c) e = (refl, refl)
  keeps_first (Call.image l size) e = (refl, refl)

  keeps_loaded : (sh : Sheet) (p : Option Command) (m : Memory) (xs : List ℕ) (x : Reading Command) → Keeps (ready sh p m) r (loaded sh p m xs x)
  keeps_loaded sh p m xs (refused q) e = (refl, refl)
  keeps_loaded sh p m xs (accepted c) e = cc

  keeps_ended : (sh : Sheet) (c : Command) (m : Memory) (n : ℕ) (o : Outcome) → Keeps (ready sh (some c) m) r (ended sh c n o)
  keeps_ended sh c m n (done k m' l) e = cc
  keeps_ended sh c m n (spent m' l) e = cc

  keeps_passed : (sh : Sheet) (p : Option Command) (m : Memory) (n : ℕ) → Keeps (ready sh p m) r (passed sh p m n)
  keeps_passed sh none m n e = (refl, refl)
  keeps_passed sh (some c) m n e = keeps_ended sh c m n (run sh c n m) e

  keeps_effect : (sh : Sheet) (p : Option Command) (m : Memory) (c : Call) → Keeps (ready sh p m) r (effect S sh p m c)
  keeps_effect sh p m (Call.sheet xs) e = (refl, refl)
  keeps_effect sh p m (Call.load xs) e = keeps_loaded sh p m xs (S.readers.program S.lattice sh xs) e
  keeps_effect sh p m (Call.feed v x) e = cc
  keeps_effect sh p m (Call.raise c) e = cc
  keeps_effect sh p m (Call.lower c) e = cc
  keeps_effect sh p m (Call.pass n) e = keeps_passed sh p m n e
  keeps_effect sh p m (Call.look l v) e = cc
  keeps_effect sh p m (Call.ask l c) e = cc
  keeps_effect sh p m (Call.image l size) e = cc

  keeps_step : (st : State) (c : Call) → Keeps st r (step S st c)
  keeps_step bare c = keeps_first c
  keeps_step (ready sh p m) c = asked_keeps (Keeps (ready sh p m) r) (ready sh p m) (rules_of S sh m c) (effect S sh p m c) (λ q e. (refl, refl)) (keeps_effect sh p m c)

pub machine_laws : MachineLaws
machine_laws = record {
  loops = while_law;
  refusals_change_nothing = λ S st c r e. (keeps_step S r st c e).0;
  refusals_store_nothing = λ S st c r e. (keeps_step S r st c e).1;
}
