-- The machine: its state, what each call answers, and what it makes of the state. A refusal changes nothing.
use Rattle.std.specs.Prelude.{ℕ, ◌-◌, ◌/◌, Bool, cond, not, List, [], ◌∷◌, length, ℤ, pos, nat_le}
use Rattle.std.proofs.Math.Option.{Option, none, some}
use Rattle.lattice.specs.Lattice.{Lattice}
use Rattle.records.specs.Refusals.{refusal}
use Rattle.records.specs.Rules.{Rule, rule, Reading, accepted, refused}
use Rattle.policy.specs.Policy.{present_level, wiped_by}
use Rattle.sheet.specs.Sheet.{Sheet, variable_at, policy_of, level_of, declared_variable, declared_condition}
use Rattle.machine.specs.Command.{Command}
use Rattle.machine.specs.Memory.{Memory, cleared, write, raised, lowered, held, every}
use Rattle.machine.specs.Run.{Release, Outcome, done, spent, run}
use Rattle.machine.specs.Calls.{Call, Answer}

-- how the bytes of a sheet and of a program are read
pub record Readers : Type 0 where
  pub sheet : Lattice → List ℕ → Reading Sheet
  pub program : Lattice → Sheet → List ℕ → Reading Command

-- what a box stands on: a lattice, the readers, and how a store shows its 64 values as bytes
pub record System : Type 0 where
  pub lattice : Lattice
  pub readers : Readers
  pub image : List ℤ → List ℕ

-- without a sheet; or with a sheet, the last accepted program if any, and the memory
pub data State : Type 0 where
  bare : State
  ready : Sheet → Option Command → Memory → State

pub record Step : Type 0 where
  pub next : State
  pub answer : Answer
  pub releases : List Release

abbrev pub answered : State → Answer → Step
answered st a = record { next = st; answer = a; releases = [] }

-- the answer 0
abbrev pub obeyed : State → Step
obeyed st = answered st (Answer.number (pos 0))

-- The rules of a call are asked in their order, and the first that fails is the answer. They name no place and no detail.
abbrev pub asks : ℕ → Bool → Rule
asks number holds = rule number 0 0 holds

abbrev pub asked : State → List Rule → Step → Step
asked st [] step = step
asked st (q ∷ qs) step = cond q.holds (asked st qs step) (answered st (Answer.refused q.refusal))

abbrev pub may_be_fed : Sheet → ℕ → Rule
may_be_fed sh v = asks 19 (variable_at sh v).fed

abbrev pub is_not_wiped : Sheet → Memory → ℕ → Rule
is_not_wiped sh m v = asks 20 (not (wiped_by m.up (policy_of sh v)))

abbrev pub is_condition : Sheet → ℕ → Rule
is_condition sh c = asks 21 (declared_condition sh c)

abbrev pub is_level : Lattice → ℕ → Rule
is_level C l = asks 23 (C.known l)

abbrev pub is_variable : Sheet → ℕ → Rule
is_variable sh v = asks 24 (declared_variable sh v)

abbrev pub may_know : Bool → Rule
may_know below = asks 25 below

abbrev pub is_long_enough : List ℕ → ℕ → Rule
is_long_enough image size = asks 26 (nat_le (length image) size)

-- may this level see the variable as it is now?
abbrev pub readable_at : Lattice → Sheet → ℕ → ℕ → Bool
readable_at C sh l v = C.below (present_level C (policy_of sh v)) l

-- what a box with a sheet is asked; what sheets and programs are asked is their readers' affair
abbrev pub rules_of : System → Sheet → Memory → Call → List Rule
rules_of S sh m (Call.sheet bytes) = []
rules_of S sh m (Call.load bytes) = []
rules_of S sh m (Call.feed v x) = is_variable sh v ∷ may_be_fed sh v ∷ is_not_wiped sh m v ∷ []
rules_of S sh m (Call.raise c) = is_condition sh c ∷ []
rules_of S sh m (Call.lower c) = is_condition sh c ∷ []
rules_of S sh m (Call.pass turns) = []
rules_of S sh m (Call.look l v) = is_level S.lattice l ∷ is_variable sh v ∷ may_know (readable_at S.lattice sh l v) ∷ []
rules_of S sh m (Call.ask l c) = is_level S.lattice l ∷ is_condition sh c ∷ may_know (S.lattice.below (level_of sh c) l) ∷ []
rules_of S sh m (Call.image l size) =
    is_level S.lattice l ∷ may_know (every (length sh.variables) (readable_at S.lattice sh l)) ∷ is_long_enough (S.image (held m)) size ∷ []

-- Rules 1, 10 and 22 ask what the box has: no sheet yet, a sheet, a program.
abbrev pub refused_by : ℕ → State → Step
refused_by number st = answered st (Answer.refused (refusal number 0 0))

abbrev pub has_sheet : State → Step
has_sheet st = refused_by 1 st

abbrev pub has_no_sheet : Step
has_no_sheet = refused_by 10 bare

abbrev pub has_no_program : State → Step
has_no_program st = refused_by 22 st

abbrev pub begun : Reading Sheet → Step
begun (refused r) = answered bare (Answer.refused r)
begun (accepted sh) = answered (ready sh none cleared) (Answer.number (pos (length sh.variables)))

abbrev pub loaded : Sheet → Option Command → Memory → List ℕ → Reading Command → Step
loaded sh p m bytes (refused r) = answered (ready sh p m) (Answer.refused r)
loaded sh p m bytes (accepted c) = answered (ready sh (some c) m) (Answer.number (pos (length bytes / 8)))

abbrev pub ended : Sheet → Command → ℕ → Outcome → Step
ended sh c turns (done left m l) = record { next = ready sh (some c) m; answer = Answer.done (turns - left); releases = l }
ended sh c turns (spent m l) = record { next = ready sh (some c) m; answer = Answer.spent turns; releases = l }

abbrev pub passed : Sheet → Option Command → Memory → ℕ → Step
passed sh none m turns = has_no_program (ready sh none m)
passed sh (some c) m turns = ended sh c turns (run sh c turns m)

-- what a call does once its rules hold
abbrev pub effect : System → Sheet → Option Command → Memory → Call → Step
effect S sh p m (Call.sheet bytes) = has_sheet (ready sh p m)
effect S sh p m (Call.load bytes) = loaded sh p m bytes (S.readers.program S.lattice sh bytes)
effect S sh p m (Call.feed v x) = obeyed (ready sh p (write sh v x m))
effect S sh p m (Call.raise c) = obeyed (ready sh p (raised sh c m))
effect S sh p m (Call.lower c) = obeyed (ready sh p (lowered c m))
effect S sh p m (Call.pass turns) = passed sh p m turns
effect S sh p m (Call.look l v) = answered (ready sh p m) (Answer.number (m.values v))
effect S sh p m (Call.ask l c) = answered (ready sh p m) (Answer.number (cond (m.up c) (pos 1) (pos 0)))
effect S sh p m (Call.image l size) = answered (ready sh p m) (Answer.bytes (S.image (held m)))

-- before a sheet is accepted, nothing but a sheet is
abbrev pub first_step : System → Call → Step
first_step S (Call.sheet bytes) = begun (S.readers.sheet S.lattice bytes)
first_step S (Call.load bytes) = has_no_sheet
first_step S (Call.feed v x) = has_no_sheet
first_step S (Call.raise c) = has_no_sheet
first_step S (Call.lower c) = has_no_sheet
first_step S (Call.pass turns) = has_no_sheet
first_step S (Call.look l v) = has_no_sheet
first_step S (Call.ask l c) = has_no_sheet
first_step S (Call.image l size) = has_no_sheet

abbrev pub step : System → State → Call → Step
step S bare call = first_step S call
step S (ready sh p m) call = asked (ready sh p m) (rules_of S sh m call) (effect S sh p m call)

-- one call in a history, with the state that it met
pub record Event : Type 0 where
  pub state : State
  pub call : Call
  pub answer : Answer
  pub releases : List Release

abbrev pub event : System → State → Call → Event
event S st c = record { state = st; call = c; answer = (step S st c).answer; releases = (step S st c).releases }

abbrev pub history : System → State → List Call → List Event
history S st [] = []
history S st (c ∷ cs) = event S st c ∷ history S (step S st c).next cs

-- the state after a list of calls
abbrev pub final : System → State → List Call → State
final S st [] = st
final S st (c ∷ cs) = final S (step S st c).next cs
