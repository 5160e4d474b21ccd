-- What somebody at a level may see of a history, once the conditions of a set are to have wiped what they wipe.
use Rattle.std.specs.Prelude.{◌≡◌, ℕ, Bool, false, cond, not, ◌&&◌, List, [], ◌∷◌, ◌++◌, map, length, ℤ}
use Rattle.lattice.specs.Lattice.{Lattice}
use Rattle.policy.specs.Policy.{Set, level_under}
use Rattle.sheet.specs.Sheet.{Sheet, policy_of, level_of, declared_variable, declared_condition}
use Rattle.machine.specs.Memory.{every}
use Rattle.machine.specs.Run.{Release}
use Rattle.machine.specs.Calls.{Call, Answer}
use Rattle.machine.specs.Machine.{State, bare, ready, Event}

pub record Observer : Type 0 where
  pub level : ℕ
  pub set : Set

module _ (C : Lattice) (o : Observer) where
  abbrev pub observable_variable : Sheet → ℕ → Bool
  observable_variable sh v = C.below (level_under C o.set (policy_of sh v)) o.level

  abbrev pub observable_condition : Sheet → ℕ → Bool
  observable_condition sh c = C.below (level_of sh c) o.level

  abbrev pub hidden_variable : Sheet → ℕ → Bool
  hidden_variable sh v = declared_variable sh v && not (observable_variable sh v)

  abbrev pub hidden_condition : Sheet → ℕ → Bool
  hidden_condition sh c = declared_condition sh c && not (observable_condition sh c)

  abbrev pub hidden : State → Call → Bool
  hidden bare call = false
  hidden (ready sh p m) (Call.sheet bytes) = false
  hidden (ready sh p m) (Call.load bytes) = false
  hidden (ready sh p m) (Call.feed v x) = hidden_variable sh v
  hidden (ready sh p m) (Call.raise c) = hidden_condition sh c
  hidden (ready sh p m) (Call.lower c) = hidden_condition sh c
  hidden (ready sh p m) (Call.pass turns) = false
  hidden (ready sh p m) (Call.look l v) = hidden_variable sh v
  hidden (ready sh p m) (Call.ask l c) = hidden_condition sh c
  hidden (ready sh p m) (Call.image l size) = not (every (length sh.variables) (observable_variable sh))

  -- what remains when the hidden calls are struck
  abbrev pub observed : List Event → List Event
  observed [] = []
  observed (e ∷ es) = cond (hidden e.state e.call) (observed es) (e ∷ observed es)

  abbrev pub observed_calls : List Event → List Call
  observed_calls es = map (λ e. e.call) (observed es)

  abbrev pub observed_answers : List Event → List Answer
  observed_answers es = map (λ e. e.answer) (observed es)

  -- the values that permits stored in observable variables, in order
  abbrev pub released_in : Sheet → List Release → List ℤ
  released_in sh [] = []
  released_in sh (r ∷ rs) = cond (observable_variable sh r.target) (r.value ∷ released_in sh rs) (released_in sh rs)

  abbrev pub released_at : State → List Release → List ℤ
  released_at bare rs = []
  released_at (ready sh p m) rs = released_in sh rs

  abbrev pub observed_releases : List Event → List ℤ
  observed_releases [] = []
  observed_releases (e ∷ es) = released_at e.state e.releases ++ observed_releases es

-- what went in is the same to the observer: the calls that remain, and the values that permits stored
pub record SameInput (C D : Lattice) (o : Observer) (h k : List Event) : Type 0 where
  pub calls : observed_calls C o h ≡ observed_calls D o k
  pub releases : observed_releases C o h ≡ observed_releases D o k
