-- Rules are asked in an order, and the first that fails is the answer.
use Rattle.std.specs.Prelude.{◌≡◌, ℕ, zero, suc, ◌+◌, Bool, cond, List, [], ◌∷◌, Ok, Err, Result, MatchResult}
use Rattle.records.specs.declared.refusal.Refusal.{Refusal}
use Rattle.records.specs.Refusals.{refusal}

-- what a reader makes of bytes
pub data Reading (X : Type 0) : Type 0 where
  accepted : X → Reading X
  refused : Refusal → Reading X

abbrev pub refused_by : {X : Type 0} → ℕ → ℕ → ℕ → Reading X
refused_by number place detail = refused (refusal number place detail)

-- a rule as it is asked: what a refusal by it says, and whether it holds
pub record Rule : Type 0 where
  pub refusal : Refusal
  pub holds : Bool

abbrev pub rule : ℕ → ℕ → ℕ → Bool → Rule
rule number place detail holds = record { refusal = refusal number place detail; holds = holds }

-- a rule for each of so many numbers, the lowest first
abbrev pub each_from : ℕ → ℕ → (ℕ → Rule) → List Rule
each_from i zero f = []
each_from i (suc k) f = f i ∷ each_from (i + 1) k f

-- the first rule that fails, or else what follows
abbrev pub first : {X : Type 0} → List Rule → Reading X → Reading X
first [] next = next
first (q ∷ qs) next = cond q.holds (first qs next) (refused q.refusal)

-- the same as the result of a check: a value, if every rule holds
abbrev pub judged : {X : Type 0} → List Rule → X → Result X Refusal
judged [] x = Ok x
judged (q ∷ qs) x = cond q.holds (judged qs x) (Err q.refusal)

-- a check of rules that stand before others: where it passes they go on, and where it refuses they refuse so
abbrev pub Checked : {X Y : Type 0} → (Reading X → Reading X) → Result Y Refusal → Type 0
Checked {X} asked r = MatchResult r (λ _. (next : Reading X) → asked next ≡ next) (λ e. (next : Reading X) → asked next ≡ refused e)
