-- The values of the variables and the conditions that are up.
use Rattle.std.specs.Prelude.{ℕ, zero, suc, Bool, true, false, cond, ◌&&◌, List, [], ◌∷◌, ℤ, pos, ◌==◌}
use Rattle.policy.specs.Policy.{Set, wipes, wiped_by}
use Rattle.sheet.specs.Sheet.{Sheet, policy_of}

pub record Memory : Type 0 where
  pub values : ℕ → ℤ
  pub up : Set

-- all values zero, all conditions down
abbrev pub cleared : Memory
cleared = record { values = λ v. pos 0; up = λ c. false }

abbrev pub update : {A : Type 0} → ℕ → A → (ℕ → A) → ℕ → A
update a x f n = cond (n == a) x (f n)

-- a write is dropped while a condition that wipes its variable is up
abbrev pub write : Sheet → ℕ → ℤ → Memory → Memory
write sh a x m = cond (wiped_by m.up (policy_of sh a)) m (record { values = update a x m.values; up = m.up })

-- a condition comes up: what it wipes becomes zero
abbrev pub raised : Sheet → ℕ → Memory → Memory
raised sh c m = record { values = λ v. cond (wipes c (policy_of sh v)) (pos 0) (m.values v); up = update c true m.up }

abbrev pub lowered : ℕ → Memory → Memory
lowered c m = record { values = m.values; up = update c false m.up }

abbrev pub firsts : ℕ → (ℕ → ℤ) → List ℤ
firsts zero f = []
firsts (suc n) f = f 0 ∷ firsts n (λ k. f (suc k))

-- the 64 values that a store holds
unfoldable pub held : Memory → List ℤ
held m = firsts 64 m.values

-- is it so of every number below n?
abbrev pub every : ℕ → (ℕ → Bool) → Bool
every zero p = true
every (suc n) p = p n && every n p
