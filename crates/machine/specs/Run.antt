-- What a program does to the memory, with a budget of turns, and what permits store on the way.
use Rattle.std.specs.Prelude.{ℕ, zero, suc, Bool, true, false, cond, not, ◌&&◌, ◌||◌, List, [], ◌∷◌, ◌++◌, ℤ, pos, negsuc, ◌+ℤ◌, ◌-ℤ◌, ◌*ℤ◌, ◌==◌, int_le, int_lt}
use Rattle.std.specs.Int.{int_wrap, w32}
use Rattle.policy.specs.Policy.{Set, wiped_by}
use Rattle.policy.specs.Masks.{bit}
use Rattle.sheet.specs.Sheet.{Sheet, policy_of, permit_at}
use Rattle.machine.specs.Command.{Sign, plus, minus, times, less, equal, Command, skip, ◌⨾◌, set, combine, release, raise, if_variable, if_condition, while}
use Rattle.machine.specs.Memory.{Memory, write, raised, every}

-- sums, differences and products wrap at 32 bits
abbrev pub calculate : Sign → ℤ → ℤ → ℤ
calculate plus x y = int_wrap w32 (x +ℤ y)
calculate minus x y = int_wrap w32 (x -ℤ y)
calculate times x y = int_wrap w32 (x *ℤ y)
calculate less x y = cond (int_lt x y) (pos 1) (pos 0)
calculate equal x y = cond (int_le x y && int_le y x) (pos 1) (pos 0)

abbrev pub is_zero : ℤ → Bool
is_zero (pos n) = n == 0
is_zero (negsuc n) = false

-- a permit releases while all conditions of its mask, of 32 bits, are up
unfoldable pub permitted : ℕ → Set → Bool
permitted mask up = every 32 (λ c. not (bit c mask) || up c)

-- what a release writes
abbrev pub released : Sheet → ℕ → ℕ → Memory → ℤ
released sh b p m = cond (permitted (permit_at sh p).conditions m.up) (m.values b) (pos 0)

-- a value that a permit stored, and where
pub record Release : Type 0 where
  pub target : ℕ
  pub value : ℤ

-- How a run ends: with turns left over, or for want of one; the memory then, and what permits stored on the way.
pub data Outcome : Type 0 where
  done : (left : ℕ) → Memory → List Release → Outcome
  spent : Memory → List Release → Outcome

abbrev pub after : List Release → Outcome → Outcome
after l (done n m k) = done n m (l ++ k)
after l (spent m k) = spent m (l ++ k)

abbrev pub and_then : Outcome → (ℕ → Memory → Outcome) → Outcome
and_then (done n m l) k = after l (k n m)
and_then (spent m l) k = spent m l

-- A loop takes a turn for each true test, and stops the run where none is left. The first argument bounds the tests; the turns there are bound them too.
abbrev pub loop : ℕ → ℕ → (ℕ → Memory → Outcome) → ℕ → Memory → Outcome
loop zero b body n m = elim (is_zero (m.values b)) [ true ↦ done n m [] | false ↦ spent m [] ]
loop (suc bound) b body n m =
    elim (is_zero (m.values b)) [
      | true ↦ done n m []
      | false ↦ elim n [ zero ↦ spent m [] | suc k ↦ and_then (body k m) (loop bound b body) ]
    ]

abbrev pub run : Sheet → Command → ℕ → Memory → Outcome
run sh skip n m = done n m []
run sh (c ⨾ d) n m = and_then (run sh c n m) (run sh d)
run sh (set a x) n m = done n (write sh a x m) []
run sh (combine sign a b c) n m = done n (write sh a (calculate sign (m.values b) (m.values c)) m) []
run sh (release a b p) n m =
    done n (write sh a (released sh b p m) m) (cond (wiped_by m.up (policy_of sh a)) [] (record { target = a; value = released sh b p m } ∷ []))
run sh (raise c) n m = done n (raised sh c m) []
run sh (if_variable b c d) n m = elim (is_zero (m.values b)) [ true ↦ run sh d n m | false ↦ run sh c n m ]
run sh (if_condition a c d) n m = elim (m.up a) [ true ↦ run sh c n m | false ↦ run sh d n m ]
run sh (while b c) n m = loop n b (run sh c) n m
