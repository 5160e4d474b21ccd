-- What holds of every run, because each step keeps it.
use Rattle.std.proofs.Common.{ℕ, zero, suc, Bool, true, false, List, [], ℤ}
use Rattle.sheet.specs.Sheet.{Sheet}
use Rattle.machine.specs.Command.{Command, skip, ◌⨾◌, set, combine, release, raise, if_variable, if_condition, while}
use Rattle.machine.specs.Memory.{Memory, write, raised}
use Rattle.machine.specs.Run.{Release, Outcome, done, spent, and_then, calculate, is_zero, released, loop, run}

pub branch : (P : Outcome → Type 0) (t : Bool) (x y : Outcome) → P x → P y → P (elim t [ true ↦ x | false ↦ y ])
branch P true x y h k = h
branch P false x y h k = k

-- each step keeps this of an outcome, by the turns and the memory from which it came
pub record Kept (sh : Sheet) (P : ℕ → Memory → Outcome → Type 0) : Type 0 where
  pub ends : (n : ℕ) (m : Memory) → P n m (done n m [])
  pub stops : (n : ℕ) (m : Memory) → P n m (spent m [])
  pub writes : (n a : ℕ) (x : ℤ) (m : Memory) (l : List Release) → P n m (done n (write sh a x m) l)
  pub raises : (n c : ℕ) (m : Memory) → P n m (done n (raised sh c m) [])
  pub turns : (n : ℕ) (m : Memory) (o : Outcome) → P n m o → P (suc n) m o
  pub goes_on : (n : ℕ) (m : Memory) (o : Outcome) (f : ℕ → Memory → Outcome) → P n m o → ((k : ℕ) (m' : Memory) → P k m' (f k m')) → P n m (and_then o f)

module _ (sh : Sheet) {P : ℕ → Memory → Outcome → Type 0} (K : Kept sh P) where
  every_loop : (b : ℕ) (body : ℕ → Memory → Outcome) → ((n : ℕ) (m : Memory) → P n m (body n m)) → (bound n : ℕ) (m : Memory) → P n m (loop bound b body n m)
  every_loop b body f zero n m = branch (P n m) (is_zero (m.values b)) (done n m []) (spent m []) (K.ends n m) (K.stops n m)
  every_loop b body f (suc bound) n m =
      let turn : ℕ → Outcome = λ k. elim k [ zero ↦ spent m [] | suc j ↦ and_then (body j m) (loop bound b body) ] in
      let again : (k : ℕ) → P k m (turn k) = elim [ zero ↦ K.stops 0 m | suc j ↦ K.turns j m _ (K.goes_on j m (body j m) (loop bound b body) (f j m) (every_loop b body f bound)) ] in
      branch (P n m) (is_zero (m.values b)) (done n m []) (turn n) (K.ends n m) (again n)

  pub every_run : (c : Command) (n : ℕ) (m : Memory) → P n m (run sh c n m)
  every_run skip n m = K.ends n m
  every_run (c ⨾ d) n m = K.goes_on n m (run sh c n m) (run sh d) (every_run c n m) (every_run d)
  every_run (set a x) n m = K.writes n a x m []
  every_run (combine s a b c) n m = K.writes n a (calculate s (m.values b) (m.values c)) m []
  every_run (release a b p) n m = K.writes n a (released sh b p m) m _
  every_run (raise c) n m = K.raises n c m
  every_run (if_variable b c d) n m = branch (P n m) (is_zero (m.values b)) (run sh d n m) (run sh c n m) (every_run d n m) (every_run c n m)
  every_run (if_condition a c d) n m = branch (P n m) (m.up a) (run sh c n m) (run sh d n m) (every_run c n m) (every_run d n m)
  every_run (while b c) n m = every_loop b (run sh c) (every_run c) n n m
