-- The law of a loop, free of the bound by which it is defined: a false test ends it at no cost; a true one takes a turn,
-- or stops the pass where there is none.
use Rattle.std.proofs.Common.{◌≡◌, ℕ, zero, suc, ◌≤◌, true, false, List, [], refl, ap, not-suc-le-zero, arith}
use Rattle.sheet.specs.Sheet.{Sheet}
use Rattle.machine.specs.Command.{Command, while}
use Rattle.machine.specs.Memory.{Memory}
use Rattle.machine.proofs.EveryRun.{every_run}
use Rattle.machine.specs.Run.{Release, Outcome, done, spent, after, and_then, is_zero, loop, run}

-- no outcome leaves more turns than there were
abbrev Left : ℕ → Outcome → Type 0
Left n (done k m l) = k ≤ n
Left n (spent m l) = Unit {0}

left_after : (n k : ℕ) (l : List Release) (o : Outcome) → k ≤ n → Left k o → Left n (after l o)
left_after n k l (done j m i) e h = omega arith
left_after n k l (spent m i) e h = tt

left_then : (n : ℕ) (o : Outcome) (f : ℕ → Memory → Outcome) → Left n o → ((k : ℕ) (m : Memory) → Left k (f k m)) → Left n (and_then o f)
left_then n (done k m l) f h g = left_after n k l (f k m) h (g k m)
left_then n (spent m l) f h g = tt

left_more : (n : ℕ) (o : Outcome) → Left n o → Left (suc n) o
left_more n (done k m l) h = omega arith
left_more n (spent m l) h = tt

left_run : (sh : Sheet) (c : Command) (n : ℕ) (m : Memory) → Left n (run sh c n m)
left_run sh = every_run sh {P = λ n m. Left n} (record {
  ends = λ n m. omega arith;
  stops = λ n m. tt;
  writes = λ n a x m l. omega arith;
  raises = λ n c m. omega arith;
  turns = λ n m. left_more n;
  goes_on = λ n m. left_then n;
})

then_alike : (n : ℕ) (o : Outcome) (f g : ℕ → Memory → Outcome) → Left n o → ((k : ℕ) (m : Memory) → k ≤ n → f k m ≡ g k m) → and_then o f ≡ and_then o g
then_alike n (done k m l) f g h e = ap (after l) (e k m h)
then_alike n (spent m l) f g h e = refl

-- any bound that is large enough does
bound_free : (b : ℕ) (body : ℕ → Memory → Outcome) → ((n : ℕ) (m : Memory) → Left n (body n m)) → (i j n : ℕ) (m : Memory) → n ≤ i → n ≤ j → loop i b body n m ≡ loop j b body n m
bound_free b body f zero zero n m h k = refl
bound_free b body f zero (suc j) zero m h k = refl
bound_free b body f zero (suc j) (suc n) m h k = absurd (not-suc-le-zero h)
bound_free b body f (suc i) zero zero m h k = refl
bound_free b body f (suc i) zero (suc n) m h k = absurd (not-suc-le-zero k)
bound_free b body f (suc i) (suc j) zero m h k = refl
bound_free b body f (suc i) (suc j) (suc n) m h k =
    ap (λ o. elim (is_zero (m.values b)) [ true ↦ done (suc n) m [] | false ↦ o ])
    (then_alike n (body n m) (loop i b body) (loop j b body) (f n m) (λ x y z. bound_free b body f i j x y (omega arith) (omega arith)))

pub while_law : (sh : Sheet) (b : ℕ) (c : Command) (n : ℕ) (m : Memory) → run sh (while b c) n m ≡ elim (is_zero (m.values b)) [
  | true ↦ done n m []
  | false ↦ elim n [ zero ↦ spent m [] | suc k ↦ and_then (run sh c k m) (run sh (while b c)) ]
]
while_law sh b c zero m = refl
while_law sh b c (suc n) m =
    ap (λ o. elim (is_zero (m.values b)) [ true ↦ done (suc n) m [] | false ↦ o ])
    (then_alike n (run sh c n m) (loop n b (run sh c)) (run sh (while b c)) (left_run sh c n m) (λ x y z. bound_free b (run sh c) (left_run sh c) n x x y z (omega arith)))
