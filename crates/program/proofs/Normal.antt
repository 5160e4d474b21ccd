-- A program and its normal form are written alike, and do the same. Assumes nothing.
use Rattle.std.proofs.Common.{◌≡◌, ℕ, true, false, List, [], ◌∷◌, ◌++◌, sym, refl, ap, ◌∙◌}
use Rattle.std.proofs.lemmas.List.{append-nil, append_assoc}
use Rattle.sheet.specs.Sheet.{Sheet}
use Rattle.machine.specs.Command.{Command, skip, ◌⨾◌, set, combine, release, raise, if_variable, if_condition, while}
use Rattle.machine.specs.Memory.{Memory}
use Rattle.machine.specs.Run.{Release, Outcome, done, spent, after, and_then, is_zero, loop, run}
use Rattle.program.specs.Written.{fields, written}
use Rattle.program.specs.Valid.{before, normal}

-- ── written ──

before_written : (c rest : Command) → written (before c rest) ≡ written c ++ written rest
unfolding written before
before_written skip rest = refl
before_written (c ⨾ d) rest = before_written c (before d rest) ∙ ap (λ l. written c ++ l) (before_written d rest) ∙ sym (append_assoc (written c) (written d) (written rest))
before_written (set a x) rest = refl
before_written (combine s a b c) rest = refl
before_written (release a b p) rest = refl
before_written (raise c) rest = refl
before_written (if_variable b c d) rest =
    λ i. (fields 73 0 b 0 ∷ ((before_written c skip ∙ append-nil (written c)) i ++ (fields 74 0 0 0 ∷ ((before_written d skip ∙ append-nil (written d)) i ++ (fields 75 0 0 0 ∷ []))))) ++ written rest
before_written (if_condition a c d) rest =
    λ i. (fields 81 a 0 0 ∷ ((before_written c skip ∙ append-nil (written c)) i ++ (fields 74 0 0 0 ∷ ((before_written d skip ∙ append-nil (written d)) i ++ (fields 75 0 0 0 ∷ []))))) ++ written rest
before_written (while b c) rest = λ i. (fields 87 0 b 0 ∷ ((before_written c skip ∙ append-nil (written c)) i ++ (fields 75 0 0 0 ∷ []))) ++ written rest

pub normal_written : (c : Command) → written (normal c) ≡ written c
unfolding written
normal_written c = before_written c skip ∙ append-nil (written c)

-- ── run ──

after_none : (o : Outcome) → after [] o ≡ o
after_none (done n m l) = refl
after_none (spent m l) = refl

after_after : (k l : List Release) (o : Outcome) → after k (after l o) ≡ after (k ++ l) o
after_after k l (done n m x) = ap (done n m) (sym (append_assoc k l x))
after_after k l (spent m x) = ap (spent m) (sym (append_assoc k l x))

after_then : (k : List Release) (o : Outcome) (g : ℕ → Memory → Outcome) → and_then (after k o) g ≡ after k (and_then o g)
after_then k (done n m l) g = sym (after_after k l (g n m))
after_then k (spent m l) g = refl

then_assoc : (o : Outcome) (f g : ℕ → Memory → Outcome) → and_then o (λ n m. and_then (f n m) g) ≡ and_then (and_then o f) g
then_assoc (done n m l) f g = sym (after_then l (f n m) g)
then_assoc (spent m l) f g = refl

then_skip : (sh : Sheet) (o : Outcome) → and_then o (run sh skip) ≡ o
then_skip sh (done n m l) = ap (done n m) (append-nil l)
then_skip sh (spent m l) = refl

before_runs : (sh : Sheet) (c rest : Command) → run sh (before c rest) ≡ (λ n m. and_then (run sh c n m) (run sh rest))
unfolding before
before_runs sh skip rest = λ i n m. sym (after_none (run sh rest n m)) i
before_runs sh (c ⨾ d) rest =
    before_runs sh c (before d rest)
    ∙ (λ i n m. and_then (run sh c n m) (before_runs sh d rest i))
    ∙ (λ i n m. then_assoc (run sh c n m) (run sh d) (run sh rest) i)
before_runs sh (set a x) rest = refl
before_runs sh (combine s a b c) rest = refl
before_runs sh (release a b p) rest = refl
before_runs sh (raise c) rest = refl
before_runs sh (if_variable b c d) rest =
    λ i n m. and_then (elim (is_zero (m.values b)) [
      | true ↦ (before_runs sh d skip ∙ (λ j n m. then_skip sh (run sh d n m) j)) i n m
      | false ↦ (before_runs sh c skip ∙ (λ j n m. then_skip sh (run sh c n m) j)) i n m
    ]) (run sh rest)
before_runs sh (if_condition a c d) rest =
    λ i n m. and_then (elim (m.up a) [
      | true ↦ (before_runs sh c skip ∙ (λ j n m. then_skip sh (run sh c n m) j)) i n m
      | false ↦ (before_runs sh d skip ∙ (λ j n m. then_skip sh (run sh d n m) j)) i n m
    ]) (run sh rest)
before_runs sh (while b c) rest = λ i n m. and_then (loop n b ((before_runs sh c skip ∙ (λ j n m. then_skip sh (run sh c n m) j)) i) n m) (run sh rest)

pub normal_runs : (sh : Sheet) (c : Command) (n : ℕ) (m : Memory) → run sh (normal c) n m ≡ run sh c n m
normal_runs sh c n m = (λ i. before_runs sh c skip i n m) ∙ then_skip sh (run sh c n m)
