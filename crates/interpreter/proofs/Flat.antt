-- A program as a list of instructions with jumps, one at a time, and that it does what its command does.
use Rattle.std.proofs.Common.{◌≡◌, ℕ, zero, suc, ◌+◌, ◌-◌, ◌<◌, ◌≤◌, Bool, true, false, cond, List, [], ◌∷◌, ◌++◌, length, get_or, sym, refl, ap, ◌∙◌, subst, arith, length-append, length-take-le, get_or-take}
use Rattle.sheet.specs.Sheet.{Sheet}
use Rattle.machine.specs.Command.{Command, skip, ◌⨾◌, set, combine, release, raise, if_variable, if_condition, while}
use Rattle.machine.specs.Memory.{Memory}
use Rattle.machine.specs.Run.{Outcome, done, spent, Release, after, and_then, is_zero, run}
use Rattle.machine.proofs.Loops.{while_law}
use Rattle.program.specs.declared.kept.Instruction.{Instruction}
use Rattle.program.specs.declared.kept.Instruction.TheVariants.{IfVariable, IfCondition, Jump, End, Loop, Again}
use Rattle.program.specs.declared.kept.Program.{Program}
use Rattle.program.specs.Kept.{linked, size, Placed, Keeps}
use Rattle.program.proofs.LetterSteps.{sign_of-kept}
use Rattle.interpreter.specs.Parts.{plain, memory_after}

-- what a list gives beyond its end
abbrev unset : Instruction
unset = End

-- the end of a run, without what permits stored
pub data Ending : Type 0 where
  finished : ℕ → Memory → Ending
  stuck : Memory → Ending

pub data Move : Type 0 where
  goes : ℕ → ℕ → Memory → Move
  stops : Memory → Move

-- a loop's test: on to p if the variable is zero, else for a turn to q
abbrev turn : Bool → ℕ → ℕ → ℕ → Memory → Move
turn true p q t m = goes p t m
turn false p q zero m = stops m
turn false p q (suc t) m = goes q t m

-- what the instruction at position p does, with t turns left
abbrev pub next : Sheet → Instruction → ℕ → ℕ → Memory → Move
next sh (IfVariable v way) p t m = cond (is_zero (m.values v)) (goes (p + 1 + way) t m) (goes (p + 1) t m)
next sh (IfCondition c way) p t m = cond (m.up c) (goes (p + 1) t m) (goes (p + 1 + way) t m)
next sh (Jump way) p t m = goes (p + 1 + way) t m
next sh (Loop v way) p t m = turn (is_zero (m.values v)) (p + 1 + way) (p + 1) t m
next sh (Again v way) p t m = turn (is_zero (m.values v)) (p + 1) (p + 1 - way) t m
next sh r p t m = goes (p + 1) t (memory_after (run sh (plain r) 0 m))

-- where a run goes on after an outcome
abbrev pub follow : Outcome → (ℕ → Memory → Ending) → Ending
follow (done t m l) k = k t m
follow (spent m l) k = stuck m

follow_after : (l : List Release) (o : Outcome) (k : ℕ → Memory → Ending) → follow (after l o) k ≡ follow o k
follow_after l (done t m i) k = refl
follow_after l (spent m i) k = refl

follow_then : (o : Outcome) (f : ℕ → Memory → Outcome) (k : ℕ → Memory → Ending) → follow o (λ t m. follow (f t m) k) ≡ follow (and_then o f) k
follow_then (done t m l) f k = sym (follow_after l (f t m) k)
follow_then (spent m l) f k = refl

module _ (rs : List Instruction) (count : ℕ) (sh : Sheet) where
  -- from position p, with t turns left and memory m, the program ends so
  pub data Flat : ℕ → ℕ → Memory → Ending → Type 0 where
    over : {p t : ℕ} {m : Memory} → count ≤ p → Flat p t m (finished t m)
    on : {p t q u : ℕ} {m n : Memory} {e : Ending} → p < count → Placed (plain (get_or rs p unset)) → next sh (get_or rs p unset) p t m ≡ goes q u n → Flat q u n e → Flat p t m e
    halt : {p t : ℕ} {m n : Memory} → p < count → next sh (get_or rs p unset) p t m ≡ stops n → Flat p t m (stuck n)

  pub step : {p t q u : ℕ} {m n : Memory} {e : Ending} → Flat p t m e → p < count → next sh (get_or rs p unset) p t m ≡ goes q u n → Flat q u n e
  step (over h) l x = absurd (omega arith)
  step {p} {t} {q} {u} {m} {n} {e} (on {q = q'} {u = u'} {n = n'} h k y f) l x =
      let a : q' ≡ q = cc in
      let b : u' ≡ u = cc in
      let d : n' ≡ n = cc in
      subst (λ (i : ℕ). Flat i u n e) a (subst (λ (i : ℕ). Flat q' i n e) b (subst (λ i. Flat q' u' i e) d f))
  step (halt h y) l x = cc

  pub here : {p t q u : ℕ} {m n : Memory} {e : Ending} → Flat p t m e → p < count → next sh (get_or rs p unset) p t m ≡ goes q u n → Placed (plain (get_or rs p unset))
  here (over h) l x = absurd (omega arith)
  here (on h k y f) l x = k
  here (halt h y) l x = cc

  -- these instructions stand in the program, from position p on
  abbrev pub Part : ℕ → List Instruction → Type 0
  Part p [] = Unit {0}
  Part p (x ∷ xs) = (get_or rs p unset ≡ x) × Part (p + 1) xs

  at_once : {p q : ℕ} (xs : List Instruction) → p ≡ q → Part p xs → Part q xs
  at_once xs e h = subst (λ (i : ℕ). Part i xs) e h

  left_part : (p : ℕ) (xs ys : List Instruction) → Part p (xs ++ ys) → Part p xs
  left_part p [] ys h = tt
  left_part p (x ∷ xs) ys h = (h.0, left_part (p + 1) xs ys h.1)

  right_part : (p : ℕ) (xs ys : List Instruction) → Part p (xs ++ ys) → Part (p + length xs) ys
  right_part p [] ys h = at_once ys (omega arith) h
  right_part p (x ∷ xs) ys h = at_once ys (omega arith) (right_part (p + 1) xs ys h.1)

  -- every run from p with at most b turns ends as k says
  abbrev pub Leads : ℕ → ℕ → (ℕ → Memory → Ending) → Type 0
  Leads b p k = (t : ℕ) (m : Memory) → t ≤ b → Flat p t m (k t m)

  moved : {p q t : ℕ} {m : Memory} {e : Ending} → p ≡ q → Flat p t m e → Flat q t m e
  moved {t = t} {m = m} {e = e} h f = subst (λ (i : ℕ). Flat i t m e) h f

  is : {p t : ℕ} {m : Memory} {x y : Ending} → x ≡ y → Flat p t m x → Flat p t m y
  is {p = p} {t = t} {m = m} h f = subst (Flat p t m) h f

  long : (c : Command) → length (linked c) ≡ size c
  long skip = refl
  long (c ⨾ d) = simp (length-append, long c, long d)
  long (set a x) = refl
  long (combine s a b c) = refl
  long (release a b r) = refl
  long (raise c) = refl
  long (if_variable b c d) = simp (length-append, long c, long d) (omega arith)
  long (if_condition a c d) = simp (length-append, long c, long d) (omega arith)
  long (while b c) = simp (length-append, long c) (omega arith)

  -- the instructions after those of a command
  rest : (p : ℕ) (c : Command) (ys : List Instruction) → Part p (linked c ++ ys) → Part (p + size c) ys
  rest p c ys h = at_once ys (ap (λ (i : ℕ). p + i) (long c)) (right_part p (linked c) ys h)

  -- an instruction without a block
  single : (p : ℕ) (r : Instruction) (b : ℕ) (k : ℕ → Memory → Ending) (f : Memory → Memory) → p < count → get_or rs p unset ≡ r → Placed (plain r)
      → ((t : ℕ) (m : Memory) → next sh r p t m ≡ goes (p + 1) t (f m)) → Leads b (p + 1) k → Leads b p (λ t m. k t (f m))
  single p r b k f l e h x L t m n = on l (subst (λ i. Placed (plain i)) (sym e) h) (ap (λ i. next sh i p t m) e ∙ x t m) (L t (f m) n)

  -- an instruction that only leads on
  jump : {p q t : ℕ} {m : Memory} {e : Ending} (r : Instruction) → p < count → get_or rs p unset ≡ r → Placed (plain r) → next sh r p t m ≡ goes q t m → Flat q t m e → Flat p t m e
  jump {p} {q} {t} {m} r l e h x f = on l (subst (λ i. Placed (plain i)) (sym e) h) (ap (λ i. next sh i p t m) e ∙ x) f

  -- an instruction that leads to one of two blocks
  fork : {p q s t : ℕ} {m : Memory} (z : Bool) (x y : Outcome) (k : ℕ → Memory → Ending) (r : Instruction) → p < count → get_or rs p unset ≡ r → Placed (plain r)
      → next sh r p t m ≡ cond z (goes q t m) (goes s t m) → Flat q t m (follow x k) → Flat s t m (follow y k) → Flat p t m (follow (elim z [ true ↦ x | false ↦ y ]) k)
  fork true x y k r l e h n f g = jump r l e h n f
  fork false x y k r l e h n f g = jump r l e h n g

  -- from its first instruction a command runs as the machine says, and goes on after its last
  abbrev Covered : Command → ℕ → Type 0
  Covered c p = (b : ℕ) (k : ℕ → Memory → Ending) → Leads b (p + size c) k → Leads b p (λ t m. follow (run sh c t m) k)

  -- two blocks with their J and K
  blocks : (p : ℕ) (c d : Command) → Part p (linked c ++ (Jump (size d + 1) ∷ (linked d ++ (End ∷ [])))) → p + size c + size d + 2 ≤ count
      → (Part p (linked c) → Covered c p) → (Part (p + size c + 1) (linked d) → Covered d (p + size c + 1)) → (b : ℕ) (k : ℕ → Memory → Ending) → Leads b (p + size c + size d + 2) k
      → Leads b p (λ t m. follow (run sh c t m) k) × Leads b (p + size c + 1) (λ t m. follow (run sh d t m) k)
  blocks p c d P l C D b k L =
      let J : List Instruction = Jump (size d + 1) ∷ (linked d ++ (End ∷ [])) in
      let Q = rest p c J P in
      let R = rest (p + size c + 1) d (End ∷ []) Q.1 in (
        C (left_part p (linked c) J P) b k (λ t m n. jump _ (omega arith) Q.0 tt refl (moved (omega arith) (L t m n))),
        D (left_part (p + size c + 1) (linked d) (End ∷ []) Q.1) b k (λ t m n. jump _ (omega arith) R.0 tt refl (moved (omega arith) (L t m n))),
      )

  -- an instruction that tests for a turn: W itself, or its K
  module _ (v p : ℕ) (c : Command) where
    abbrev looping : (ℕ → Memory → Ending) → ℕ → Memory → Ending
    looping k t m = follow (run sh (while v c) t m) k

    -- K tests again
    closing : (t : ℕ) (m : Memory) → next sh (Again v (size c + 1)) (p + size c) t m ≡ turn (is_zero (m.values v)) (p + size c + 1) p t m
    closing t m = ap (λ (i : ℕ). turn (is_zero (m.values v)) (p + size c + 1) i t m) (omega arith)

    again : (x : ℕ) (r : Instruction) → x < count → get_or rs x unset ≡ r → Placed (plain r) → ((t : ℕ) (m : Memory) → next sh r x t m ≡ turn (is_zero (m.values v)) (p + size c + 1) p t m)
        → (b : ℕ) (k : ℕ → Memory → Ending) → Leads b (p + size c + 1) k → ((j : ℕ) → j < b → Leads j p (λ t m. follow (run sh c t m) (looping k))) → Leads b x (looping k)
    again x r l e h q b k L B t m n = is (ap (λ o. follow o k) (sym (while_law sh v c t m))) (go (is_zero (m.values v)) t refl n)
      where
        go : (z : Bool) (t : ℕ) → is_zero (m.values v) ≡ z → t ≤ b
            → Flat x t m (follow (elim z [ true ↦ done t m [] | false ↦ elim t [ zero ↦ spent m [] | suc j ↦ and_then (run sh c j m) (run sh (while v c)) ] ]) k)
        go true t y n = jump r l e h (q t m ∙ ap (λ z. turn z (p + size c + 1) p t m) y) (L t m n)
        go false zero y n = halt l (ap (λ i. next sh i x 0 m) e ∙ q 0 m ∙ ap (λ z. turn z (p + size c + 1) p 0 m) y)
        go false (suc j) y n =
            is (follow_then (run sh c j m) (run sh (while v c)) k)
            (on l (subst (λ i. Placed (plain i)) (sym e) h) (ap (λ i. next sh i x (suc j) m) e ∙ q (suc j) m ∙ ap (λ z. turn z (p + size c + 1) p (suc j) m) y) (B j (omega arith) j m (omega arith)))

    -- K of the W before position p
    back : Covered c p → p + size c < count
        → get_or rs (p + size c) unset ≡ Again v (size c + 1) → (b : ℕ) (k : ℕ → Memory → Ending) → Leads b (p + size c + 1) k → Leads b (p + size c) (looping k)
    back I l e zero k L = again (p + size c) _ l e tt closing 0 k L (λ j h. absurd (omega arith))
    back I l e (suc b) k L =
        again (p + size c) _ l e tt closing (suc b) k L
        (λ j h. I j (looping k) (λ t m n. back I l e b k (λ t m n. L t m (omega arith)) t m (omega arith)))

  covers : (c : Command) (p : ℕ) → Part p (linked c) → p + size c ≤ count → Placed c → Covered c p
  covers skip p P l h b k L = λ t m n. moved (omega arith) (L t m n)
  covers (c ⨾ d) p P l h b k L = λ t m n.
      let second : Leads b (p + size c) (λ t m. follow (run sh d t m) k) = covers d (p + size c) (rest p c (linked d) P) (omega arith) h.1 b k (λ t m n. moved (omega arith) (L t m n)) in
      is (follow_then (run sh c t m) (run sh d) k) (covers c p (left_part p (linked c) (linked d) P) (omega arith) h.0 b (λ t m. follow (run sh d t m) k) second t m n)
  covers (set a x) p P l h b k L = single p _ b k _ (omega arith) P.0 h (λ t m. refl) L
  covers (combine s a v w) p P l h b k L =
      single p _ b k _ (omega arith) P.0 h (λ t m. ap (λ i. goes (p + 1) t (memory_after (run sh (combine i a v w) 0 m))) (sign_of-kept s)) L
  covers (release a v r) p P l h b k L = single p _ b k _ (omega arith) P.0 h (λ t m. refl) L
  covers (raise c) p P l h b k L = single p _ b k _ (omega arith) P.0 h (λ t m. refl) L
  covers (if_variable v c d) p P l h b k L = λ t m n.
      let two = blocks (p + 1) c d P.1 (omega arith) (λ Q. covers c (p + 1) Q (omega arith) h.0) (λ Q. covers d (p + 1 + size c + 1) Q (omega arith) h.1) b k (λ t m n. moved (omega arith) (L t m n)) in
      fork (is_zero (m.values v)) _ _ k _ (omega arith) P.0 tt refl (moved (omega arith) (two.1 t m n)) (two.0 t m n)
  covers (if_condition a c d) p P l h b k L = λ t m n.
      let two = blocks (p + 1) c d P.1 (omega arith) (λ Q. covers c (p + 1) Q (omega arith) h.0) (λ Q. covers d (p + 1 + size c + 1) Q (omega arith) h.1) b k (λ t m n. moved (omega arith) (L t m n)) in
      fork (m.up a) _ _ k _ (omega arith) P.0 tt refl (two.0 t m n) (moved (omega arith) (two.1 t m n))
  covers (while v c) p P l h b k L =
      let Q = rest (p + 1) c (Again v (size c + 1) ∷ []) P.1 in
      let I : Covered c (p + 1) = covers c (p + 1) (left_part (p + 1) (linked c) (Again v (size c + 1) ∷ []) P.1) (omega arith) h in
      let L' : Leads b (p + 1 + size c + 1) k = λ t m n. moved (omega arith) (L t m n) in
      again v (p + 1) c p _ (omega arith) P.0 tt (λ t m. ap (λ (i : ℕ). turn (is_zero (m.values v)) i (p + 1) t m) (omega arith)) b k L'
      (λ j y. I j (looping v (p + 1) c k) (λ t m n. back v (p + 1) c I (omega arith) Q.0 b k L' t m (omega arith)))

  part_from : (p : ℕ) (xs : List Instruction) → ((i : ℕ) → i < length xs → get_or rs (p + i) unset ≡ get_or xs i unset) → Part p xs
  part_from p [] h = tt
  part_from p (x ∷ xs) h = (
    ap (λ (i : ℕ). get_or rs i unset) (omega arith) ∙ h 0 (omega arith),
    part_from (p + 1) xs (λ i l. ap (λ (j : ℕ). get_or rs j unset) (omega arith) ∙ h (suc i) (omega arith)),
  )

-- a program that is kept ends as its command does
pub starts : (p : Program) (sh : Sheet) (c : Command) → Keeps p c → (t : ℕ) (m : Memory) → Flat p.instructions p.count sh 0 t m (follow (run sh c t m) finished)
starts p sh c k t m =
    let room : p.count ≤ length p.instructions = omega (arith, p.full, p.within) in
    let n : p.count ≡ size c = sym (length-take-le p.count p.instructions room) ∙ ap length k.instructions ∙ long p.instructions p.count sh c in
    let P : Part p.instructions p.count sh 0 (linked c) =
    part_from p.instructions p.count sh 0 (linked c)
    (λ i j. ap (λ (k : ℕ). get_or p.instructions k unset) (omega arith) ∙ sym (get_or-take p.count p.instructions i unset (omega (arith, long p.instructions p.count sh c))) ∙ ap (λ xs. get_or xs i unset) k.instructions) in
    covers p.instructions p.count sh c 0 P (omega arith) k.placed t finished (λ u o k. over (omega arith)) t m (omega arith)

pub ruleset moves = (starts, step, here)
