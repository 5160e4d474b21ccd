-- A pass: what a secret decides shows nowhere, and two memories that agree still agree after it.
use Rattle.std.proofs.Common.{◌≡◌, ℕ, zero, suc, Bool, true, false, cond, eqb, List, [], ◌∷◌, ◌++◌, ℤ, sym, refl, ap, ◌∙◌, subst, ap₂, subst₂, true≢false, append_assoc}
use mathlib.Core.Bool.{false≢true}
use Rattle.std.proofs.lemmas.Bool.{or_left, or_right, eq-eqb, false_from_ne_true}
use Rattle.lattice.specs.Lattice.{Below}
use Rattle.policy.specs.Policy.{Set, Policy, leaf, FlowsTo, level_under, present_level, wiped_by}
use Rattle.policy.specs.Masks.{members}
use Rattle.sheet.specs.Sheet.{policy_of, level_of, permit_at}
use Rattle.machine.specs.Command.{Command, skip, ◌⨾◌, set, combine, release, raise, if_variable, if_condition, while}
use Rattle.machine.specs.SoundSheet.{HasVariable}
use Rattle.machine.specs.Typing.{Context, under_variable, under_condition, under_conditions, ContextFlowsTo, WellTyped}
use Rattle.machine.specs.Memory.{Memory, update, write}
use Rattle.machine.specs.Run.{Release, Outcome, done, spent, after, and_then, calculate, is_zero, released, loop, run}
use Rattle.policy.proofs.Orders.{below_trans}
use Rattle.machine.proofs.EveryRun.{branch}
use Rattle.machine.proofs.Policies.{grows}
use Rattle.machine.proofs.Memories.{View, Fair, sees, sees_condition, releases, visible, seen_visible, visible_declared, hidden_unseen, Agree, agree_refl, agree_sym, agree_trans, wiped_same, write_visible, write_hidden, raised_both, raised_hidden}

abbrev log_of : Outcome → List Release
log_of (done n m l) = l
log_of (spent m l) = l

log_after : (l : List Release) (o : Outcome) → log_of (after l o) ≡ l ++ log_of o
log_after l (done n m k) = refl
log_after l (spent m k) = refl

module _ (V : View) where
  releases_append : (l k : List Release) → releases V (l ++ k) ≡ releases V l ++ releases V k
  releases_append [] k = refl
  releases_append (r ∷ l) k = go (sees V r.target) (releases_append l k)
    where
      go : (b : Bool) → releases V (l ++ k) ≡ releases V l ++ releases V k
          → cond b (r.value ∷ releases V (l ++ k)) (releases V (l ++ k)) ≡ cond b (r.value ∷ releases V l) (releases V l) ++ releases V k
      go true e = ap (λ x. r.value ∷ x) e
      go false e = e

  -- something in the context cannot be seen
  data Secret (pc : Context) : Type 0 where
    by_variable : (v : ℕ) → pc.variables v ≡ true → sees V v ≡ false → Secret pc
    by_condition : (c : ℕ) → pc.conditions c ≡ true → sees_condition V c ≡ false → Secret pc

  more_variable : (b : ℕ) (pc : Context) → Secret pc → Secret (under_variable b pc)
  more_variable b pc (by_variable v h o) = by_variable v (or_right (eqb v b) (pc.variables v) h) o
  more_variable b pc (by_condition c h o) = by_condition c h o

  more_conditions : (s : Set) (pc : Context) → Secret pc → Secret (under_conditions s pc)
  more_conditions s pc (by_variable v h o) = by_variable v h o
  more_conditions s pc (by_condition c h o) = by_condition c (or_right (s c) (pc.conditions c) h) o

  -- an outcome that took no turn, stored nothing that can be seen and left the memory alike
  abbrev Quiet : ℕ → Memory → Outcome → Type 0
  Quiet n m (done k m' l) = (k ≡ n) × Agree V m m' × (releases V l ≡ [])
  Quiet n m (spent m' l) = ⊥

  quiet_after : (n k : ℕ) (m m' : Memory) (l : List Release) (o : Outcome) → k ≡ n → Agree V m m' → releases V l ≡ [] → Quiet k m' o → Quiet n m (after l o)
  quiet_after n k m m' l (done j m'' l') e a z q = (q.0 ∙ e, agree_trans V a q.1, releases_append l l' ∙ ap (λ x. x ++ releases V l') z ∙ q.2)
  quiet_after n k m m' l (spent m'' l') e a z q = q

  quiet_then : (n : ℕ) (m : Memory) (o : Outcome) (f : ℕ → Memory → Outcome) → Quiet n m o → ((k : ℕ) (m' : Memory) → Quiet k m' (f k m')) → Quiet n m (and_then o f)
  quiet_then n m (done k m' l) f q h = quiet_after n k m m' l (f k m') q.0 q.1 q.2 (h k m')
  quiet_then n m (spent m' l) f q h = q

  -- two outcomes alike
  abbrev Match : Outcome → Outcome → Type 0
  Match (done n m l) (done k m' l') = (n ≡ k) × Agree V m m'
  Match (done n m l) (spent m' l') = ⊥
  Match (spent m l) (done k m' l') = ⊥
  Match (spent m l) (spent m' l') = Agree V m m'

  -- Two outcomes alike, unless what permits stored tells them apart; r and r' are what permits store later.
  abbrev pub Track : Outcome → Outcome → Type 0
  Track o o' = (r r' : List ℤ) → releases V (log_of o) ++ r ≡ releases V (log_of o') ++ r' → Match o o' × (r ≡ r')

  match_after : (l l' : List Release) (o o' : Outcome) → Match o o' → Match (after l o) (after l' o')
  match_after l l' (done n m k) (done n' m' k') h = h
  match_after l l' (done n m k) (spent m' k') h = h
  match_after l l' (spent m k) (done n' m' k') h = h
  match_after l l' (spent m k) (spent m' k') h = h

  track_done : (n : ℕ) {m m' : Memory} → Agree V m m' → Track (done n m []) (done n m' [])
  track_done n a r r' e = ((refl, a), e)

  track_spent : {m m' : Memory} → Agree V m m' → Track (spent m []) (spent m' [])
  track_spent a r r' e = (a, e)

  track_quiet : (n : ℕ) (m m' : Memory) (o o' : Outcome) → Agree V m m' → Quiet n m o → Quiet n m' o' → Track o o'
  track_quiet n m m' (done k m₁ l) (done k' m₁' l') a q q' r r' e = (
    (q.0 ∙ sym q'.0, agree_trans V (agree_sym V q.1) (agree_trans V a q'.1)),
    sym (ap (λ x. x ++ r) q.2) ∙ e ∙ ap (λ x. x ++ r') q'.2,
  )
  track_quiet n m m' (done k m₁ l) (spent m₁' l') a q q' r r' e = absurd q'
  track_quiet n m m' (spent m₁ l) o' a q q' r r' e = absurd q

  -- what was stored before, moved to what is stored later
  regroup : (l : List Release) (o : Outcome) (r : List ℤ) → releases V (log_of (after l o)) ++ r ≡ releases V l ++ (releases V (log_of o) ++ r)
  regroup l o r =
      ap (λ x. releases V x ++ r) (log_after l o) ∙ ap (λ x. x ++ r) (releases_append l (log_of o)) ∙ append_assoc (releases V l) (releases V (log_of o)) r

  track_then : (o o' : Outcome) (f f' : ℕ → Memory → Outcome) → Track o o' → ((n : ℕ) (m m' : Memory) → Agree V m m' → Track (f n m) (f' n m')) → Track (and_then o f) (and_then o' f')
  track_then (done n m l) (done n' m' l') f f' t h r r' e =
      let q = t (releases V (log_of (f n m)) ++ r) (releases V (log_of (f' n' m')) ++ r') (sym (regroup l (f n m) r) ∙ e ∙ regroup l' (f' n' m') r') in
      let u : Track (f n m) (f' n' m') = subst (λ (k : ℕ). Track (f n m) (f' k m')) q.0.0 (h n m m' q.0.1) in
      let v = u r r' q.1 in
      (match_after l l' (f n m) (f' n' m') v.0, v.1)
  track_then (done n m l) (spent m' l') f f' t h r r' e = absurd (t (releases V (log_of (f n m)) ++ r) r' (sym (regroup l (f n m) r) ∙ e)).0
  track_then (spent m l) (done n' m' l') f f' t h r r' e = absurd (t r (releases V (log_of (f' n' m')) ++ r') (e ∙ regroup l' (f' n' m') r')).0
  track_then (spent m l) (spent m' l') f f' t h r r' e = t r r' e

  track_branch : (t t' : Bool) → t ≡ t' → (x y x' y' : Outcome) → Track x x' → Track y y' → Track (elim t [ true ↦ x | false ↦ y ]) (elim t' [ true ↦ x' | false ↦ y' ])
  track_branch true true e x y x' y' h k = h
  track_branch true false e x y x' y' h k = absurd (true≢false e)
  track_branch false true e x y x' y' h k = absurd (false≢true e)
  track_branch false false e x y x' y' h k = k

  -- a test that is the same for both, or else decides over quiet outcomes only
  track_test : (seen : Bool) (n : ℕ) (m m' : Memory) → Agree V m m' → (t t' : Bool) (x y x' y' : Outcome) → (seen ≡ true → t ≡ t')
      → (seen ≡ false → Quiet n m x × Quiet n m y × Quiet n m' x' × Quiet n m' y') → Track x x' → Track y y'
      → Track (elim t [ true ↦ x | false ↦ y ]) (elim t' [ true ↦ x' | false ↦ y' ])
  track_test true n m m' a t t' x y x' y' e q h k = track_branch t t' (e refl) x y x' y' h k
  track_test false n m m' a t t' x y x' y' e q h k =
      track_quiet n m m' _ _ a (branch (Quiet n m) t x y (q refl).0 (q refl).1) (branch (Quiet n m') t' x' y' (q refl).2 (q refl).3)

module _ {V : View} (F : Fair V) where
  -- a secret reaches nothing that can be seen
  secret_reach : (pc : Context) (p : Policy) → Secret V pc → ContextFlowsTo V.lattice V.sheet pc p
      → Below V.lattice (level_under V.lattice V.observer.set p) V.observer.level → Below V.lattice (present_level V.lattice p) V.observer.level → ⊥
  secret_reach pc p (by_variable v h o) f k k' = true≢false (sym (below_trans F.lawful _ _ _ (f.variables v h V.observer.set) k) ∙ o)
  secret_reach pc p (by_condition c h o) f k k' = true≢false (sym (below_trans F.lawful _ _ _ (f.conditions c h) k') ∙ o)

  target_unseen : (pc : Context) (a : ℕ) → Secret V pc → HasVariable V.sheet a → ContextFlowsTo V.lattice V.sheet pc (policy_of V.sheet a) → sees V a ≡ false
  target_unseen pc a x d f =
      false_from_ne_true _ (λ e. secret_reach pc (policy_of V.sheet a) x f e (below_trans F.lawful _ _ _ (grows F.lawful V.observer.set (policy_of V.sheet a) (F.sheet.variables a d)) e))

  quiet_write : (n : ℕ) (m : Memory) (a : ℕ) (x : ℤ) → HasVariable V.sheet a → sees V a ≡ false → Quiet V n m (done n (write V.sheet a x m) [])
  quiet_write n m a x d o = (refl, write_hidden F m a x (visible_declared V a d ∙ o), refl)

  quiet_release : (n : ℕ) (m : Memory) (a b p : ℕ) → HasVariable V.sheet a → sees V a ≡ false → Quiet V n m (run V.sheet (release a b p) n m)
  quiet_release n m a b p d o = (refl, write_hidden F m a x (visible_declared V a d ∙ o), go (wiped_by m.up (policy_of V.sheet a)))
    where
      x : ℤ
      x = released V.sheet b p m

      go : (w : Bool) → releases V (cond w [] (record { target = a; value = x } ∷ [])) ≡ []
      go true = refl
      go false = ap (λ t. cond t (x ∷ []) []) o

  -- under a secret, nothing that can be seen happens
  quiet : (c : Command) (pc : Context) → Secret V pc → WellTyped V.lattice V.sheet pc c → (n : ℕ) (m : Memory) → Quiet V n m (run V.sheet c n m)
  quiet skip pc x w n m = (refl, agree_refl V m, refl)
  quiet (c ⨾ d) pc x w n m = quiet_then V n m (run V.sheet c n m) (run V.sheet d) (quiet c pc x w.0 n m) (quiet d pc x w.1)
  quiet (set a y) pc x w n m = quiet_write n m a y w.0 (target_unseen pc a x w.0 w.1)
  quiet (combine s a b c) pc x w n m = quiet_write n m a (calculate s (m.values b) (m.values c)) w.0 (target_unseen pc a x w.0 w.3)
  quiet (release a b p) pc x w n m =
      let s = members (permit_at V.sheet p).conditions in
      quiet_release n m a b p w.0 (target_unseen (under_conditions s pc) a (more_conditions V s pc x) w.0 w.3)
  quiet (raise c) pc x w n m = (refl, raised_hidden F m c (false_from_ne_true _ (λ e. secret_reach pc (leaf (level_of V.sheet c)) x w.1 e e)), refl)
  quiet (if_variable b c d) pc x w n m =
      let y = more_variable V b pc x in
      branch (Quiet V n m) (is_zero (m.values b)) _ _ (quiet d (under_variable b pc) y w.2 n m) (quiet c (under_variable b pc) y w.1 n m)
  quiet (if_condition a c d) pc x w n m =
      let y = more_conditions V (λ i. eqb i a) pc x in
      branch (Quiet V n m) (m.up a) _ _ (quiet c (under_condition a pc) y w.1 n m) (quiet d (under_condition a pc) y w.2 n m)
  quiet (while b c) pc x w n m =
      let k = F.lawful.lowest_below _ F.level in
      absurd (secret_reach (under_variable b pc) (leaf V.lattice.lowest) (more_variable V b pc x) w.1 k k)

  track_write : (n : ℕ) (m m' : Memory) (v : ℕ) (x y : ℤ) → HasVariable V.sheet v → (sees V v ≡ true → x ≡ y) → Agree V m m'
      → Track V (done n (write V.sheet v x m) []) (done n (write V.sheet v y m') [])
  track_write n m m' v x y d e a = go (sees V v) refl
    where
      go : (t : Bool) → sees V v ≡ t → Track V (done n (write V.sheet v x m) []) (done n (write V.sheet v y m') [])
      go true o = track_done V n (write_visible F m m' v x y (seen_visible V v o) (e o) a)
      go false o = track_quiet V n m m' (done n (write V.sheet v x m) []) (done n (write V.sheet v y m') []) a (quiet_write n m v x d o) (quiet_write n m' v y d o)

  -- a permit's write: alike as soon as the values stored are
  track_release : (n : ℕ) (m m' : Memory) (a b p : ℕ) → HasVariable V.sheet a → Agree V m m' → Track V (run V.sheet (release a b p) n m) (run V.sheet (release a b p) n m')
  track_release n m m' a b p d a₀ = which (sees V a) refl
    where
      x : ℤ
      x = released V.sheet b p m

      x' : ℤ
      x' = released V.sheet b p m'

      put : Memory → ℤ → Memory
      put k y = record { values = update a y k.values; up = k.up }

      outcome : Bool → Memory → ℤ → Outcome
      outcome w k y = done n (cond w k (put k y)) (cond w [] (record { target = a; value = y } ∷ []))

      one : ℤ → Bool → List ℤ
      one y t = cond t (y ∷ []) []

      visibly : sees V a ≡ true → (w w' : Bool) → wiped_by m.up (policy_of V.sheet a) ≡ w → wiped_by m'.up (policy_of V.sheet a) ≡ w' → w ≡ w'
          → Track V (outcome w m x) (outcome w' m' x')
      visibly o true true _ _ _ q q' e = ((refl, a₀), e)
      visibly o true false _ _ z q q' e = absurd (true≢false z)
      visibly o false true _ _ z q q' e = absurd (false≢true z)
      visibly o false false f f' _ q q' e =
          let e' : (x ∷ q) ≡ (x' ∷ q') = sym (ap (λ t. one x t ++ q) o) ∙ e ∙ ap (λ t. one x' t ++ q') o in
          let ex : x ≡ x' = cc in
          let er : q ≡ q' = cc in
          let both = write_visible F m m' a x x' (seen_visible V a o) ex a₀ in
          ((refl, subst₂ (λ (w w' : Bool). Agree V (cond w m (put m x)) (cond w' m' (put m' x'))) f f' both), er)

      which : (t : Bool) → sees V a ≡ t → Track V (run V.sheet (release a b p) n m) (run V.sheet (release a b p) n m')
      which true o = visibly o (wiped_by m.up (policy_of V.sheet a)) (wiped_by m'.up (policy_of V.sheet a)) refl refl (wiped_same F m m' a (seen_visible V a o) a₀)
      which false o = track_quiet V n m m' (run V.sheet (release a b p) n m) (run V.sheet (release a b p) n m') a₀ (quiet_release n m a b p d o) (quiet_release n m' a b p d o)

  track_loop : (b : ℕ) (body : ℕ → Memory → Outcome) → visible V b ≡ true → ((n : ℕ) (m m' : Memory) → Agree V m m' → Track V (body n m) (body n m'))
      → (bound n : ℕ) (m m' : Memory) → Agree V m m' → Track V (loop bound b body n m) (loop bound b body n m')
  track_loop b body o h zero n m m' a =
      track_branch V (is_zero (m.values b)) (is_zero (m'.values b)) (ap is_zero (a.values b o)) _ _ _ _ (track_done V n a) (track_spent V a)
  track_loop b body o h (suc bound) n m m' a =
      let turn : (k : ℕ) → Memory → Outcome = λ k i. elim k [ zero ↦ spent i [] | suc j ↦ and_then (body j i) (loop bound b body) ] in
      let again : (k : ℕ) → Track V (turn k m) (turn k m') =
      elim [ zero ↦ track_spent V a | suc j ↦ track_then V (body j m) (body j m') (loop bound b body) (loop bound b body) (h j m m' a) (track_loop b body o h bound) ] in
      track_branch V (is_zero (m.values b)) (is_zero (m'.values b)) (ap is_zero (a.values b o)) _ (turn n m) _ (turn n m') (track_done V n a) (again n)

  -- two runs of one program on memories that agree
  pub track : (c : Command) (pc : Context) → WellTyped V.lattice V.sheet pc c → (n : ℕ) (m m' : Memory) → Agree V m m' → Track V (run V.sheet c n m) (run V.sheet c n m')
  track skip pc w n m m' a = track_done V n a
  track (c ⨾ d) pc w n m m' a = track_then V (run V.sheet c n m) (run V.sheet c n m') (run V.sheet d) (run V.sheet d) (track c pc w.0 n m m' a) (track d pc w.1)
  track (set v x) pc w n m m' a = track_write n m m' v x x w.0 (λ o. refl) a
  track (combine s v b c) pc w n m m' a = track_write n m m' v _ _ w.0 (λ o. ap₂ (calculate s) (read b w.4 o) (read c w.5 o)) a
    where
      read : (i : ℕ) → FlowsTo V.lattice (policy_of V.sheet i) (policy_of V.sheet v) → sees V v ≡ true → m.values i ≡ m'.values i
      read i f o = a.values i (seen_visible V i (below_trans F.lawful _ _ _ (f V.observer.set) o))
  track (release v b p) pc w n m m' a = track_release n m m' v b p w.0 a
  track (raise c) pc w n m m' a = track_done V n (raised_both F m m' c a)
  track (if_variable b c d) pc w n m m' a =
      track_test V (visible V b) n m m' a (is_zero (m.values b)) (is_zero (m'.values b)) _ _ _ _ (λ o. ap is_zero (a.values b o))
      (λ o.
      let x = by_variable b (or_left (eqb b b) (pc.variables b) (eq-eqb b b refl)) (hidden_unseen V b o) in
      (quiet d under x w.2 n m, quiet c under x w.1 n m, quiet d under x w.2 n m', quiet c under x w.1 n m'))
      (track d under w.2 n m m' a) (track c under w.1 n m m' a)
    where
      under : Context
      under = under_variable b pc
  track (if_condition b c d) pc w n m m' a =
      track_test V (sees_condition V b) n m m' a (m.up b) (m'.up b) _ _ _ _ (a.up b)
      (λ o.
      let x = by_condition b (or_left (eqb b b) (pc.conditions b) (eq-eqb b b refl)) o in
      (quiet c under x w.1 n m, quiet d under x w.2 n m, quiet c under x w.1 n m', quiet d under x w.2 n m'))
      (track c under w.1 n m m' a) (track d under w.2 n m m' a)
    where
      under : Context
      under = under_condition b pc
  track (while b c) pc w n m m' a =
      let tested = below_trans F.lawful _ _ _ (w.1.variables b (or_left (eqb b b) (pc.variables b) (eq-eqb b b refl)) V.observer.set) (F.lawful.lowest_below _ F.level) in
      track_loop b (run V.sheet c) (seen_visible V b tested) (track c (under_variable b pc) w.2) n n m m' a
