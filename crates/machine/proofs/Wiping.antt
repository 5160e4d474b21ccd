-- While a condition that wipes a variable is up, the variable is zero: at the start, and after every command and every call.
use Rattle.std.proofs.Common.{◌≡◌, ℕ, Bool, true, false, cond, eqb, List, [], ◌∷◌, ℤ, pos, sym, refl, ◌∙◌}
use mathlib.Core.Bool.{false≢true}
use mathlib.Core.Option.{Option, none, some}
use Rattle.records.specs.Rules.{Reading, accepted, refused}
use Rattle.policy.specs.Policy.{wipes, wiped_by}
use Rattle.sheet.specs.Sheet.{Sheet, policy_of}
use Rattle.machine.specs.Command.{Command}
use Rattle.machine.specs.Memory.{Memory, update, write, raised, lowered}
use Rattle.machine.specs.Run.{Release, Outcome, done, spent, after, and_then, run}
use Rattle.machine.specs.Calls.{Call}
use Rattle.machine.specs.Machine.{System, State, bare, ready, begun, loaded, ended, passed, rules_of, effect, first_step, step, final}
use Rattle.machine.specs.Promises.{Wiped, WipedWhileUp}
use Rattle.machine.proofs.Asking.{asked_keeps}
use Rattle.machine.proofs.EveryRun.{every_run}
use Rattle.machine.proofs.Memories.{update_elsewhere}
use Rattle.machine.proofs.Policies.{wiped_more, wiped_alike, wiped_one}

abbrev pub Clean : Sheet → Memory → Type 0
Clean sh m = (v : ℕ) → wiped_by m.up (policy_of sh v) ≡ true → m.values v ≡ pos 0

module _ (sh : Sheet) where
  clean_write : (a : ℕ) (x : ℤ) (m : Memory) → Clean sh m → Clean sh (write sh a x m)
  clean_write a x m h = go (wiped_by m.up (policy_of sh a)) refl
    where
      go : (w : Bool) → wiped_by m.up (policy_of sh a) ≡ w → Clean sh (cond w m (record { values = update a x m.values; up = m.up }))
      go true e = h
      go false e = λ v k. sym (update_elsewhere (λ i. wiped_by m.up (policy_of sh i)) m.values a x e v k) ∙ h v k

  clean_raised : (c : ℕ) (m : Memory) → Clean sh m → Clean sh (raised sh c m)
  clean_raised c m h v k = go (wipes c (policy_of sh v)) refl
    where
      go : (b : Bool) → wipes c (policy_of sh v) ≡ b → cond b (pos 0) (m.values v) ≡ pos 0
      go true e = refl
      go false e = h v (wiped_alike m.up (update c true m.up) (policy_of sh v) (update_elsewhere (λ i. wipes i (policy_of sh v)) m.up c true e) ∙ k)

  clean_lowered : (c : ℕ) (m : Memory) → Clean sh m → Clean sh (lowered c m)
  clean_lowered c m h v k = h v (wiped_more (update c false m.up) m.up (policy_of sh v) (λ d u. entry d (eqb d c) u) k)
    where
      entry : (d : ℕ) (b : Bool) → cond b false (m.up d) ≡ true → m.up d ≡ true
      entry d true e = absurd (false≢true e)
      entry d false e = e

  abbrev CleanEnd : Outcome → Type 0
  CleanEnd (done n m l) = Clean sh m
  CleanEnd (spent m l) = Clean sh m

  clean_after : (l : List Release) (o : Outcome) → CleanEnd o → CleanEnd (after l o)
  clean_after l (done n m k) h = h
  clean_after l (spent m k) h = h

  clean_then : (o : Outcome) (f : ℕ → Memory → Outcome) → CleanEnd o → ((n : ℕ) (m : Memory) → Clean sh m → CleanEnd (f n m)) → CleanEnd (and_then o f)
  clean_then (done n m l) f h k = clean_after l (f n m) (k n m h)
  clean_then (spent m l) f h k = h

  clean_run : (c : Command) (n : ℕ) (m : Memory) → Clean sh m → CleanEnd (run sh c n m)
  clean_run = every_run sh {P = λ n m o. Clean sh m → CleanEnd o} (record {
    ends = λ n m h. h;
    stops = λ n m h. h;
    writes = λ n a x m l. clean_write a x m;
    raises = λ n c m. clean_raised c m;
    turns = λ n m o h. h;
    goes_on = λ n m o f h k clean. clean_then o f (h clean) k;
  })

abbrev pub CleanState : State → Type 0
CleanState bare = Unit {0}
CleanState (ready sh p m) = Clean sh m

clean_begun : (r : Reading Sheet) → CleanState (begun r).next
clean_begun (refused r) = tt
clean_begun (accepted sh) = λ v h. refl

clean_loaded : (sh : Sheet) (p : Option Command) (m : Memory) (xs : List ℕ) (r : Reading Command) → Clean sh m → CleanState (loaded sh p m xs r).next
clean_loaded sh p m xs (refused r) h = h
clean_loaded sh p m xs (accepted c) h = h

clean_ended : (sh : Sheet) (c : Command) (n : ℕ) (o : Outcome) → CleanEnd sh o → CleanState (ended sh c n o).next
clean_ended sh c n (done k m l) h = h
clean_ended sh c n (spent m l) h = h

clean_passed : (sh : Sheet) (p : Option Command) (m : Memory) (n : ℕ) → Clean sh m → CleanState (passed sh p m n).next
clean_passed sh none m n h = h
clean_passed sh (some c) m n h = clean_ended sh c n (run sh c n m) (clean_run sh c n m h)

clean_first : (S : System) (c : Call) → CleanState (first_step S c).next
clean_first S (Call.sheet xs) = clean_begun (S.readers.sheet S.lattice xs)
clean_first S (Call.load xs) = tt
clean_first S (Call.feed v x) = tt
clean_first S (Call.raise c) = tt
clean_first S (Call.lower c) = tt
clean_first S (Call.pass n) = tt
clean_first S (Call.look l v) = tt
clean_first S (Call.ask l c) = tt
clean_first S (Call.image l size) = tt

clean_effect : (S : System) (sh : Sheet) (p : Option Command) (m : Memory) (c : Call) → Clean sh m → CleanState (effect S sh p m c).next
clean_effect S sh p m (Call.sheet xs) h = h
clean_effect S sh p m (Call.load xs) h = clean_loaded sh p m xs (S.readers.program S.lattice sh xs) h
clean_effect S sh p m (Call.feed v x) h = clean_write sh v x m h
clean_effect S sh p m (Call.raise c) h = clean_raised sh c m h
clean_effect S sh p m (Call.lower c) h = clean_lowered sh c m h
clean_effect S sh p m (Call.pass n) h = clean_passed sh p m n h
clean_effect S sh p m (Call.look l v) h = h
clean_effect S sh p m (Call.ask l c) h = h
clean_effect S sh p m (Call.image l size) h = h

clean_step : (S : System) (st : State) (c : Call) → CleanState st → CleanState (step S st c).next
clean_step S bare c h = clean_first S c
clean_step S (ready sh p m) c h = asked_keeps (λ t. CleanState t.next) (ready sh p m) (rules_of S sh m c) (effect S sh p m c) (λ r. h) (clean_effect S sh p m c h)

pub clean_final : (S : System) (st : State) (cs : List Call) → CleanState st → CleanState (final S st cs)
clean_final S st [] h = h
clean_final S st (c ∷ cs) h = clean_final S (step S st c).next cs (clean_step S st c h)

clean_wiped : (st : State) → CleanState st → Wiped st
clean_wiped bare h = tt
clean_wiped (ready sh p m) h = λ v c w u. h v (wiped_one c m.up (policy_of sh v) w u)

pub wiped_while_up : WipedWhileUp
wiped_while_up S cs = clean_wiped (final S bare cs) (clean_final S bare cs tt)
