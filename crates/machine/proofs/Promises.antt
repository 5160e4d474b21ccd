-- The promises are kept.
use Rattle.std.proofs.Common.{◌≡◌, ℕ, Bool, true, false, cond, sym, refl, ap, ◌∙◌, subst}
use mathlib.Core.Path.{fun_ext}
use Rattle.lattice.specs.Lattice.{Known, Lawful}
use Rattle.policy.specs.Policy.{Set, none}
use Rattle.sheet.specs.Sheet.{Sheet, policy_of, declared_variable}
use Rattle.machine.specs.Memory.{Memory}
use Rattle.machine.specs.Machine.{Readers, System, State, bare, final}
use Rattle.machine.specs.Promises.{AllUp, SoundReaders, SameKind, observing, HiddenCallsLeaveNoTrace, WipedValuesLeaveNoTrace, HiddenLeaveNoTrace, WipedLeaveNoTrace}
use Rattle.machine.proofs.Policies.{lifted_wiped, wiped_more}
use Rattle.machine.proofs.Memories.{visible, sees, Agree}
use Rattle.machine.proofs.Wiping.{Clean, CleanState, clean_final}
use Rattle.machine.proofs.Steps.{Setting, view_of, Twin, bares, readies}
use Rattle.machine.proofs.Histories.{follow}
use Rattle.machine.proofs.SameOrders.{same_lattice}

module _ (S : System) (level : ℕ) (s : Set) where
  -- with the whole set up, what only the set hid is zero
  uncovered : (sh : Sheet) (m m' : Memory) → ((c : ℕ) → s c ≡ true → m.up c ≡ true) → ((c : ℕ) → s c ≡ true → m'.up c ≡ true) → Clean sh m → Clean sh m'
      → Agree (view_of S (observing level s) sh) m m' → Agree (view_of S (observing level none) sh) m m'
  uncovered sh m m' u u' z z' a = record { values = λ v h. go v (declared_variable sh v) (before v) refl refl h; up = a.up }
    where
      before : ℕ → Bool
      before v = sees (view_of S (observing level s) sh) v

      now : ℕ → Bool
      now v = sees (view_of S (observing level none) sh) v

      go : (v : ℕ) (d b : Bool) → declared_variable sh v ≡ d → before v ≡ b → visible (view_of S (observing level none) sh) v ≡ true → m.values v ≡ m'.values v
      go v true true d o h = a.values v (ap (λ x. cond x (before v) true) d ∙ o)
      go v true false d o h =
          let below = sym (ap (λ x. cond x (now v) true) d) ∙ h in
          let w = lifted_wiped S.lattice level s (policy_of sh v) below o in
          z v (wiped_more s m.up (policy_of sh v) u w) ∙ sym (z' v (wiped_more s m'.up (policy_of sh v) u' w))
      go v false b d o h = a.values v (ap (λ x. cond x (before v) true) d)

  uncover : {st st' : State} → Twin S (observing level s) st st' → AllUp s st → AllUp s st' → CleanState st → CleanState st' → Twin S (observing level none) st st'
  uncover bares u u' z z' = bares
  uncover (readies {sh = sh} {p = p} {m = m} {m' = m'} A w a) u u' z z' = readies {p = p} A w (uncovered sh m m' u u' z z' a)

-- the promises on two given systems
module _ (S : System) (W : Lawful S.lattice) (R : SoundReaders S.readers) where
  setting : (level : ℕ) (s : Set) → Known S.lattice level → Setting S (observing level s)
  setting level s K = record { lawful = W; readers = R; level = K }

  hides : HiddenLeaveNoTrace S S
  hides level K s cs ds a = (follow (setting level s K) cs ds bare bare bares a.calls a.releases).answers

  forgets : WipedLeaveNoTrace S S
  forgets level K s cs ds cs' ds' u u' a a' =
      let f = follow (setting level s K) cs ds bare bare bares a.calls a.releases in
      let t = uncover S level s f.twin u u' (clean_final S bare cs tt) (clean_final S bare ds tt) in
      (follow (setting level none K) cs' ds' (final S bare cs) (final S bare ds) t a'.calls a'.releases).answers

module _ (R : Readers) (sound : SoundReaders R) where
  sound_here : {S T : System} → SameKind R S T → SoundReaders S.readers
  sound_here k = subst SoundReaders (sym k.readers) sound

  -- two boxes of one kind stand on the same system
  same_system : {S T : System} → SameKind R S T → S ≡ T
  same_system k = λ i. record {
    lattice = same_lattice k.lawful k.lawful' k.order i;
    readers = (k.readers ∙ sym k.readers') i;
    image = fun_ext k.image i;
  }

  pub hidden_calls : HiddenCallsLeaveNoTrace R
  hidden_calls S T k = subst (HiddenLeaveNoTrace S) (same_system k) (hides S k.lawful (sound_here k))

  pub wiped_values : WipedValuesLeaveNoTrace R
  wiped_values S T k = subst (WipedLeaveNoTrace S) (same_system k) (forgets S k.lawful (sound_here k))
