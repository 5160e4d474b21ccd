-- Low equivalence: two memories that an observer cannot tell apart, and what keeps them so.
use Rattle.std.proofs.Common.{◌≡◌, ℕ, Bool, true, false, cond, eqb, List, length, ℤ, pos, sym, refl, ap, ◌∙◌, true≢false}
use mathlib.Core.Bool.{false≢true}
use mathlib.Core.Path.{fun_ext}
use lib.ListN.{get_or-eq_default}
use Rattle.std.proofs.lemmas.Bool.{both_ways, ltb-false, eqb-true}
use Rattle.lattice.specs.Lattice.{Lattice, Lawful, Known}
use Rattle.policy.specs.Policy.{leaf, wipes, wiped_by}
use Rattle.sheet.specs.Sheet.{Sheet, Variable, policy_of, declared_variable}
use Rattle.machine.specs.SoundSheet.{SoundSheet, HasVariable}
use Rattle.machine.specs.Memory.{Memory, update, write, raised, lowered}
use Rattle.machine.specs.Run.{Release}
use Rattle.machine.specs.Observation.{Observer, observable_variable, observable_condition, released_in}
use Rattle.policy.proofs.Orders.{below_trans}
use Rattle.machine.proofs.Policies.{grows, wiped_alike}

-- memories are equal where all values and all conditions are
pub memory_ext : (m n : Memory) → ((v : ℕ) → m.values v ≡ n.values v) → ((c : ℕ) → m.up c ≡ n.up c) → m ≡ n
memory_ext m n h k = λ i. record { values = fun_ext h i; up = fun_ext k i }

-- an update at a number that fails a test leaves those that pass it
pub update_elsewhere : {A : Type 0} (test : ℕ → Bool) (f : ℕ → A) (a : ℕ) (x : A) → test a ≡ false → (n : ℕ) → test n ≡ true → f n ≡ update a x f n
update_elsewhere test f a x failed n passed = go (eqb n a) refl
  where
    go : (b : Bool) → eqb n a ≡ b → f n ≡ cond b x (f n)
    go true e = absurd (both_ways _ failed (ap test (sym (eqb-true n a e)) ∙ passed))
    go false e = refl

-- what an observer sees of a box with a sheet
pub record View : Type 0 where
  pub lattice : Lattice
  pub observer : Observer
  pub sheet : Sheet

pub record Fair (V : View) : Type 0 where
  pub lawful : Lawful V.lattice
  pub level : Known V.lattice V.observer.level
  pub sheet : SoundSheet V.lattice V.sheet

module _ (V : View) where
  abbrev pub sees : ℕ → Bool
  sees v = observable_variable V.lattice V.observer V.sheet v

  abbrev pub sees_condition : ℕ → Bool
  sees_condition c = observable_condition V.lattice V.observer V.sheet c

  abbrev pub releases : List Release → List ℤ
  releases rs = released_in V.lattice V.observer V.sheet rs

  -- what is not declared holds zero, so it shows nothing
  abbrev pub visible : ℕ → Bool
  visible v = cond (declared_variable V.sheet v) (sees v) true

  pub record Agree (m n : Memory) : Type 0 where
    pub values : (v : ℕ) → visible v ≡ true → m.values v ≡ n.values v
    pub up : (c : ℕ) → sees_condition c ≡ true → m.up c ≡ n.up c

  pub agree_refl : (m : Memory) → Agree m m
  agree_refl m = record { values = λ v h. refl; up = λ c h. refl }

  pub agree_sym : {m n : Memory} → Agree m n → Agree n m
  agree_sym a = record { values = λ v h. sym (a.values v h); up = λ c h. sym (a.up c h) }

  pub agree_trans : {m n k : Memory} → Agree m n → Agree n k → Agree m k
  agree_trans a b = record { values = λ v h. a.values v h ∙ b.values v h; up = λ c h. a.up c h ∙ b.up c h }

  pub seen_visible : (v : ℕ) → sees v ≡ true → visible v ≡ true
  seen_visible v o = elim (declared_variable V.sheet v) as (λ d. cond d (sees v) true ≡ true) [ true ↦ o | false ↦ refl ]

  pub hidden_unseen : (v : ℕ) → visible v ≡ false → sees v ≡ false
  hidden_unseen v h = go (declared_variable V.sheet v) h
    where
      go : (d : Bool) → cond d (sees v) true ≡ false → sees v ≡ false
      go true e = e
      go false e = absurd (true≢false e)

  pub visible_declared : (v : ℕ) → HasVariable V.sheet v → visible v ≡ sees v
  visible_declared v d = ap (λ b. cond b (sees v) true) d

module _ {V : View} (F : Fair V) where
  -- what wipes a visible variable can be seen
  pub seen_wipers : (v c : ℕ) → visible V v ≡ true → wipes c (policy_of V.sheet v) ≡ true → sees_condition V c ≡ true
  seen_wipers v c o h = go (declared_variable V.sheet v) refl o
    where
      go : (d : Bool) → declared_variable V.sheet v ≡ d → cond d (sees V v) true ≡ true → sees_condition V c ≡ true
      go true e k =
          below_trans F.lawful _ _ _ (F.sheet.wipers v c e h)
          (below_trans F.lawful _ _ _ (grows F.lawful V.observer.set (policy_of V.sheet v) (F.sheet.variables v e)) k)
      go false e k =
          let undeclared = get_or-eq_default V.sheet.variables (record { policy = leaf 0; fed = false }) (ltb-false v (length V.sheet.variables) e) in
          absurd (false≢true (sym (ap (λ (x : Variable). wipes c x.policy) undeclared) ∙ h))

  pub wiped_same : (m n : Memory) (v : ℕ) → visible V v ≡ true → Agree V m n → wiped_by m.up (policy_of V.sheet v) ≡ wiped_by n.up (policy_of V.sheet v)
  wiped_same m n v o a = wiped_alike m.up n.up (policy_of V.sheet v) (λ c h. a.up c (seen_wipers v c o h))

  pub write_visible : (m n : Memory) (v : ℕ) (x y : ℤ) → visible V v ≡ true → x ≡ y → Agree V m n → Agree V (write V.sheet v x m) (write V.sheet v y n)
  write_visible m n v x y o e a = go (wiped_by m.up (policy_of V.sheet v)) (wiped_by n.up (policy_of V.sheet v)) (wiped_same m n v o a)
    where
      put : Memory → ℤ → Memory
      put k z = record { values = update v z k.values; up = k.up }

      entry : (w : ℕ) → visible V w ≡ true → (b : Bool) → cond b x (m.values w) ≡ cond b y (n.values w)
      entry w h true = e
      entry w h false = a.values w h

      go : (b c : Bool) → b ≡ c → Agree V (cond b m (put m x)) (cond c n (put n y))
      go true true _ = a
      go true false q = absurd (true≢false q)
      go false true q = absurd (false≢true q)
      go false false _ = record { values = λ w h. entry w h (eqb w v); up = a.up }

  pub write_hidden : (m : Memory) (v : ℕ) (x : ℤ) → visible V v ≡ false → Agree V m (write V.sheet v x m)
  write_hidden m v x o = go (wiped_by m.up (policy_of V.sheet v))
    where
      go : (b : Bool) → Agree V m (cond b m (record { values = update v x m.values; up = m.up }))
      go true = agree_refl V m
      go false = record { values = update_elsewhere (visible V) m.values v x o; up = λ c h. refl }

  pub raised_both : (m n : Memory) (c : ℕ) → Agree V m n → Agree V (raised V.sheet c m) (raised V.sheet c n)
  raised_both m n c a = record {
    values = λ v h. ap (λ x. cond (wipes c (policy_of V.sheet v)) (pos 0) x) (a.values v h);
    up = λ d h. ap (λ x. cond (eqb d c) true x) (a.up d h);
  }

  pub lowered_both : (m n : Memory) (c : ℕ) → Agree V m n → Agree V (lowered c m) (lowered c n)
  lowered_both m n c a = record { values = a.values; up = λ d h. ap (λ x. cond (eqb d c) false x) (a.up d h) }

  pub raised_hidden : (m : Memory) (c : ℕ) → sees_condition V c ≡ false → Agree V m (raised V.sheet c m)
  raised_hidden m c o = record { values = λ v h. entry v h (wipes c (policy_of V.sheet v)) refl; up = update_elsewhere (sees_condition V) m.up c true o }
    where
      entry : (v : ℕ) → visible V v ≡ true → (b : Bool) → wipes c (policy_of V.sheet v) ≡ b → m.values v ≡ cond b (pos 0) (m.values v)
      entry v h true e = absurd (true≢false (sym (seen_wipers v c h e) ∙ o))
      entry v h false e = refl

  pub lowered_hidden : (m : Memory) (c : ℕ) → sees_condition V c ≡ false → Agree V m (lowered c m)
  lowered_hidden m c o = record { values = λ v h. refl; up = update_elsewhere (sees_condition V) m.up c false o }
