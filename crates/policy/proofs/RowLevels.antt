-- The level of a row under a set, and the test for flowing. Assumes nothing.
use Rattle.std.proofs.Common.{◌≡◌, ℕ, zero, suc, ◌+◌, ◌^◌, ◌<◌, ◌≤◌, Bool, true, false, cond, ◌&&◌, List, [], ◌∷◌, ◌++◌, length, get_or, drop, Decides, sym, refl, ap, ◌∙◌, subst, add-one, arith, drop-cons}
use lib.Bits.{bit_and}
use Rattle.std.proofs.lemmas.List.{append_assoc, append-nil, drop_all}
use Rattle.std.proofs.lemmas.Bool.{both_ways, eq-eqb, ne_eqb}
use Rattle.lattice.specs.Lattice.{Lattice, Lawful, Known, Below}
use Rattle.policy.specs.declared.row.GuardedLevel.{GuardedLevel}
use Rattle.policy.specs.declared.row.Row.{Row}
use Rattle.policy.specs.Policy.{Set, Policy, leaf, erase, level_under, KnownLevels, ConditionsBelow}
use Rattle.policy.specs.Masks.{members, within}
use Rattle.policy.specs.Rows.{including, guarded_levels, levels_in, no_leaf, Holds}
use Rattle.policy.specs.RowLevels.{join_under, row_level_under, LevelOf, AllKnown, RowFlowsTo, FlowDecided}
use Rattle.policy.proofs.Masks.{within_none, within_itself, within_more, within_including, within_test}
use Rattle.policy.proofs.Orders.{known_left, known_right, below_trans, join_any, below_join, join_least, join_grows, join_assoc, join_lowest}

-- a leaf is below the level that the others have under its guard
abbrev pub LeafBelow : Lattice → List GuardedLevel → GuardedLevel → Type 0
LeafBelow C hs g = Below C g.level (join_under C (members g.guard) C.lowest hs)

abbrev pub LeavesBelow : Lattice → List GuardedLevel → List GuardedLevel → Type 0
LeavesBelow C hs [] = Unit {0}
LeavesBelow C hs (g ∷ gs) = LeafBelow C hs g × LeavesBelow C hs gs

all_leaves : (C : Lattice) (hs gs : List GuardedLevel) → ((k : ℕ) → k < length gs → LeafBelow C hs (get_or gs k no_leaf)) → LeavesBelow C hs gs
all_leaves C hs [] f = tt
all_leaves C hs (g ∷ gs) f = (f 0 (omega arith), all_leaves C hs gs (λ k h. f (suc k) (omega arith)))

leaf_at : (C : Lattice) (hs gs : List GuardedLevel) → LeavesBelow C hs gs → (k : ℕ) → k < length gs → LeafBelow C hs (get_or gs k no_leaf)
leaf_at C hs [] f k h = absurd (omega arith)
leaf_at C hs (g ∷ gs) f zero h = f.0
leaf_at C hs (g ∷ gs) f (suc k) h = leaf_at C hs gs f.1 k (omega arith)

-- a turn of the loop that joins a leaf, and one that passes it by
joined_leaf : (C : Lattice) (s : Set) (a : ℕ) (gs : List GuardedLevel) (i : ℕ) → i < length gs
    → join_under C s a (drop i gs) ≡ join_under C s (cond (within (get_or gs i no_leaf).guard s) (C.join a (get_or gs i no_leaf).level) a) (drop (i + 1) gs)
unfolding join_under
joined_leaf C s a gs i h = rw (add-one, drop-cons gs i no_leaf)

pub leaf_joins : (C : Lattice) (set a b : ℕ) (gs : List GuardedLevel) (i : ℕ) → i < length gs → (get_or gs i no_leaf).guard < 2 ^ 16
    → bit_and (get_or gs i no_leaf).guard set ≡ (get_or gs i no_leaf).guard → b ≡ C.join a (get_or gs i no_leaf).level → join_under C (members set) b (drop (i + 1) gs) ≡ join_under C (members set) a (drop i gs)
leaf_joins C set a b gs i h k e m =
    let x = get_or gs i no_leaf in
    let counts : within x.guard (members set) ≡ true = sym (within_test x.guard set k) ∙ eq-eqb _ _ e in
    ap (λ (y : ℕ). join_under C (members set) y (drop (i + 1) gs)) (m ∙ sym (ap (λ t. cond t (C.join a x.level) a) counts)) ∙ sym (joined_leaf C (members set) a gs i h)

pub leaf_passes : (C : Lattice) (set a b : ℕ) (gs : List GuardedLevel) (i : ℕ) → i < length gs → (get_or gs i no_leaf).guard < 2 ^ 16
    → (bit_and (get_or gs i no_leaf).guard set ≡ (get_or gs i no_leaf).guard → ⊥) → b ≡ a → join_under C (members set) b (drop (i + 1) gs) ≡ join_under C (members set) a (drop i gs)
leaf_passes C set a b gs i h k e m =
    let x = get_or gs i no_leaf in
    let counts : within x.guard (members set) ≡ false = sym (within_test x.guard set k) ∙ ne_eqb _ _ e in
    ap (λ (y : ℕ). join_under C (members set) y (drop (i + 1) gs)) (m ∙ sym (ap (λ t. cond t (C.join a x.level) a) counts)) ∙ sym (joined_leaf C (members set) a gs i h)

module _ {C : Lattice} (W : Lawful C) where
  pub known_under : (s : Set) (p : Policy) → KnownLevels C p → Known C (level_under C s p)
  known_under s (leaf l) k = k
  known_under s (erase c p q) k =
      let kp = known_under s p k.0 in
      elim (s c) as (λ b. Known C (cond b (C.join (level_under C s p) (level_under C s q)) (level_under C s p))) [
        | true ↦ W.join_known _ _ kp (known_under s q k.1)
        | false ↦ kp
      ]

  step_known : (b : Bool) (a l : ℕ) → Known C a → Known C (cond b (C.join a l) a)
  step_known true a l h = join_any W a l
  step_known false a l h = h

  step_above : (b : Bool) (a l : ℕ) → Known C a → Below C a (cond b (C.join a l) a)
  step_above true a l h = below_join W a l h
  step_above false a l h = W.reflexive a h

  pub above_start : (s : Set) (a : ℕ) (gs : List GuardedLevel) → Known C a → Below C a (join_under C s a gs)
  unfolding join_under
  above_start s a [] h = W.reflexive a h
  above_start s a (g ∷ gs) h =
      let b = within g.guard s in
      below_trans W _ _ _ (step_above b a g.level h) (above_start s (cond b (C.join a g.level) a) gs (step_known b a g.level h))

  -- the larger the set, the higher the level
  pub grows : (s t : Set) (a b : ℕ) (gs : List GuardedLevel) → ((u : ℕ) → within u s ≡ true → within u t ≡ true) → Below C a b → Below C (join_under C s a gs) (join_under C t b gs)
  unfolding join_under
  grows s t a b [] f h = h
  grows s t a b (g ∷ gs) f h = grows s t (cond (within g.guard s) (C.join a g.level) a) (cond (within g.guard t) (C.join b g.level) b) gs f (go (within g.guard s) (within g.guard t) (f g.guard))
    where
      go : (x y : Bool) → (x ≡ true → y ≡ true) → Below C (cond x (C.join a g.level) a) (cond y (C.join b g.level) b)
      go true true i = join_grows W a b g.level h
      go true false i = absurd (both_ways _ refl (i refl))
      go false true i = below_trans W _ _ _ h (below_join W b g.level (known_right W a b h))
      go false false i = h

  sound : (s : Set) (a : ℕ) (gs hs : List GuardedLevel) → LeavesBelow C hs gs → Below C a (join_under C s C.lowest hs) → Below C (join_under C s a gs) (join_under C s C.lowest hs)
  unfolding join_under
  sound s a [] hs k h = h
  sound s a (g ∷ gs) hs k h = sound s (cond (within g.guard s) (C.join a g.level) a) gs hs k.1 (go (within g.guard s) refl)
    where
      go : (x : Bool) → within g.guard s ≡ x → Below C (cond x (C.join a g.level) a) (join_under C s C.lowest hs)
      go true e =
          join_least W a g.level _ h
          (below_trans W _ _ _ k.0 (grows (members g.guard) s _ _ hs (λ u. within_more u g.guard s e) (W.reflexive _ W.lowest_known)))
      go false e = h

  complete : (gs hs : List GuardedLevel) → AllKnown C gs → ((s : Set) → (a : ℕ) × Known C a × Below C (join_under C s a gs) (join_under C s C.lowest hs)) → LeavesBelow C hs gs
  unfolding join_under
  complete [] hs k f = tt
  complete (g ∷ gs) hs k f =
      let r = f (members g.guard) in
      let a = r.0 in
      let e = within_itself g.guard in
      let j = C.join a g.level in
      let up : Below C j (join_under C (members g.guard) j gs) = above_start (members g.guard) j gs (join_any W a g.level) in
      let under : Below C (join_under C (members g.guard) j gs) (join_under C (members g.guard) C.lowest hs)
      = subst (λ b. Below C (join_under C (members g.guard) (cond b (C.join a g.level) a) gs) (join_under C (members g.guard) C.lowest hs)) e r.2 in (
        below_trans W _ _ _ (below_trans W _ _ _ (W.join_right a g.level r.1 k.0) up) under,
        complete gs hs k.1 (λ s. let r = f s in (cond (within g.guard s) (C.join r.0 g.level) r.0, step_known (within g.guard s) r.0 g.level r.1, r.2)),
      )

  below_known : (gs hs : List GuardedLevel) → LeavesBelow C hs gs → AllKnown C gs
  below_known [] hs k = tt
  below_known (g ∷ gs) hs k = (known_left W _ _ k.0, below_known gs hs k.1)

  -- a policy's leaves, joined one by one, give its level
  joined : (s : Set) (u : ℕ) (p : Policy) (a : ℕ) (gs : List GuardedLevel) → Known C a → KnownLevels C p → ConditionsBelow 16 p
      → join_under C s a (guarded_levels u p ++ gs) ≡ join_under C s (cond (within u s) (C.join a (level_under C s p)) a) gs
  unfolding join_under
  joined s u (leaf l) a gs h k c = refl
  joined s u (erase c p q) a gs h k d =
      ap (join_under C s a) (append_assoc (guarded_levels u p) (guarded_levels (including c u) q) gs)
      ∙ joined s u p a (guarded_levels (including c u) q ++ gs) h k.0 d.1
      ∙ joined s (including c u) q _ gs (step_known (within u s) a _ h) k.1 d.2
      ∙ ap (λ x. join_under C s x gs) (ap (λ b. cond b (C.join (before (within u s)) Q) (before (within u s))) (within_including c u s d.0) ∙ go (within u s) (s c))
    where
      P : ℕ
      P = level_under C s p

      Q : ℕ
      Q = level_under C s q

      before : Bool → ℕ
      before b = cond b (C.join a P) a

      go : (x y : Bool) → cond (x && y) (C.join (before x) Q) (before x) ≡ cond x (C.join a (cond y (C.join P Q) P)) a
      go true true = join_assoc W a P Q h (known_under s p k.0) (known_under s q k.1)
      go true false = refl
      go false y = refl

  pub policy_level : (s : Set) (row : Row) (p : Policy) → Holds row p → KnownLevels C p → row_level_under C s row ≡ level_under C s p
  unfolding join_under
  policy_level s row p h k =
      ap (join_under C s C.lowest) (h.levels ∙ sym (append-nil (guarded_levels 0 p)))
      ∙ joined s 0 p C.lowest [] W.lowest_known k h.conditions
      ∙ ap (λ b. cond b (C.join C.lowest (level_under C s p)) C.lowest) (within_none s)
      ∙ join_lowest W (level_under C s p) (known_under s p k)

  row_flows : (row other : Row) → LeavesBelow C (levels_in other) (levels_in row) → RowFlowsTo C row other
  row_flows row other k = record {
    known = below_known (levels_in row) (levels_in other) k;
    below = λ s. sound s C.lowest (levels_in row) (levels_in other) k (above_start s C.lowest (levels_in other) W.lowest_known);
  }

  flows_row : (row other : Row) → RowFlowsTo C row other → LeavesBelow C (levels_in other) (levels_in row)
  flows_row row other f = complete (levels_in row) (levels_in other) f.known (λ s. (C.lowest, W.lowest_known, f.below s))

  levels_known : (u : ℕ) (p : Policy) (gs : List GuardedLevel) → KnownLevels C p → AllKnown C gs → AllKnown C (guarded_levels u p ++ gs)
  levels_known u (leaf l) gs k h = (k, h)
  levels_known u (erase c p q) gs k h =
      subst (AllKnown C) (sym (append_assoc (guarded_levels u p) (guarded_levels (including c u) q) gs))
      (levels_known u p (guarded_levels (including c u) q ++ gs) k.0 (levels_known (including c u) q gs k.1 h))

  row_known : (row : Row) (p : Policy) → Holds row p → KnownLevels C p → AllKnown C (levels_in row)
  row_known row p h k = subst (AllKnown C) (append-nil (guarded_levels 0 p) ∙ sym h.levels) (levels_known 0 p [] k tt)

  -- a test of each leaf is a test for flowing
  pub decided : (row other : Row) (r : Bool) → Decides r (LeavesBelow C (levels_in other) (levels_in row)) → FlowDecided C row other r
  decided row other r d = record {
    rows = (λ e. row_flows row other (d.0 e), λ f. d.1 (flows_row row other f));
    policies = λ p q hp hq kp kq. (
      λ e s. subst (λ a. Below C a (level_under C s q)) (policy_level s row p hp kp)
          (subst (Below C (row_level_under C s row)) (policy_level s other q hq kq) ((row_flows row other (d.0 e)).below s)),
      λ f. d.1 (flows_row row other record {
        known = row_known row p hp kp;
        below = λ s. subst (λ a. Below C a (row_level_under C s other)) (sym (policy_level s row p hp kp)) (subst (Below C (level_under C s p)) (sym (policy_level s other q hq kq)) (f s));
      }),
    );
  }

  -- the level when no leaf is left
  pub level_of_lem : (row : Row) (set r : ℕ) (gs : List GuardedLevel) (i : ℕ) → gs ≡ levels_in row → length gs ≤ i → join_under C (members set) r (drop i gs) ≡ join_under C (members set) C.lowest gs → LevelOf C row set r
  unfolding join_under
  level_of_lem row set r gs i e h inv =
      let equals : r ≡ row_level_under C (members set) row = sym (ap (join_under C (members set) r) (drop_all i gs h)) ∙ inv ∙ ap (join_under C (members set) C.lowest) e in
      record { equals = equals; policies = λ p hp kp. equals ∙ policy_level (members set) row p hp kp }

  pub all_pass : (row other : Row) (gs : List GuardedLevel) → gs ≡ levels_in row → ((k : ℕ) → k < length gs → LeafBelow C (levels_in other) (get_or gs k no_leaf)) → FlowDecided C row other true
  all_pass row other gs e f = decided row other true (λ t. subst (LeavesBelow C (levels_in other)) e (all_leaves C (levels_in other) gs f), λ t. refl)

  pub one_fails : (row other : Row) (gs : List GuardedLevel) (k : ℕ) → gs ≡ levels_in row → k < length gs → (LeafBelow C (levels_in other) (get_or gs k no_leaf) → ⊥) → FlowDecided C row other false
  one_fails row other gs k e h f =
      decided row other false (λ t. absurd (both_ways _ refl t), λ t. absurd (f (leaf_at C (levels_in other) gs (subst (LeavesBelow C (levels_in other)) (sym e) t) k h)))
