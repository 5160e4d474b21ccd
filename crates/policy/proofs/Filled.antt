-- What a policy leaves in a row. Assumes nothing.
use Rattle.std.proofs.Common.{◌≡◌, ℕ, zero, suc, ◌+◌, ◌<◌, ◌≤◌, Bool, true, false, cond, ◌&&◌, ◌||◌, eqb, List, [], ◌++◌, length, get_or, set, sym, refl, ap, ◌∙◌, arith, length-set}
use Rattle.std.proofs.lemmas.List.{append_assoc, append-nil, take_more_set, get_or-take, length-take, length-append}
use Rattle.std.proofs.lemmas.Bool.{ne_eqb, lt-ltb}
use Rattle.policy.specs.declared.row.GuardedLevel.{GuardedLevel}
use Rattle.policy.specs.declared.row.Row.{Row}
use Rattle.lattice.specs.Lattice.{Lattice}
use Rattle.policy.specs.Policy.{Policy, leaf, erase, wipes, present_level, ConditionsBelow}
use Rattle.policy.specs.Masks.{bit}
use Rattle.policy.specs.Rows.{including, guarded_levels, levels_in, Holds, blank, with_level, with_node, filled}
use Rattle.policy.specs.Shapes.{Shaped, room}
use Rattle.policy.proofs.Masks.{bit_including, bit_zero}

abbrev pub leaves : Policy → ℕ
leaves (leaf l) = 1
leaves (erase c p q) = leaves p + leaves q

pub some_leaf : (p : Policy) → 1 ≤ leaves p
some_leaf (leaf l) = omega arith
some_leaf (erase c p q) = omega (arith, some_leaf p, some_leaf q)

-- a node's two parts have room where it has
pub room_parts : (d : ℕ) → 1 ≤ d → d ≤ 4 → room (d + 1) + room (d + 1) ≤ room d
room_parts zero h k = absurd (omega arith)
room_parts (suc zero) h k = omega arith
room_parts (suc (suc zero)) h k = omega arith
room_parts (suc (suc (suc zero))) h k = omega arith
room_parts (suc (suc (suc (suc zero)))) h k = omega arith
room_parts (suc (suc (suc (suc (suc d))))) h k = absurd (omega arith)

-- a level has room at its depth
pub room_leaf : (d : ℕ) → 1 ≤ d → d ≤ 4 → 1 ≤ room d
room_leaf zero h k = absurd (omega arith)
room_leaf (suc zero) h k = omega arith
room_leaf (suc (suc zero)) h k = omega arith
room_leaf (suc (suc (suc zero))) h k = omega arith
room_leaf (suc (suc (suc (suc zero)))) h k = omega arith
room_leaf (suc (suc (suc (suc (suc d))))) h k = absurd (omega arith)

pub shaped_room : (n d : ℕ) (p : Policy) → 1 ≤ d → Shaped n d p → leaves p ≤ room d
shaped_room n d (leaf l) h s = room_leaf d h s
shaped_room n d (erase c p q) h s = omega (arith, room_parts d h s.1, shaped_room n (d + 1) p (omega arith) s.2, shaped_room n (d + 1) q (omega arith) s.3)

-- a level that there is room for
with_room : (row : Row) (level guard : ℕ) → row.count < 8 → with_level row level guard ≡ record { levels = set row.levels row.count record { level = level; guard = guard }; count = row.count + 1; wipers = row.wipers }
with_room row level guard h = ap (λ b. cond b (record { levels = set row.levels row.count record { level = level; guard = guard }; count = row.count + 1; wipers = row.wipers }) row) (lt-ltb row.count 8 h)

pub filled_count : (g : ℕ) (p : Policy) (row : Row) → row.count + leaves p ≤ 8 → (filled g p row).count ≡ row.count + leaves p
unfolding filled
filled_count g (leaf l) row h = ap (λ r. r.count) (with_room row l g (omega arith))
filled_count g (erase c p q) row h =
    let one = filled_count g p (with_node row c) (omega arith) in
    omega (arith, one, filled_count (including c g) q (filled g p (with_node row c)) (omega (arith, one)))

pub filled_levels : (g : ℕ) (p : Policy) (row : Row) → length row.levels ≡ 8 → row.count + leaves p ≤ 8
    → (length (filled g p row).levels ≡ 8) × (levels_in (filled g p row) ≡ levels_in row ++ guarded_levels g p)
unfolding filled
filled_levels g (leaf l) row h k =
    let x : GuardedLevel = record { level = l; guard = g } in
    let e = with_room row l g (omega arith) in
    (ap (λ r. length r.levels) e ∙ length-set row.levels row.count x ∙ h, ap levels_in e ∙ take_more_set row.levels row.count x (omega (arith, h)))
filled_levels g (erase c p q) row h k =
    let one = filled_levels g p (with_node row c) h (omega (arith, some_leaf q)) in
    let two = filled_levels (including c g) q (filled g p (with_node row c)) one.0 (omega (arith, filled_count g p (with_node row c) (omega arith))) in
    (two.0, two.1 ∙ ap (λ x. x ++ guarded_levels (including c g) q) one.1 ∙ append_assoc (levels_in row) (guarded_levels g p) (guarded_levels (including c g) q))

pub filled_wipers : (n d g : ℕ) (p : Policy) (row : Row) → n ≤ 16 → Shaped n d p → row.count + leaves p ≤ 8
    → (c : ℕ) → bit c (filled g p row).wipers ≡ (bit c row.wipers || (eqb row.count 0 && wipes c p))
unfolding filled
filled_wipers n d g (leaf l) row h s k c = ap (λ r. bit c r.wipers) (with_room row l g (omega arith)) ∙ plain (bit c row.wipers) (eqb row.count 0)
  where
    plain : (x y : Bool) → x ≡ (x || (y && false))
    plain true y = refl
    plain false true = refl
    plain false false = refl
filled_wipers n d g (erase e p q) row h s k c =
    filled_wipers n (d + 1) (including e g) q (filled g p (with_node row e)) h s.3 (omega (arith, count)) c
    ∙ ap (λ b. bit c (filled g p (with_node row e)).wipers || (b && wipes c q)) (ne_eqb (filled g p (with_node row e)).count 0 (λ z. absurd (omega (arith, z, count, some_leaf p))))
    ∙ right (bit c (filled g p (with_node row e)).wipers)
    ∙ filled_wipers n (d + 1) g p (with_node row e) h s.2 (omega arith) c
    ∙ go (eqb row.count 0)
  where
    count : (filled g p (with_node row e)).count ≡ row.count + leaves p
    count = filled_count g p (with_node row e) (omega arith)

    right : (x : Bool) → (x || false) ≡ x
    right true = refl
    right false = refl

    mix : (x y z : Bool) → ((y || x) || z) ≡ (x || (y || z))
    mix true true z = refl
    mix true false z = refl
    mix false true z = refl
    mix false false z = refl

    go : (b : Bool) → (bit c (cond b (including e row.wipers) row.wipers) || (b && wipes c p)) ≡ (bit c row.wipers || (b && (eqb c e || wipes c p)))
    go true = ap (λ x. x || wipes c p) (bit_including e row.wipers c (omega (arith, s.0))) ∙ mix (bit c row.wipers) (eqb c e) (wipes c p)
    go false = refl

-- the first leaf has the present level
pub first_level : (C : Lattice) (g : ℕ) (p : Policy) (xs : List GuardedLevel) (d : GuardedLevel) → (get_or (guarded_levels g p ++ xs) 0 d).level ≡ present_level C p
first_level C g (leaf l) xs d = refl
first_level C g (erase c p q) xs d = ap (λ l. (get_or l 0 d).level) (append_assoc (guarded_levels g p) (guarded_levels (including c g) q) xs) ∙ first_level C g p (guarded_levels (including c g) q ++ xs) d

shaped_conditions : (n d : ℕ) (p : Policy) → n ≤ 16 → Shaped n d p → ConditionsBelow 16 p
shaped_conditions n d (leaf l) h s = tt
shaped_conditions n d (erase c p q) h s = (omega (arith, s.0), shaped_conditions n (d + 1) p h s.2, shaped_conditions n (d + 1) q h s.3)

-- a row that was filled from nothing holds the policy
pub filled_holds : (n : ℕ) (p : Policy) → n ≤ 16 → Shaped n 1 p → Holds (filled 0 p blank) p
filled_holds n p h s =
    let fits : 0 + leaves p ≤ 8 = omega (arith, shaped_room n 1 p (omega arith) s) in
    record {
      conditions = shaped_conditions n 1 p h s;
      levels = (filled_levels 0 p blank refl fits).1;
      wipers = λ c. filled_wipers n 1 0 p blank h s fits c ∙ ap (λ b. b || wipes c p) (bit_zero c);
    }

pub levels_length : (g : ℕ) (p : Policy) → length (guarded_levels g p) ≡ leaves p
levels_length g (leaf l) = refl
levels_length g (erase c p q) = length-append (guarded_levels g p) (guarded_levels (including c g) q) ∙ omega (arith, levels_length g p, levels_length (including c g) q)

-- the first level of a row that holds a policy is the policy's present level
pub holds_present : (C : Lattice) (row : Row) (p : Policy) (d : GuardedLevel) → Holds row p → (get_or row.levels 0 d).level ≡ present_level C p
holds_present C row p d h =
    let some : 1 ≤ row.count = omega (arith, length-take row.count row.levels, ap length h.levels, levels_length 0 p, some_leaf p) in
    ap (λ x. x.level) (sym (get_or-take row.count row.levels 0 d (omega arith)) ∙ ap (λ xs. get_or xs 0 d) (h.levels ∙ sym (append-nil (guarded_levels 0 p)))) ∙ first_level C 0 p [] d
