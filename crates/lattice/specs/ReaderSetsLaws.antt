-- The sets of readers keep the laws of a lattice. Assumes nothing.
use Rattle.std.specs.Prelude.{◌≡◌, ℕ, ◌≤◌, true, bit_and}
use Rattle.std.specs.Int.Bits.{and_self, and_zero_r}
use Rattle.std.proofs.Common.{sym, ap, ◌∙◌, arith, rules, mod-eq_of_lt}
use Rattle.std.proofs.lemmas.Nat.{and_assoc, and_comm, and_mask, and_le_l}
use Rattle.std.proofs.lemmas.Bool.Decides.{nat_tests}
use Rattle.lattice.specs.Lattice.{Lawful}
use Rattle.lattice.specs.ReaderSets.{set_below, reader_sets}

-- What the test of two sets says.
record Holds (a b : ℕ) : Type 0 where
  part : bit_and a b ≡ b
  known : a ≤ 65535

holds : (a b : ℕ) → set_below a b ≡ true → Holds a b
holds a b h = search rules

below_from : (a b : ℕ) → bit_and a b ≡ b → a ≤ 65535 → set_below a b ≡ true
below_from a b e h = search rules

part_left : (a b : ℕ) → bit_and a (bit_and a b) ≡ bit_and a b
part_left a b = sym (and_assoc b a a) ∙ ap (λ x. bit_and x b) (and_self a)

part_right : (a b : ℕ) → bit_and b (bit_and a b) ≡ bit_and a b
part_right a b = grind (arith, and_assoc, and_comm, and_self)

whole : (a : ℕ) → a ≤ 65535 → bit_and 65535 a ≡ a
whole a h = and_comm 65535 a ∙ and_mask a 16 ∙ mod-eq_of_lt (omega arith)

pub reader_sets_lawful : Lawful reader_sets
reader_sets_lawful = record {
  reflexive = λ a k. search (rules, and_self);
  transitive = λ a b c ka kb kc p q. grind (arith, nat_tests, and_assoc, holds, below_from);
  antisymmetric = λ a b ka kb p q. grind (arith, nat_tests, and_comm, holds);
  join_known = λ a b ka kb. grind (arith, nat_tests, and_le_l);
  join_left = λ a b ka kb. grind (arith, nat_tests, part_left);
  join_right = λ a b ka kb. grind (arith, nat_tests, part_right);
  join_least = λ a b c ka kb kc p q. grind (arith, nat_tests, and_assoc, and_le_l);
  lowest_known = search rules;
  lowest_below = λ a k. grind (arith, nat_tests, whole);
  highest_known = search rules;
  highest_above = λ a k. search (rules, and_zero_r);
  unknown_below = λ a b k. search rules;
  unknown_above = λ a b k. grind (arith, nat_tests, and_le_l);
  unknown_join_left = λ a b k. search rules;
  unknown_join_right = λ a b k. search rules;
}
