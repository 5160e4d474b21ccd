-- Security levels are numbers. A lattice says which of them are known and how they are ordered.
-- The laws speak of known levels; an unknown level is below nothing and above nothing.
use Rattle.std.specs.Prelude.{◌≡◌, ℕ, Bool, true, false}

pub record Lattice : Type 0 where
  pub known : ℕ → Bool
  pub below : ℕ → ℕ → Bool
  pub join : ℕ → ℕ → ℕ
  pub lowest : ℕ
  pub highest : ℕ

abbrev pub Known : Lattice → ℕ → Type 0
Known C a = C.known a ≡ true

abbrev pub Below : Lattice → ℕ → ℕ → Type 0
Below C a b = C.below a b ≡ true

pub record Lawful (C : Lattice) : Type 0 where
  pub reflexive : (a : ℕ) → Known C a → Below C a a
  pub transitive : (a b c : ℕ) → Known C a → Known C b → Known C c → Below C a b → Below C b c → Below C a c
  pub antisymmetric : (a b : ℕ) → Known C a → Known C b → Below C a b → Below C b a → a ≡ b
  pub join_known : (a b : ℕ) → Known C a → Known C b → Known C (C.join a b)
  pub join_left : (a b : ℕ) → Known C a → Known C b → Below C a (C.join a b)
  pub join_right : (a b : ℕ) → Known C a → Known C b → Below C b (C.join a b)
  pub join_least : (a b c : ℕ) → Known C a → Known C b → Known C c → Below C a c → Below C b c → Below C (C.join a b) c
  pub lowest_known : Known C C.lowest
  pub lowest_below : (a : ℕ) → Known C a → Below C C.lowest a
  pub highest_known : Known C C.highest
  pub highest_above : (a : ℕ) → Known C a → Below C a C.highest
  pub unknown_below : (a b : ℕ) → C.known a ≡ false → C.below a b ≡ false
  pub unknown_above : (a b : ℕ) → C.known b ≡ false → C.below a b ≡ false
  pub unknown_join_left : (a b : ℕ) → C.known a ≡ false → C.join a b ≡ C.highest
  pub unknown_join_right : (a b : ℕ) → C.known b ≡ false → C.join a b ≡ C.highest

-- Two lattices are the same to a reader if they know the same levels and order them alike.
pub record SameOrder (C D : Lattice) : Type 0 where
  pub known : (a : ℕ) → C.known a ≡ D.known a
  pub below : (a b : ℕ) → Known C a → Known C b → C.below a b ≡ D.below a b
