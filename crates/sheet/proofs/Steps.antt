-- The answer one record on, where a tree is awaited. Assumes nothing.
use Rattle.std.proofs.Common.{◌≡◌, ℕ, ◌+◌, Bool, true, false, cond, eqb, List, [], ◌∷◌, length, refl}
use Rattle.std.proofs.lemmas.Bool.{ne_eqb}
use Rattle.records.specs.declared.Record.{Record}
use Rattle.lattice.specs.Lattice.{Lattice}
use Rattle.policy.specs.Policy.{Policy, leaf}
use Rattle.sheet.specs.Sheet.{Sheet}
use Rattle.sheet.specs.Rules.{State, Owner, answer, kind, Kind, leaves, nodes, may_stand, joined}
use Rattle.sheet.specs.Reading.{at}
use Rattle.records.specs.Rules.{first, refused_by}
use Rattle.sheet.specs.Checks.{leaf_rules, node_rules}

kind_leaf : (l : ℕ) → l ≡ 76 → kind l ≡ leaves
kind_leaf l e = rw e refl

kind_node : (l : ℕ) → l ≡ 69 → kind l ≡ nodes
kind_node l e = rw e refl

module _ (C : Lattice) (place : ℕ) (sh : Sheet) (owner : Owner) (d : ℕ) (ds : List ℕ) (trees : List Policy → List Policy) where
  abbrev s : State
  s = at place sh owner (d ∷ ds) trees

  unfit : (l : ℕ) → (l ≡ 76 → ⊥) → (l ≡ 69 → ⊥) → may_stand s (kind l) ≡ false
  unfit l p q = rw (ne_eqb l 76 p, ne_eqb l 69 q) (go (eqb l 67) (eqb l 86) (eqb l 82))
    where
      go : (x y z : Bool) → may_stand s (cond x Kind.conditions (cond y Kind.variables (cond z Kind.permits Kind.others))) ≡ false
      go true y z = refl
      go false true z = refl
      go false false true = refl
      go false false false = refl

  pub end : answer C s [] ≡ refused_by 3 place 0
  unfolding answer
  end = refl

  module _ (r : Record) (rs : List Record) where
    pub stranger : (r.letter ≡ 76 → ⊥) → (r.letter ≡ 69 → ⊥) → answer C s (r ∷ rs) ≡ refused_by 3 place 0
    unfolding answer
    stranger p q = rw (unfit r.letter p q) refl

    pub leaf_step : r.letter ≡ 76 → answer C s (r ∷ rs) ≡ first (leaf_rules r place d (C.known r.n)) (answer C (at (place + 1) sh owner ds (λ ps. trees (leaf r.n ∷ ps))) rs)
    unfolding answer
    leaf_step e = rw (kind_leaf r.letter e) refl

    pub node_step : r.letter ≡ 69 → answer C s (r ∷ rs)
        ≡ first (node_rules r place d (length sh.conditions)) (answer C (at (place + 1) sh owner ((d + 1) ∷ (d + 1) ∷ ds) (λ ps. trees (joined r.a ps))) rs)
    unfolding answer
    node_step e = rw (kind_node r.letter e) refl
