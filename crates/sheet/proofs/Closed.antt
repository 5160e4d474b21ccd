-- The answer one record on, where no tree is awaited. Assumes nothing.
use Rattle.std.proofs.Common.{◌≡◌, ℕ, ◌+◌, Bool, true, false, cond, ◌&&◌, eqb, List, [], ◌∷◌, length, refl, ap, ◌∙◌}
use Rattle.std.proofs.lemmas.Bool.{ne_eqb}
use Rattle.records.specs.declared.Record.{Record}
use Rattle.lattice.specs.Lattice.{Lattice}
use Rattle.policy.specs.Policy.{Policy}
use Rattle.sheet.specs.Sheet.{Sheet}
use Rattle.sheet.specs.Rules.{Owner, a_variable, a_permit, declare, answer, asked, established, kind, Kind, conditions, variables, permits, leaves, nodes, others, may_stand, none, wipers_below}
use Rattle.sheet.specs.Checks.{condition_rules, variable_rules, permit_rules, mask_rules}
use Rattle.sheet.specs.Reading.{at, closed, with_condition}
use Rattle.records.proofs.Firsts.{first_append}
use Rattle.records.specs.Rules.{rule, first, accepted, refused_by}

module _ (C : Lattice) (place : ℕ) (sh : Sheet) where
  module _ (owner : Owner) (trees : List Policy → List Policy) where
    same : (r : Record) (rs : List Record) (k : Kind)
        → first (asked C (at place sh owner [] trees) r k) (answer C (established (at place sh owner [] trees) r k) rs)
        ≡ first (asked C (closed place (declare owner (trees []) sh)) r k) (answer C (established (closed place (declare owner (trees []) sh)) r k) rs)
    same r rs conditions = refl
    same r rs variables = refl
    same r rs permits = refl
    same r rs leaves = refl
    same r rs nodes = refl
    same r rs others = refl

    -- once the owner's trees are whole, rule 9 is asked, and then all is as if the owner had always been there
    pub settle : (rs : List Record) → answer C (at place sh owner [] trees) rs ≡ first (wipers_below C sh owner (trees [])) (answer C (closed place (declare owner (trees []) sh)) rs)
    unfolding answer
    settle [] = first_append (wipers_below C sh owner (trees [])) _ _
    settle (r ∷ rs) = first_append (wipers_below C sh owner (trees [])) _ _ ∙ ap (first (wipers_below C sh owner (trees []))) (same r rs (kind r.letter))

  pub end : answer C (closed place sh) [] ≡ accepted sh
  unfolding answer
  end = refl

  kind_condition : (l : ℕ) → l ≡ 67 → kind l ≡ conditions
  kind_condition l e = rw e refl

  kind_variable : (l : ℕ) → l ≡ 86 → kind l ≡ variables
  kind_variable l e = rw e refl

  kind_permit : (l : ℕ) → l ≡ 82 → kind l ≡ permits
  kind_permit l e = rw e refl

  unfit : (l : ℕ) → (l ≡ 67 → ⊥) → (l ≡ 86 → ⊥) → (l ≡ 82 → ⊥) → may_stand (closed place sh) (kind l) ≡ false
  unfit l p q w = rw (ne_eqb l 67 p, ne_eqb l 86 q, ne_eqb l 82 w) (go (eqb l 76) (eqb l 69))
    where
      go : (x y : Bool) → may_stand (closed place sh) (cond x leaves (cond y nodes others)) ≡ false
      go true y = refl
      go false true = refl
      go false false = refl

  module _ (r : Record) (rs : List Record) where
    pub stranger : (r.letter ≡ 67 → ⊥) → (r.letter ≡ 86 → ⊥) → (r.letter ≡ 82 → ⊥) → answer C (closed place sh) (r ∷ rs) ≡ refused_by 3 place 0
    unfolding answer
    stranger p q w = rw (unfit r.letter p q w) refl

    pub condition_step : r.letter ≡ 67 → answer C (closed place sh) (r ∷ rs)
        ≡ first (rule 3 place 0 (none sh.variables && none sh.permits) ∷ condition_rules r place (length sh.conditions) (C.known r.n)) (answer C (closed (place + 1) (with_condition sh r.n)) rs)
    unfolding answer
    condition_step e = rw (kind_condition r.letter e) refl

    pub variable_step : r.letter ≡ 86 → answer C (closed place sh) (r ∷ rs)
        ≡ first (rule 3 place 0 (none sh.permits) ∷ variable_rules r place (length sh.variables)) (answer C (at (place + 1) sh (a_variable place (eqb r.b 1)) (1 ∷ []) (λ ps. ps)) rs)
    unfolding answer
    variable_step e = rw (kind_variable r.letter e) refl

    pub permit_step : r.letter ≡ 82 → answer C (closed place sh) (r ∷ rs)
        ≡ first (permit_rules r place (length sh.permits)) (first (mask_rules (length sh.conditions) r.n place) (answer C (at (place + 1) sh (a_permit r.n) (1 ∷ 1 ∷ []) (λ ps. ps)) rs))
    unfolding answer
    permit_step e = rw (kind_permit r.letter e)
        (ap (first (permit_rules r place (length sh.permits)))
        (first_append (mask_rules (length sh.conditions) r.n place) (rule 8 place 0 true ∷ []) (answer C (at (place + 1) sh (a_permit r.n) (1 ∷ 1 ∷ []) (λ ps. ps)) rs)))
