-- A valid sheet, written, is accepted. Assumes nothing.
use Rattle.std.proofs.Common.{◌≡◌, ℕ, ◌+◌, ◌<◌, ◌≤◌, Bool, true, cond, not, ◌&&◌, ◌||◌, eqb, ltb, leb, List, [], ◌∷◌, ◌++◌, length, sym, refl, ap, ◌∙◌, arith}
use Rattle.std.proofs.lemmas.Grind.{common_steps}
use Rattle.std.proofs.lemmas.List.{length-append, append_assoc, append-nil}
use Rattle.std.proofs.lemmas.Bool.{le-leb, lt-ltb, and_from}
use Rattle.records.specs.declared.Record.{Record}
use Rattle.lattice.specs.Lattice.{Lattice}
use Rattle.policy.specs.Policy.{Policy, leaf, erase, wipes, present_level}
use Rattle.sheet.specs.Sheet.{Sheet, Variable, Permit, declared_condition, level_of}
use Rattle.sheet.specs.Written.{tree, leaf_record, erase_record, condition_record, variable_record, permit_record, numbered, condition, variable, permit, written}
use Rattle.sheet.specs.Valid.{Level, WellFormed, ValidVariable, ValidPermit, Valid}
use Rattle.sheet.specs.Rules.{Owner, a_variable, a_permit, answer, joined, start}
use Rattle.sheet.specs.Checks.{leaf_rules, node_rules, condition_rules, variable_rules, permit_rules}
use Rattle.sheet.specs.Reading.{at, closed}
use Rattle.sheet.proofs.Steps as steps
use Rattle.sheet.proofs.Closed as closing
use Rattle.records.specs.Records.{Each}
use Rattle.records.proofs.Firsts.{first_holds, each_holds, implies}
use Rattle.records.specs.Rules.{rule, Reading, accepted}
use Rattle.policy.specs.Masks.{bit}

module _ (C : Lattice) where
  pub tree_goes : (t : Policy) (place : ℕ) (sh : Sheet) (owner : Owner) (d : ℕ) (ds : List ℕ) (trees : List Policy → List Policy) (rest : List Record) → WellFormed C (length sh.conditions) d t
      → answer C (at place sh owner (d ∷ ds) trees) (tree t ++ rest) ≡ answer C (at (place + length (tree t)) sh owner ds (λ ps. trees (t ∷ ps))) rest
  unfolding tree
  tree_goes (leaf l) place sh owner d ds trees rest g = steps.leaf_step C place sh owner d ds trees (leaf_record l) rest refl
      ∙ first_holds (leaf_rules (leaf_record l) place d (C.known l)) _ (refl, (g.0.0, (le-leb d 4 g.1, tt)))
  tree_goes (erase c p q) place sh owner d ds trees rest g =
      steps.node_step C place sh owner d ds trees (erase_record c) (tree p ++ tree q ++ rest) refl
      ∙ first_holds (node_rules (erase_record c) place d (length sh.conditions)) _ (refl, (lt-ltb c (length sh.conditions) g.0, (le-leb d 4 g.1, tt)))
      ∙ ap (answer C (at (place + 1) sh owner ((d + 1) ∷ (d + 1) ∷ ds) (λ ps. trees (joined c ps)))) (append_assoc (tree p) (tree q) rest)
      ∙ tree_goes p (place + 1) sh owner (d + 1) ((d + 1) ∷ ds) (λ ps. trees (joined c ps)) (tree q ++ rest) g.2
      ∙ tree_goes q (place + 1 + length (tree p)) sh owner (d + 1) ds (λ ps. trees (joined c (p ∷ ps))) rest g.3
      ∙ ap (λ n. answer C (at n sh owner ds (λ ps. trees (erase c p q ∷ ps))) rest) (omega (arith, length-append (tree p) (tree q)))

  pub wipes_declared : (n d c : ℕ) (t : Policy) → WellFormed C n d t → wipes c t ≡ true → c < n
  wipes_declared n d c (leaf l) g h = cc h
  wipes_declared n d c (erase e p q) g h = grind (arith, common_steps, wipes_declared n (d + 1) c p g.2)

  abbrev pub sheet_of : List ℕ → List Variable → List Permit → Sheet
  sheet_of cs vs ps = record { conditions = cs; variables = vs; permits = ps }

  next_is : (n k : ℕ) → n < k → (eqb n n && ltb n k) ≡ true
  next_is n k h = grind (arith, common_steps)

  fed_fits : (f : Bool) → leb (cond f 1 0) 1 ≡ true
  fed_fits f = grind (arith, common_steps)

  fed_back : (f : Bool) → eqb (cond f 1 0) 1 ≡ f
  fed_back f = grind (arith, common_steps)

  -- `a` is what the rules answer after the section, wherever that is
  module _ (a : Reading Sheet) where
    conditions_go : (cs before : List ℕ) (place : ℕ) (rest : List Record) → length before + length cs ≤ 16 → Each (Level C) cs
        → ((n : ℕ) → answer C (closed n (sheet_of (before ++ cs) [] [])) rest ≡ a)
        → answer C (closed place (sheet_of before [] [])) (numbered condition (length before) cs ++ rest) ≡ a
    conditions_go [] before place rest h e k = ap (λ x. answer C (closed place (sheet_of x [] [])) rest) (sym (append-nil before)) ∙ k place
    conditions_go (l ∷ cs) before place rest h e k =
        closing.condition_step C place (sheet_of before [] []) (condition_record (length before) l) (numbered condition (length before + 1) cs ++ rest) refl
        ∙ first_holds (rule 3 place 0 true ∷ condition_rules (condition_record (length before) l) place (length before) (C.known l)) _ (refl, (refl, (next_is (length before) 16 (omega arith), (e.0.0, tt))))
        ∙ ap (λ n. answer C (closed (place + 1) (sheet_of (before ++ l ∷ []) [] [])) (numbered condition n cs ++ rest)) (sym (length-append before (l ∷ [])))
        ∙ conditions_go cs (before ++ l ∷ []) (place + 1) rest (omega (arith, length-append before (l ∷ []))) e.1
        (λ n. ap (λ x. answer C (closed n (sheet_of x [] [])) rest) (append_assoc before (l ∷ []) cs) ∙ k n)

    variables_go : (vs before : List Variable) (cs : List ℕ) (place : ℕ) (rest : List Record) → length cs ≤ 16 → length before + length vs ≤ 64 → Each (ValidVariable C (sheet_of cs [] [])) vs
        → ((n : ℕ) → answer C (closed n (sheet_of cs (before ++ vs) [])) rest ≡ a)
        → answer C (closed place (sheet_of cs before [])) (numbered variable (length before) vs ++ rest) ≡ a
    variables_go [] before cs place rest m h e k = ap (λ x. answer C (closed place (sheet_of cs x [])) rest) (sym (append-nil before)) ∙ k place
    variables_go (v ∷ vs) before cs place rest m h e k =
        closing.variable_step C place (sheet_of cs before []) (variable_record (length before) v.fed) (tree v.policy ++ numbered variable (length before + 1) vs ++ rest) refl
        ∙ first_holds (rule 3 place 0 true ∷ variable_rules (variable_record (length before) v.fed) place (length before)) _ (refl, (and_from (leb (cond v.fed 1 0) 1) true (fed_fits v.fed) refl, (next_is (length before) 64 (omega arith), tt)))
        ∙ ap (λ b. answer C (at (place + 1) (sheet_of cs before []) (a_variable place b) (1 ∷ []) (λ ps. ps)) (tree v.policy ++ numbered variable (length before + 1) vs ++ rest)) (fed_back v.fed)
        ∙ ap (answer C (at (place + 1) (sheet_of cs before []) (a_variable place v.fed) (1 ∷ []) (λ ps. ps))) (append_assoc (tree v.policy) (numbered variable (length before + 1) vs) rest)
        ∙ tree_goes v.policy (place + 1) (sheet_of cs before []) (a_variable place v.fed) 1 [] (λ ps. ps) (numbered variable (length before + 1) vs ++ rest) e.0.0
        ∙ closing.settle C (place + 1 + length (tree v.policy)) (sheet_of cs before []) (a_variable place v.fed) (λ ps. v.policy ∷ ps) (numbered variable (length before + 1) vs ++ rest)
        ∙ each_holds 0 16 (λ c. rule 9 place c (not (wipes c v.policy) || C.below (level_of (sheet_of cs before []) c) (present_level C v.policy))) _ (λ c l. implies (wipes c v.policy) _ (e.0.1 c))
        ∙ ap (λ n. answer C (closed (place + 1 + length (tree v.policy)) (sheet_of cs (before ++ v ∷ []) [])) (numbered variable n vs ++ rest)) (sym (length-append before (v ∷ [])))
        ∙ variables_go vs (before ++ v ∷ []) cs (place + 1 + length (tree v.policy)) rest m (omega (arith, length-append before (v ∷ []))) e.1
        (λ n. ap (λ x. answer C (closed n (sheet_of cs x [])) rest) (append_assoc before (v ∷ []) vs) ∙ k n)

    permits_go : (ps before : List Permit) (cs : List ℕ) (vs : List Variable) (place : ℕ) (rest : List Record) → length before + length ps ≤ 8 → Each (ValidPermit C (sheet_of cs [] [])) ps
        → ((n : ℕ) → answer C (closed n (sheet_of cs vs (before ++ ps))) rest ≡ a)
        → answer C (closed place (sheet_of cs vs before)) (numbered permit (length before) ps ++ rest) ≡ a
    permits_go [] before cs vs place rest h e k = ap (λ x. answer C (closed place (sheet_of cs vs x)) rest) (sym (append-nil before)) ∙ k place
    permits_go (p ∷ ps) before cs vs place rest h e k =
        closing.permit_step C place (sheet_of cs vs before) (permit_record (length before) p.conditions) (tree p.from ++ tree p.to ++ numbered permit (length before + 1) ps ++ rest) refl
        ∙ first_holds (permit_rules (permit_record (length before) p.conditions) place (length before)) _ (refl, (next_is (length before) 8 (omega arith), tt))
        ∙ each_holds 0 32 (λ c. rule 7 place c (not (bit c p.conditions) || declared_condition (sheet_of cs vs before) c)) _ (λ c l. implies (bit c p.conditions) _ (λ b. lt-ltb c (length cs) (e.0.1 c b)))
        ∙ ap (answer C (at (place + 1) (sheet_of cs vs before) (a_permit p.conditions) (1 ∷ 1 ∷ []) (λ ts. ts)))
        (append_assoc (tree p.from ++ tree p.to) (numbered permit (length before + 1) ps) rest ∙ append_assoc (tree p.from) (tree p.to) (numbered permit (length before + 1) ps ++ rest))
        ∙ tree_goes p.from (place + 1) (sheet_of cs vs before) (a_permit p.conditions) 1 (1 ∷ []) (λ ts. ts) (tree p.to ++ (numbered permit (length before + 1) ps ++ rest)) e.0.2
        ∙ tree_goes p.to (place + 1 + length (tree p.from)) (sheet_of cs vs before) (a_permit p.conditions) 1 [] (λ ts. p.from ∷ ts) (numbered permit (length before + 1) ps ++ rest) e.0.3
        ∙ closing.settle C (place + 1 + length (tree p.from) + length (tree p.to)) (sheet_of cs vs before) (a_permit p.conditions) (λ ts. p.from ∷ p.to ∷ ts) (numbered permit (length before + 1) ps ++ rest)
        ∙ ap (λ n. answer C (closed (place + 1 + length (tree p.from) + length (tree p.to)) (sheet_of cs vs (before ++ p ∷ []))) (numbered permit n ps ++ rest)) (sym (length-append before (p ∷ [])))
        ∙ permits_go ps (before ++ p ∷ []) cs vs (place + 1 + length (tree p.from) + length (tree p.to)) rest (omega (arith, length-append before (p ∷ []))) e.1
        (λ n. ap (λ x. answer C (closed n (sheet_of cs vs x)) rest) (append_assoc before (p ∷ []) ps) ∙ k n)

  pub valid_accepted : (sh : Sheet) → Valid C sh → answer C start (written sh) ≡ accepted sh
  unfolding written
  valid_accepted sh v =
      conditions_go (accepted sh) sh.conditions [] 0 (numbered variable 0 sh.variables ++ numbered permit 0 sh.permits) (omega (arith, v.counts.0)) v.levels
      (λ n. variables_go (accepted sh) sh.variables [] sh.conditions n (numbered permit 0 sh.permits) v.counts.0 (omega (arith, v.counts.1)) v.variables
      (λ m. ap (answer C (closed m (sheet_of sh.conditions sh.variables []))) (sym (append-nil (numbered permit 0 sh.permits)))
      ∙ permits_go (accepted sh) sh.permits [] sh.conditions sh.variables m [] (omega (arith, v.counts.2)) v.permits (λ l. closing.end C l sh)))
