-- What is accepted is a valid sheet, written. Assumes nothing.
use Rattle.std.proofs.Common.{◌≡◌, ℕ, zero, suc, ◌+◌, ◌<◌, ◌≤◌, true, not, ◌&&◌, ◌||◌, eqb, ltb, List, [], ◌∷◌, ◌++◌, length, sym, refl, ap, ◌∙◌, subst, inl, inr, arith}
use Rattle.std.proofs.lemmas.Grind.{common_steps}
use Rattle.std.proofs.lemmas.List.{length-append, append_assoc, append-nil}
use Rattle.std.proofs.lemmas.Bool.{leb-true, ltb-true, eqb-true, and_parts, cases_eq, cases_lt}
use Rattle.records.specs.declared.Record.{Record}
use Rattle.lattice.specs.Lattice.{Lattice}
use Rattle.policy.specs.Policy.{Policy, leaf, erase, wipes, present_level}
use Rattle.sheet.specs.Sheet.{Sheet, Variable, Permit, declared_condition, level_of}
use Rattle.sheet.specs.Written.{tree, leaf_record, erase_record, condition_record, variable_record, permit_record, numbered, condition, variable, permit, written}
use Rattle.sheet.specs.Valid.{Level, WellFormed, ValidVariable, ValidPermit, Valid}
use Rattle.sheet.specs.Rules.{Owner, a_variable, a_permit, answer, joined, none, rest_zero, conditions, variables, permits, start}
use Rattle.sheet.specs.Checks.{leaf_rules, node_rules, condition_rules, variable_rules, permit_rules}
use Rattle.sheet.specs.Reading.{at, closed}
use Rattle.sheet.proofs.Steps as steps
use Rattle.sheet.proofs.Closed as closing
use Rattle.sheet.proofs.Records.{leaf_is, node_is}
use Rattle.sheet.proofs.Accepted.{sheet_of, wipes_declared}
use Rattle.records.specs.Refusals.{refusal}
use Rattle.records.specs.Records.{Each, Fit}
use Rattle.records.proofs.Formats.{each_append}
use Rattle.policy.proofs.Masks.{bit_high}
use Rattle.records.proofs.Firsts.{refused_accepted, took_all, took_each, implied}
use Rattle.records.specs.Rules.{Rule, rule, first, each_from, accepted}
use Rattle.policy.specs.Masks.{bit}

module _ (C : Lattice) where
  abbrev Matches : ℕ → List ℕ → List Policy → Type 0
  Matches n [] [] = Unit {0}
  Matches n (d ∷ ds) (t ∷ ts) = WellFormed C n d t × Matches n ds ts
  Matches n [] (t ∷ ts) = ⊥
  Matches n (d ∷ ds) [] = ⊥

  abbrev forest : List Policy → List Record
  forest [] = []
  forest (t ∷ ts) = tree t ++ forest ts

  record Forest (sh : Sheet) (owner : Owner) (ds : List ℕ) (trees : List Policy → List Policy) (rs : List Record) (sh' : Sheet) : Type 0 where
    policies : List Policy
    rest : List Record
    place : ℕ
    fits : Each Fit rest
    grown : Matches (length sh.conditions) ds policies
    stands : rs ≡ forest policies ++ rest
    goes : answer C (at place sh owner [] (λ ps. trees (policies ++ ps))) rest ≡ accepted sh'

  leaf_first : (sh : Sheet) (owner : Owner) (d : ℕ) (ds : List ℕ) (trees : List Policy → List Policy) (r : Record) (rs : List Record) (sh' : Sheet) → r ≡ leaf_record r.n → Level C r.n → d ≤ 4
      → Forest sh owner ds (λ ps. trees (leaf r.n ∷ ps)) rs sh' → Forest sh owner (d ∷ ds) trees (r ∷ rs) sh'
  unfolding tree
  leaf_first sh owner d ds trees r rs sh' e l k f = record {
    policies = leaf r.n ∷ f.policies;
    rest = f.rest;
    place = f.place;
    fits = f.fits;
    grown = ((l, k), f.grown);
    stands = ap (λ x. x ∷ rs) e ∙ ap (λ x. leaf_record r.n ∷ x) f.stands;
    goes = f.goes;
  }

  node_parts : (sh : Sheet) (owner : Owner) (d : ℕ) (ds : List ℕ) (trees : List Policy → List Policy) (r : Record) (rs : List Record) (sh' : Sheet) → r ≡ erase_record r.a → r.a < length sh.conditions → d ≤ 4
      → (ts : List Policy) (rest : List Record) (place : ℕ) → Each Fit rest → Matches (length sh.conditions) ((d + 1) ∷ (d + 1) ∷ ds) ts → rs ≡ forest ts ++ rest
      → answer C (at place sh owner [] (λ ps. trees (joined r.a (ts ++ ps)))) rest ≡ accepted sh' → Forest sh owner (d ∷ ds) trees (r ∷ rs) sh'
  unfolding tree
  node_parts sh owner d ds trees r rs sh' e l k [] rest place fits m st go = absurd m
  node_parts sh owner d ds trees r rs sh' e l k (p ∷ []) rest place fits m st go = absurd m.1
  node_parts sh owner d ds trees r rs sh' e l k (p ∷ q ∷ ts) rest place fits m st go = record {
    policies = erase r.a p q ∷ ts;
    rest = rest;
    place = place;
    fits = fits;
    grown = ((l, k, m.0, m.1.0), m.1.1);
    stands = ap (λ x. x ∷ rs) e ∙ ap (λ x. erase_record r.a ∷ x) (st ∙ ap (λ x. x ++ rest) (sym (append_assoc (tree p) (tree q) (forest ts))));
    goes = go;
  }

  plant : (place : ℕ) (sh : Sheet) (owner : Owner) (ds : List ℕ) (trees : List Policy → List Policy) (rs : List Record) (sh' : Sheet) → Each Fit rs
      → answer C (at place sh owner ds trees) rs ≡ accepted sh' → Forest sh owner ds trees rs sh'
  plant place sh owner [] trees rs sh' f h = record { policies = []; rest = rs; place = place; fits = f; grown = tt; stands = refl; goes = h }
  plant place sh owner (d ∷ ds) trees [] sh' f h = refused_accepted (refusal 3 place 0) sh' (sym (steps.end C place sh owner d ds trees) ∙ h)
  plant place sh owner (d ∷ ds) trees (r ∷ rs) sh' f h =
      elim (cases_eq r.letter 76) [
        | inl e ↦
            let next = answer C (at (place + 1) sh owner ds (λ ps. trees (leaf r.n ∷ ps))) rs in
            let t = took_all (leaf_rules r place d (C.known r.n)) next sh' (sym (steps.leaf_step C place sh owner d ds trees r rs e) ∙ h) in
            leaf_first sh owner d ds trees r rs sh' (leaf_is r e t.0.0) (t.0.1.0, f.0) (leb-true d 4 t.0.1.1.0) (plant (place + 1) sh owner ds (λ ps. trees (leaf r.n ∷ ps)) rs sh' f.1 t.1)
        | inr n ↦ elim (cases_eq r.letter 69) [
          | inl e ↦
              let next = answer C (at (place + 1) sh owner ((d + 1) ∷ (d + 1) ∷ ds) (λ ps. trees (joined r.a ps))) rs in
              let t = took_all (node_rules r place d (length sh.conditions)) next sh' (sym (steps.node_step C place sh owner d ds trees r rs e) ∙ h) in
              let i = plant (place + 1) sh owner ((d + 1) ∷ (d + 1) ∷ ds) (λ ps. trees (joined r.a ps)) rs sh' f.1 t.1 in
              node_parts sh owner d ds trees r rs sh' (node_is r e t.0.0) (ltb-true r.a (length sh.conditions) t.0.1.0) (leb-true d 4 t.0.1.1.0) i.policies i.rest i.place i.fits i.grown i.stands i.goes
          | inr m ↦ refused_accepted (refusal 3 place 0) sh' (sym (steps.stranger C place sh owner d ds trees r rs n m) ∙ h)
        ]
      ]

  record Good (cs : List ℕ) (vs : List Variable) (ps : List Permit) : Type 0 where
    pub counts : (length cs ≤ 16) × (length vs ≤ 64) × (length ps ≤ 8)
    pub levels : Each (Level C) cs
    pub variables : Each (ValidVariable C (sheet_of C cs [] [])) vs
    pub permits : Each (ValidPermit C (sheet_of C cs [] [])) ps

  abbrev Got : Sheet → List Record → Sheet → Type 0
  Got sh rs sh' = Good sh'.conditions sh'.variables sh'.permits × (written sh' ≡ written sh ++ rs)

  numbered_more : {X : Type 0} (f : ℕ → X → List Record) (i : ℕ) (xs : List X) (x : X) → numbered f i (xs ++ x ∷ []) ≡ numbered f i xs ++ f (i + length xs) x
  numbered_more f i [] x = append-nil (f i x) ∙ ap (λ n. f n x) (omega arith)
  numbered_more f i (y ∷ xs) x =
      ap (λ l. f i y ++ l) (numbered_more f (i + 1) xs x)
      ∙ sym (append_assoc (f i y) (numbered f (i + 1) xs) (f (i + 1 + length xs) x))
      ∙ ap (λ n. f i y ++ numbered f (i + 1) xs ++ f n x) (omega arith)

  from_zero : {X : Type 0} (f : ℕ → X → List Record) (xs : List X) (x : X) → numbered f 0 (xs ++ x ∷ []) ≡ numbered f 0 xs ++ f (length xs) x
  from_zero f xs x = numbered_more f 0 xs x ∙ ap (λ n. numbered f 0 xs ++ f n x) (omega arith)

  condition_good : (cs : List ℕ) (l : ℕ) (vs : List Variable) (ps : List Permit) → (none vs && none ps) ≡ true → Good cs vs ps → length cs < 16 → Level C l → Good (cs ++ l ∷ []) vs ps
  condition_good cs l [] [] e g h k = record {
    counts = (omega (arith, length-append cs (l ∷ [])), omega arith, omega arith);
    levels = each_append (Level C) cs (l ∷ []) g.levels (k, tt);
    variables = tt;
    permits = tt;
  }
  condition_good cs l [] (p ∷ ps) e g h k = cc e
  condition_good cs l (v ∷ vs) ps e g h k = cc e

  condition_written : (cs : List ℕ) (l : ℕ) (vs : List Variable) (ps : List Permit) → (none vs && none ps) ≡ true
      → written (sheet_of C (cs ++ l ∷ []) vs ps) ≡ written (sheet_of C cs vs ps) ++ condition (length cs) l
  unfolding written
  condition_written cs l [] [] e =
      append-nil (numbered condition 0 (cs ++ l ∷ [])) ∙ from_zero condition cs l ∙ ap (λ x. x ++ condition (length cs) l) (sym (append-nil (numbered condition 0 cs)))
  condition_written cs l [] (p ∷ ps) e = cc e
  condition_written cs l (v ∷ vs) ps e = cc e

  variable_written : (cs : List ℕ) (vs : List Variable) (v : Variable) (ps : List Permit) → none ps ≡ true
      → written (sheet_of C cs (vs ++ v ∷ []) ps) ≡ written (sheet_of C cs vs ps) ++ variable (length vs) v
  unfolding written
  variable_written cs vs v [] e =
      ap (λ x. numbered condition 0 cs ++ x) (append-nil (numbered variable 0 (vs ++ v ∷ [])) ∙ from_zero variable vs v ∙ ap (λ x. x ++ variable (length vs) v) (sym (append-nil (numbered variable 0 vs))))
      ∙ sym (append_assoc (numbered condition 0 cs) (numbered variable 0 vs ++ []) (variable (length vs) v))
  variable_written cs vs v (p ∷ ps) e = cc e

  permit_written : (cs : List ℕ) (vs : List Variable) (ps : List Permit) (p : Permit) → written (sheet_of C cs vs (ps ++ p ∷ [])) ≡ written (sheet_of C cs vs ps) ++ permit (length ps) p
  unfolding written
  permit_written cs vs ps p =
      ap (λ x. numbered condition 0 cs ++ (numbered variable 0 vs ++ x)) (from_zero permit ps p)
      ∙ ap (λ x. numbered condition 0 cs ++ x) (sym (append_assoc (numbered variable 0 vs) (numbered permit 0 ps) (permit (length ps) p)))
      ∙ sym (append_assoc (numbered condition 0 cs) (numbered variable 0 vs ++ numbered permit 0 ps) (permit (length ps) p))

  -- one item, and what is read after it
  after : (sh between sh' : Sheet) (rs item rest : List Record) → written between ≡ written sh ++ item → rs ≡ item ++ rest → Got between rest sh' → Got sh rs sh'
  after sh between sh' rs item rest w e g = (g.0, g.1 ∙ ap (λ x. x ++ rest) w ∙ append_assoc (written sh) item rest ∙ ap (λ x. written sh ++ x) (sym e))

  condition_is : (r : Record) (i : ℕ) → r.letter ≡ 67 → rest_zero r conditions ≡ true → r.a ≡ i → r ≡ condition_record i r.n
  condition_is r i e h a = grind (arith, common_steps)

  permit_is : (r : Record) (i : ℕ) → r.letter ≡ 82 → rest_zero r permits ≡ true → r.a ≡ i → r ≡ permit_record i r.n
  permit_is r i e h a = grind (arith, common_steps)

  variable_is : (r : Record) (i : ℕ) → r.letter ≡ 86 → rest_zero r variables ≡ true → r.a ≡ i → r ≡ variable_record i (eqb r.b 1)
  variable_is r i e h a = grind (arith, common_steps)

  one_of : (n : ℕ) (ts : List Policy) → Matches n (1 ∷ []) ts → (p : Policy) × (ts ≡ p ∷ []) × WellFormed C n 1 p
  one_of n [] m = absurd m
  one_of n (p ∷ []) m = (p, refl, m.0)
  one_of n (p ∷ q ∷ ts) m = absurd m.1

  two_of : (n : ℕ) (ts : List Policy) → Matches n (1 ∷ 1 ∷ []) ts → (p q : Policy) × (ts ≡ p ∷ q ∷ []) × WellFormed C n 1 p × WellFormed C n 1 q
  two_of n [] m = absurd m
  two_of n (p ∷ []) m = absurd m.1
  two_of n (p ∷ q ∷ []) m = (p, q, refl, m.0, m.1.0)
  two_of n (p ∷ q ∷ t ∷ ts) m = absurd m.1.1

  bit_low : (c m : ℕ) → m < 4294967296 → bit c m ≡ true → c < 32
  bit_low c m h e = elim (cases_lt c 32) [ inl l ↦ l | inr l ↦ cc (sym (bit_high 32 c m h l) ∙ e) ]

  shorter : (xs ys rs : List Record) → rs ≡ xs ++ ys → length ys ≤ length rs
  shorter xs ys rs e = omega (arith, ap length e, length-append xs ys)

  read : (n : ℕ) (rs : List Record) (place : ℕ) (cs : List ℕ) (vs : List Variable) (ps : List Permit) (sh' : Sheet) → length rs ≤ n → Each Fit rs → Good cs vs ps
      → answer C (closed place (sheet_of C cs vs ps)) rs ≡ accepted sh' → Got (sheet_of C cs vs ps) rs sh'
  read n [] place cs vs ps sh' l f g h =
      let e : sheet_of C cs vs ps ≡ sh' = cc (sym (closing.end C place (sheet_of C cs vs ps)) ∙ h) in
      subst (λ x. Got (sheet_of C cs vs ps) [] x) e (g, sym (append-nil (written (sheet_of C cs vs ps))))
  read zero (r ∷ rs) place cs vs ps sh' l f g h = absurd (omega arith)
  read (suc n) (r ∷ rs) place cs vs ps sh' l f g h =
      elim (cases_eq r.letter 67) [
        | inl e ↦
            let next = answer C (closed (place + 1) (sheet_of C (cs ++ r.n ∷ []) vs ps)) rs in
            let t = took_all (rule 3 place 0 (none vs && none ps) ∷ condition_rules r place (length cs) (C.known r.n)) next sh' (sym (closing.condition_step C place (sheet_of C cs vs ps) r rs e) ∙ h) in
            let i = and_parts (eqb r.a (length cs)) (ltb r.a 16) t.0.1.1.0 in
            let q = eqb-true r.a (length cs) i.0 in
            let m = ltb-true r.a 16 i.1 in
            after (sheet_of C cs vs ps) (sheet_of C (cs ++ r.n ∷ []) vs ps) sh' (r ∷ rs) (condition (length cs) r.n) rs (condition_written cs r.n vs ps t.0.0)
            (ap (λ x. x ∷ rs) (condition_is r (length cs) e t.0.1.0 q))
            (read n rs (place + 1) (cs ++ r.n ∷ []) vs ps sh' (omega arith) f.1 (condition_good cs r.n vs ps t.0.0 g (omega (arith, q, m)) (t.0.1.1.1.0, f.0)) t.1)
        | inr n67 ↦ elim (cases_eq r.letter 86) [
          | inl e ↦
              let owner = a_variable place (eqb r.b 1) in
              let next = answer C (at (place + 1) (sheet_of C cs vs ps) owner (1 ∷ []) (λ ts. ts)) rs in
              let t = took_all (rule 3 place 0 (none ps) ∷ variable_rules r place (length vs)) next sh' (sym (closing.variable_step C place (sheet_of C cs vs ps) r rs e) ∙ h) in
              let i = and_parts (eqb r.a (length vs)) (ltb r.a 64) t.0.1.1.0 in
              let q = eqb-true r.a (length vs) i.0 in
              let m = ltb-true r.a 64 i.1 in
              let b = plant (place + 1) (sheet_of C cs vs ps) owner (1 ∷ []) (λ ts. ts) rs sh' f.1 t.1 in
              let o = one_of (length cs) b.policies b.grown in
              let p = o.0 in
              let v : Variable = record { policy = p; fed = eqb r.b 1 } in
              let go = subst (λ ts. answer C (at b.place (sheet_of C cs vs ps) owner [] (λ qs. ts ++ qs)) b.rest ≡ accepted sh') o.1 b.goes in
              let nine = took_each 0 16 (λ c. rule 9 place c (not (wipes c p) || C.below (level_of (sheet_of C cs vs ps) c) (present_level C p))) (answer C (closed b.place (sheet_of C cs (vs ++ v ∷ []) ps)) b.rest) sh'
              (sym (closing.settle C b.place (sheet_of C cs vs ps) owner (λ qs. p ∷ qs) b.rest) ∙ go) in
              let st : rs ≡ tree p ++ b.rest = b.stands ∙ ap (λ ts. forest ts ++ b.rest) o.1 ∙ ap (λ x. x ++ b.rest) (append-nil (tree p)) in
              let d = wipes_declared C (length cs) 1 in
              after (sheet_of C cs vs ps) (sheet_of C cs (vs ++ v ∷ []) ps) sh' (r ∷ rs) (variable (length vs) v) b.rest (variable_written cs vs v ps t.0.0)
              (ap (λ x. x ∷ rs) (variable_is r (length vs) e t.0.1.0 q) ∙ ap (λ x. variable_record (length vs) (eqb r.b 1) ∷ x) st)
              (read n b.rest b.place cs (vs ++ v ∷ []) ps sh' (omega (arith, l, shorter (tree p) b.rest rs st)) b.fits
              record {
                counts = (g.counts.0, omega (arith, length-append vs (v ∷ []), q, m), g.counts.2);
                levels = g.levels;
                variables = each_append (ValidVariable C (sheet_of C cs [] [])) vs (v ∷ []) g.variables
                    ((o.2, λ c s. implied (wipes c p) (C.below (level_of (sheet_of C cs vs ps) c) (present_level C p)) (nine.0 c (omega arith) (omega (arith, d c p o.2 s, g.counts.0))) s), tt);
                permits = g.permits;
              }
              nine.1)
          | inr n86 ↦ elim (cases_eq r.letter 82) [
            | inl e ↦
                let owner = a_permit r.n in
                let next = answer C (at (place + 1) (sheet_of C cs vs ps) owner (1 ∷ 1 ∷ []) (λ ts. ts)) rs in
                let seven : ℕ → Rule = λ c. rule 7 place c (not (bit c r.n) || declared_condition (sheet_of C cs vs ps) c) in
                let w = took_all (permit_rules r place (length ps)) (first (each_from 0 32 seven) next) sh' (sym (closing.permit_step C place (sheet_of C cs vs ps) r rs e) ∙ h) in
                let y = took_each 0 32 seven next sh' w.1 in
                let i = and_parts (eqb r.a (length ps)) (ltb r.a 8) w.0.1.0 in
                let q = eqb-true r.a (length ps) i.0 in
                let m = ltb-true r.a 8 i.1 in
                let b = plant (place + 1) (sheet_of C cs vs ps) owner (1 ∷ 1 ∷ []) (λ ts. ts) rs sh' f.1 y.1 in
                let o = two_of (length cs) b.policies b.grown in
                let s = o.0 in
                let t = o.1 in
                let p : Permit = record { conditions = r.n; from = s; to = t } in
                let go = subst (λ ts. answer C (at b.place (sheet_of C cs vs ps) owner [] (λ qs. ts ++ qs)) b.rest ≡ accepted sh') o.2 b.goes in
                let st : rs ≡ (tree s ++ tree t) ++ b.rest = b.stands ∙ ap (λ ts. forest ts ++ b.rest) o.2 ∙ ap (λ x. (tree s ++ x) ++ b.rest) (append-nil (tree t)) in
                after (sheet_of C cs vs ps) (sheet_of C cs vs (ps ++ p ∷ [])) sh' (r ∷ rs) (permit (length ps) p) b.rest (permit_written cs vs ps p)
                (ap (λ x. x ∷ rs) (permit_is r (length ps) e w.0.0 q) ∙ ap (λ x. permit_record (length ps) r.n ∷ x) st)
                (read n b.rest b.place cs vs (ps ++ p ∷ []) sh' (omega (arith, l, shorter (tree s ++ tree t) b.rest rs st)) b.fits
                record {
                  counts = (g.counts.0, g.counts.1, omega (arith, length-append ps (p ∷ []), q, m));
                  levels = g.levels;
                  variables = g.variables;
                  permits = each_append (ValidPermit C (sheet_of C cs [] [])) ps (p ∷ []) g.permits
                      ((f.0, λ c x. ltb-true c (length cs) (implied (bit c r.n) (declared_condition (sheet_of C cs vs ps) c) (y.0 c (omega arith) (bit_low c r.n f.0 x)) x), o.3, o.4), tt);
                }
                (sym (closing.settle C b.place (sheet_of C cs vs ps) owner (λ qs. s ∷ t ∷ qs) b.rest) ∙ go))
            | inr n82 ↦ refused_accepted (refusal 3 place 0) sh' (sym (closing.stranger C place (sheet_of C cs vs ps) r rs n67 n86 n82) ∙ h)
          ]
        ]
      ]

  pub accepting : (rs : List Record) (sh : Sheet) → length rs ≤ 512 → Each Fit rs → answer C start rs ≡ accepted sh → Valid C sh × (rs ≡ written sh)
  unfolding written
  accepting rs sh l f h =
      let g = read (length rs) rs 0 [] [] [] sh (omega arith) f record { counts = (omega arith, omega arith, omega arith); levels = tt; variables = tt; permits = tt } h in
      let w : written sh ≡ rs = g.1 in
      (record { size = omega (arith, ap length w, l); counts = g.0.counts; levels = g.0.levels; variables = g.0.variables; permits = g.0.permits }, sym w)
