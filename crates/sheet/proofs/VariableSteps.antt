-- A variable's record and its tree against the rules. Assumes nothing.
use Rattle.std.proofs.Common.{◌≡◌, ℕ, ◌+◌, ◌<◌, ◌≤◌, Bool, true, false, not, ◌||◌, eqb, List, [], ◌∷◌, length, get_or, set, Ok, Err, sym, refl, ap, ◌∙◌, subst, ap₂, arith, length-set}
use Rattle.std.proofs.lemmas.Grind.{common_steps}
use Rattle.std.proofs.lemmas.List.{length-append}
use Rattle.std.proofs.lemmas.Bool.{both_ways}
use Rattle.lattice.specs.Lattice.{Lattice}
use Rattle.records.specs.declared.Record.{Record}
use Rattle.records.specs.declared.refusal.Refusal.{Refusal}
use Rattle.records.specs.Rules.{Reading, refused, Rule, rule, each_from, first, judged}
use Rattle.records.proofs.Firsts.{first_holds, each_same, judged_ok, judged_err}
use Rattle.policy.specs.declared.row.Row.{Row}
use Rattle.policy.specs.Policy.{Policy, leaf, erase, wipes, present_level}
use Rattle.policy.specs.Masks.{bit}
use Rattle.policy.specs.Rows.{Holds, blank, no_leaf}
use Rattle.policy.specs.Shapes.{Shaped}
use Rattle.policy.proofs.Filled.{filled_holds, holds_present}
use Rattle.sheet.specs.declared.rows.VariableRow.{VariableRow}
use Rattle.sheet.specs.declared.rows.SheetTable.{SheetTable}
use Rattle.sheet.specs.Sheet.{Sheet, Variable, level_of}
use Rattle.sheet.specs.Rules.{a_variable, answer, none}
use Rattle.sheet.specs.Table.{blank_variable, HoldsVariable}
use Rattle.sheet.specs.Checks.{variable_rules, wiper_rules}
use Rattle.sheet.specs.Reading.{Builds, at, closed, with_variable, TreeRefused, TreeRead, ItemRefused, ItemRead}
use Rattle.sheet.proofs.Closed as closing
use Rattle.sheet.proofs.Tables.{grows, stays_beyond}

pub nothing : {X : Type 0} (xs : List X) → length xs ≡ 0 → xs ≡ []
nothing xs e = grind (arith, common_steps)

wipes_shaped : (n d c : ℕ) (t : Policy) → Shaped n d t → wipes c t ≡ true → c < n
wipes_shaped n d c (leaf l) g h = absurd (both_ways false refl h)
wipes_shaped n d c (erase e p q) g h = grind (arith, common_steps, wipes_shaped n (d + 1) c p g.2)

-- rule 9 of the policy is rule 9 of its row
module _ (n : ℕ) (t : Policy) (row : Row) (s : Shaped n 1 t) (h : Holds row t) where
  wipers_same : (C : Lattice) (sh : Sheet) (levels : List ℕ) (present place : ℕ) (a : Reading Sheet) → n ≡ length sh.conditions
      → ((c : ℕ) → c < length sh.conditions → get_or levels c 0 ≡ level_of sh c) → present ≡ present_level C t
      → first (each_from 0 16 (λ c. rule 9 place c (not (wipes c t) || C.below (level_of sh c) (present_level C t)))) a ≡ first (wiper_rules C levels row.wipers present place) a
  wipers_same C sh levels present place a q f e =
      each_same 0 16 (λ c. rule 9 place c (not (wipes c t) || C.below (level_of sh c) (present_level C t))) (λ c. rule 9 place c (not (bit c row.wipers) || C.below (get_or levels c 0) present)) a
      (λ c l. ap (rule 9 place c) (go c (wipes c t) refl ∙ ap (λ b. not b || C.below (get_or levels c 0) present) (sym (h.wipers c))))
    where
      go : (c : ℕ) (b : Bool) → wipes c t ≡ b → (not b || C.below (level_of sh c) (present_level C t)) ≡ (not b || C.below (get_or levels c 0) present)
      go c true w = sym (ap₂ (λ x y. C.below x y) (f c (omega (arith, q, wipes_shaped n 1 c t s w))) e)
      go c false w = refl

module _ (C : Lattice) (before : SheetTable) (place : ℕ) (r : Record) (rs : List Record) (l : r.letter ≡ 86) (np : before.permits ≡ 0) where
  abbrev variable_asked : List Rule
  variable_asked = variable_rules r place before.variables

  abbrev inside : Sheet → Bool → Reading Sheet
  inside sh fed = answer C (at (place + 1) sh (a_variable place fed) (1 ∷ []) (λ ps. ps)) rs

  asks : (sh : Sheet) → Builds before sh → answer C (closed place sh) (r ∷ rs) ≡ first variable_asked (inside sh (eqb r.b 1))
  asks sh t =
      closing.variable_step C place sh r rs l
      ∙ ap (λ x. first (rule 3 place 0 (none x) ∷ variable_rules r place (length sh.variables)) (inside sh (eqb r.b 1))) (nothing sh.permits (sym t.represents.permits ∙ np))
      ∙ ap (λ n. first (variable_rules r place n) (inside sh (eqb r.b 1))) (sym t.represents.variables)

  pub refused_record : (e : Refusal) → Err e ≡ judged variable_asked (eqb r.b 1) → ItemRefused C before place r rs e
  refused_record e h = record { says = λ sh t. asks sh t ∙ judged_err variable_asked (eqb r.b 1) e h _ }

  module _ (fed : Bool) (h : Ok fed ≡ judged variable_asked (eqb r.b 1)) where
    enters : (sh : Sheet) → Builds before sh → answer C (closed place sh) (r ∷ rs) ≡ inside sh fed
    enters sh t = let p = judged_ok variable_asked (eqb r.b 1) fed h in asks sh t ∙ first_holds variable_asked _ p.1 ∙ ap (inside sh) (sym p.0)

    pub refused_tree : (e : Refusal) → TreeRefused C before.conditions (place + 1) 1 rs e → ItemRefused C before place r rs e
    refused_tree e f = record { says = λ sh t. enters sh t ∙ f.says sh (a_variable place fed) [] (λ ps. ps) (sym t.represents.conditions) }

    module _ (row : Row) (next : ℕ) (rest : List Record) (tr : TreeRead C before.conditions (place + 1) 1 0 rs blank row next rest) where
      abbrev present : ℕ
      present = (get_or row.levels 0 no_leaf).level

      holds : before.conditions ≤ 16 → Holds row tr.policy
      holds m = subst (λ x. Holds x tr.policy) (sym tr.row) (filled_holds before.conditions tr.policy m tr.shaped)

      goes_on : (sh : Sheet) → Builds before sh
          → answer C (closed place sh) (r ∷ rs) ≡ first (wiper_rules C before.levels row.wipers present place) (answer C (closed next (with_variable sh (record { policy = tr.policy; fed = fed }))) rest)
      goes_on sh t =
          enters sh t
          ∙ tr.goes sh (a_variable place fed) [] (λ ps. ps) (sym t.represents.conditions)
          ∙ closing.settle C next sh (a_variable place fed) (λ ps. tr.policy ∷ ps) rest
          ∙ wipers_same before.conditions tr.policy row tr.shaped (holds t.room) C sh before.levels present place _ t.represents.conditions t.represents.levels (holds_present C row tr.policy no_leaf (holds t.room))

      pub refused_wipers : (x : Refusal) → ((a : Reading Sheet) → first (wiper_rules C before.levels row.wipers present place) a ≡ refused x) → ItemRefused C before place r rs x
      refused_wipers x f = record { says = λ sh t. goes_on sh t ∙ f _ }

      abbrev row_after : VariableRow
      row_after = record { policy = row; fed = fed }

      abbrev after : SheetTable
      after = record { conditions = before.conditions; levels = before.levels; variables = before.variables + 1; rows = set before.rows before.variables row_after; permits = before.permits; grants = before.grants }

      small : before.variables < 64
      small = grind (arith, common_steps)

      builds_after : (sh : Sheet) → Builds before sh → Builds after (with_variable sh (record { policy = tr.policy; fed = fed }))
      builds_after sh b =
          let x : Variable = record { policy = tr.policy; fed = fed } in
          let d : Variable = record { policy = leaf 0; fed = false } in
          let t = b.represents in
          let n = t.variables in
          record {
            represents = record {
              sizes = (t.sizes.0, length-set before.rows before.variables row_after ∙ t.sizes.1, t.sizes.2);
              conditions = t.conditions;
              levels = t.levels;
              variables = omega (arith, n, length-append sh.variables (x ∷ []));
              rows = grows HoldsVariable before.rows sh.variables row_after blank_variable x d before.variables n (omega (arith, small, t.sizes.1)) t.rows record { policy = holds b.room; fed = refl };
              beyond = stays_beyond before.rows sh.variables row_after blank_variable x before.variables n t.beyond;
              permits = t.permits;
              grants = t.grants;
            };
            room = b.room;
          }

      pub read : ((a : Reading Sheet) → first (wiper_rules C before.levels row.wipers present place) a ≡ a) → ItemRead C before after place r rs next rest
      read f = record {
        sheet = λ sh. with_variable sh (record { policy = tr.policy; fed = fed });
        builds = builds_after;
        goes = λ sh t. goes_on sh t ∙ f _;
      }
