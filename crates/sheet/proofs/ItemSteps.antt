-- Any item of a sheet against the rules. Assumes nothing.
use Rattle.std.proofs.Common.{◌≡◌, ℕ, ◌+◌, ◌<◌, false, ◌&&◌, List, [], ◌∷◌, length, set, Ok, Err, sym, refl, ap, ◌∙◌, ap₂, inl, inr, arith, length-set}
use Rattle.std.proofs.lemmas.Grind.{common_steps}
use Rattle.std.proofs.lemmas.List.{length-append}
use Rattle.std.proofs.lemmas.Bool.{cases_eq, cond-false}
use Rattle.lattice.specs.Lattice.{Lattice}
use Rattle.records.specs.declared.Record.{Record}
use Rattle.records.specs.declared.refusal.Refusal.{Refusal}
use Rattle.records.specs.Refusals.{refusal}
use Rattle.records.specs.Rules.{Rule, rule, first, judged}
use Rattle.records.proofs.Firsts.{first_holds, judged_ok, judged_err}
use Rattle.sheet.specs.declared.rows.SheetTable.{SheetTable}
use Rattle.sheet.specs.Sheet.{Sheet, Variable, Permit}
use Rattle.sheet.specs.Rules.{answer, none}
use Rattle.sheet.specs.Checks.{condition_rules}
use Rattle.sheet.specs.Reading.{Builds, closed, with_condition, ItemRefused, ItemRead}
use Rattle.sheet.proofs.Closed as closing
use Rattle.sheet.proofs.Tables.{grows}
use Rattle.sheet.proofs.VariableSteps.{nothing}

something : {X : Type 0} (xs : List X) → (length xs ≡ 0 → ⊥) → none xs ≡ false
something xs e = grind (arith, common_steps)

late : (xs : List Variable) (ys : List Permit) → (length xs ≡ 0 → length ys ≡ 0 → ⊥) → (none xs && none ys) ≡ false
late xs ys f = grind (arith, common_steps)

module _ (C : Lattice) (before : SheetTable) (place : ℕ) (r : Record) (rs : List Record) where
  -- a letter that may not stand here
  pub refused_letter : (r.letter ≡ 67 → before.variables ≡ 0 → before.permits ≡ 0 → ⊥) → (r.letter ≡ 86 → before.permits ≡ 0 → ⊥) → (r.letter ≡ 82 → ⊥) → ItemRefused C before place r rs (refusal 3 place 0)
  refused_letter c v p = record {
    says = λ sh t. elim (cases_eq r.letter 67) [
      | inl e ↦ closing.condition_step C place sh r rs e ∙ cond-false _ _ _ (late sh.variables sh.permits (λ x y. c e (t.represents.variables ∙ x) (t.represents.permits ∙ y)))
      | inr a ↦ elim (cases_eq r.letter 86) [
        | inl e ↦ closing.variable_step C place sh r rs e ∙ cond-false _ _ _ (something sh.permits (λ y. v e (t.represents.permits ∙ y)))
        | inr b ↦ closing.stranger C place sh r rs a b p
      ]
    ];
  }

  module _ (l : r.letter ≡ 67) (v : before.variables ≡ 0) (p : before.permits ≡ 0) where
    abbrev condition_asked : List Rule
    condition_asked = condition_rules r place before.conditions (C.known r.n)

    asks : (sh : Sheet) → Builds before sh → answer C (closed place sh) (r ∷ rs) ≡ first condition_asked (answer C (closed (place + 1) (with_condition sh r.n)) rs)
    asks sh t =
        let next = answer C (closed (place + 1) (with_condition sh r.n)) rs in
        closing.condition_step C place sh r rs l
        ∙ ap₂ (λ (x : List Variable) (y : List Permit). first (rule 3 place 0 (none x && none y) ∷ condition_rules r place (length sh.conditions) (C.known r.n)) (answer C (closed (place + 1) (with_condition sh r.n)) rs))
        (nothing sh.variables (sym t.represents.variables ∙ v)) (nothing sh.permits (sym t.represents.permits ∙ p))
        ∙ ap (λ n. first (condition_rules r place n (C.known r.n)) (answer C (closed (place + 1) (with_condition sh r.n)) rs)) (sym t.represents.conditions)

    pub condition_refused : (e : Refusal) → Err e ≡ judged condition_asked r.n → ItemRefused C before place r rs e
    condition_refused e h = record { says = λ sh t. asks sh t ∙ judged_err condition_asked r.n e h _ }

    module _ (level : ℕ) (h : Ok level ≡ judged condition_asked r.n) where
      abbrev after : SheetTable
      after = record {
        conditions = before.conditions + 1;
        levels = set before.levels before.conditions level;
        variables = before.variables;
        rows = before.rows;
        permits = before.permits;
        grants = before.grants;
      }

      pub small : before.conditions < 16
      small = grind (arith, common_steps)

      pub condition_read : ItemRead C before after place r rs (place + 1) rs
      condition_read = record {
        sheet = λ sh. with_condition sh level;
        builds = λ sh b. let t = b.represents in record {
          represents = record {
            sizes = (length-set before.levels before.conditions level ∙ t.sizes.0, t.sizes.1, t.sizes.2);
            conditions = omega (arith, t.conditions, length-append sh.conditions (level ∷ []));
            levels = grows (λ y x. y ≡ x) before.levels sh.conditions level 0 level 0 before.conditions t.conditions (omega (arith, small, t.sizes.0)) t.levels refl;
            variables = t.variables;
            rows = t.rows;
            beyond = t.beyond;
            permits = t.permits;
            grants = t.grants;
          };
          room = omega (arith, small);
        };
        goes = λ sh t.
            let p = judged_ok condition_asked r.n level h in
            asks sh t ∙ first_holds condition_asked _ p.1 ∙ ap (λ n. answer C (closed (place + 1) (with_condition sh n)) rs) (sym p.0);
      }
