-- A permit's record and its trees against the rules. Assumes nothing.
use Rattle.std.proofs.Common.{◌≡◌, ℕ, ◌+◌, ◌<◌, ◌≤◌, List, [], ◌∷◌, length, set, Ok, Err, sym, refl, ap, ◌∙◌, subst, arith, length-set}
use Rattle.std.proofs.lemmas.Grind.{common_steps}
use Rattle.std.proofs.lemmas.List.{length-append}
use Rattle.lattice.specs.Lattice.{Lattice}
use Rattle.records.specs.declared.Record.{Record}
use Rattle.records.specs.declared.refusal.Refusal.{Refusal}
use Rattle.records.specs.Rules.{Reading, refused, Rule, first, judged}
use Rattle.records.proofs.Firsts.{first_holds, judged_ok, judged_err}
use Rattle.policy.specs.declared.row.Row.{Row}
use Rattle.policy.specs.Policy.{leaf}
use Rattle.policy.specs.Rows.{Holds, blank}
use Rattle.policy.proofs.Filled.{filled_holds}
use Rattle.sheet.specs.declared.rows.Grant.{Grant}
use Rattle.sheet.specs.declared.rows.SheetTable.{SheetTable}
use Rattle.sheet.specs.Sheet.{Sheet, Permit}
use Rattle.sheet.specs.Rules.{a_permit, answer}
use Rattle.sheet.specs.Table.{blank_grant, HoldsPermit}
use Rattle.sheet.specs.Checks.{permit_rules, mask_rules}
use Rattle.sheet.specs.Reading.{Builds, at, closed, with_permit, TreeRefused, TreeRead, ItemRefused, ItemRead}
use Rattle.sheet.proofs.Closed as closing
use Rattle.sheet.proofs.Tables.{grows}

module _ (C : Lattice) (before : SheetTable) (place : ℕ) (r : Record) (rs : List Record) (l : r.letter ≡ 82) where
  abbrev permit_asked : List Rule
  permit_asked = permit_rules r place before.permits

  abbrev inside : Sheet → ℕ → Reading Sheet
  inside sh mask = answer C (at (place + 1) sh (a_permit mask) (1 ∷ 1 ∷ []) (λ ps. ps)) rs

  asks : (sh : Sheet) → Builds before sh → answer C (closed place sh) (r ∷ rs) ≡ first permit_asked (first (mask_rules before.conditions r.n place) (inside sh r.n))
  asks sh t =
      closing.permit_step C place sh r rs l
      ∙ ap (λ n. first (permit_rules r place n) (first (mask_rules (length sh.conditions) r.n place) (inside sh r.n))) (sym t.represents.permits)
      ∙ ap (λ n. first permit_asked (first (mask_rules n r.n place) (inside sh r.n))) (sym t.represents.conditions)

  pub refused_record : (e : Refusal) → Err e ≡ judged permit_asked r.n → ItemRefused C before place r rs e
  refused_record e h = record { says = λ sh t. asks sh t ∙ judged_err permit_asked r.n e h _ }

  module _ (mask : ℕ) (h : Ok mask ≡ judged permit_asked r.n) where
    enters : (sh : Sheet) → Builds before sh → answer C (closed place sh) (r ∷ rs) ≡ first (mask_rules before.conditions mask place) (inside sh mask)
    enters sh t =
        let p = judged_ok permit_asked r.n mask h in
        asks sh t ∙ first_holds permit_asked _ p.1 ∙ ap (λ m. first (mask_rules before.conditions m place) (inside sh m)) (sym p.0)

    pub refused_mask : (e : Refusal) → ((a : Reading Sheet) → first (mask_rules before.conditions mask place) a ≡ refused e) → ItemRefused C before place r rs e
    refused_mask e f = record { says = λ sh t. enters sh t ∙ f _ }

    module _ (f : (a : Reading Sheet) → first (mask_rules before.conditions mask place) a ≡ a) where
      pub refused_from : (e : Refusal) → TreeRefused C before.conditions (place + 1) 1 rs e → ItemRefused C before place r rs e
      refused_from e g = record { says = λ sh t. enters sh t ∙ f _ ∙ g.says sh (a_permit mask) (1 ∷ []) (λ ps. ps) (sym t.represents.conditions) }

      module _ (from : Row) (next : ℕ) (left : List Record) (one : TreeRead C before.conditions (place + 1) 1 0 rs blank from next left) where
        half : (sh : Sheet) → Builds before sh → answer C (closed place sh) (r ∷ rs) ≡ answer C (at next sh (a_permit mask) (1 ∷ []) (λ ps. one.policy ∷ ps)) left
        half sh t = enters sh t ∙ f _ ∙ one.goes sh (a_permit mask) (1 ∷ []) (λ ps. ps) (sym t.represents.conditions)

        pub refused_to : (e : Refusal) → TreeRefused C before.conditions next 1 left e → ItemRefused C before place r rs e
        refused_to e g = record { says = λ sh t. half sh t ∙ g.says sh (a_permit mask) [] (λ ps. one.policy ∷ ps) (sym t.represents.conditions) }

        module _ (to : Row) (last : ℕ) (rest : List Record) (two : TreeRead C before.conditions next 1 0 left blank to last rest) where
          abbrev grant : Grant
          grant = record { conditions = mask; from = from; to = to }

          abbrev after : SheetTable
          after = record { conditions = before.conditions; levels = before.levels; variables = before.variables; rows = before.rows; permits = before.permits + 1; grants = set before.grants before.permits grant }

          small : before.permits < 8
          small = grind (arith, common_steps)

          holds : (row : Row) (start : ℕ) (xs ys : List Record) (last : ℕ) (tr : TreeRead C before.conditions start 1 0 xs blank row last ys) → before.conditions ≤ 16 → Holds row tr.policy
          holds row start xs ys last tr m = subst (λ x. Holds x tr.policy) (sym tr.row) (filled_holds before.conditions tr.policy m tr.shaped)

          pub read : ItemRead C before after place r rs last rest
          read = record {
            sheet = λ sh. with_permit sh record { conditions = mask; from = one.policy; to = two.policy };
            builds = λ sh b.
                let t = b.represents in
                let x : Permit = record { conditions = mask; from = one.policy; to = two.policy } in
                let d : Permit = record { conditions = 0; from = leaf 0; to = leaf 0 } in
                record {
                  represents = record {
                    sizes = (t.sizes.0, t.sizes.1, length-set before.grants before.permits grant ∙ t.sizes.2);
                    conditions = t.conditions;
                    levels = t.levels;
                    variables = t.variables;
                    rows = t.rows;
                    beyond = t.beyond;
                    permits = omega (arith, t.permits, length-append sh.permits (x ∷ []));
                    grants = grows HoldsPermit before.grants sh.permits grant blank_grant x d before.permits t.permits (omega (arith, small, t.sizes.2)) t.grants record { conditions = refl; from = holds _ _ _ _ _ one b.room; to = holds _ _ _ _ _ two b.room };
                  };
                  room = b.room;
                };
            goes = λ sh t.
                half sh t ∙ two.goes sh (a_permit mask) [] (λ ps. one.policy ∷ ps) (sym t.represents.conditions)
                ∙ closing.settle C last sh (a_permit mask) (λ ps. one.policy ∷ two.policy ∷ ps) rest;
          }
