-- What is read of a tree, one record on. Assumes nothing.
use Rattle.std.proofs.Common.{◌≡◌, ℕ, ◌+◌, List, [], ◌∷◌, ◌++◌, length, Ok, Err, sym, refl, ap, ◌∙◌, arith}
use Rattle.std.proofs.lemmas.Bool.{leb-true, ltb-true}
use Rattle.std.proofs.lemmas.List.{length-append, append_assoc}
use Rattle.lattice.specs.Lattice.{Lattice}
use Rattle.records.specs.declared.Record.{Record}
use Rattle.records.specs.declared.refusal.Refusal.{Refusal}
use Rattle.records.specs.Refusals.{refusal}
use Rattle.records.specs.Rules.{Rule, first, judged}
use Rattle.records.proofs.Firsts.{first_holds, judged_ok, judged_err}
use Rattle.policy.specs.declared.row.Row.{Row}
use Rattle.policy.specs.Policy.{Policy, leaf, erase}
use Rattle.policy.specs.Rows.{including, with_level, with_node, filled}
use Rattle.sheet.specs.Sheet.{Sheet}
use Rattle.sheet.specs.Written.{tree, erase_record}
use Rattle.sheet.specs.Rules.{Owner, answer, joined}
use Rattle.sheet.specs.Checks.{leaf_rules, node_rules}
use Rattle.sheet.specs.Reading.{at, TreeRefused, TreeRead}
use Rattle.sheet.proofs.Records.{leaf_is, node_is}
use Rattle.sheet.proofs.Steps as steps

-- a tree at the first of the records
pub refused_as : {C : Lattice} {conditions place start depth : ℕ} {rs xs : List Record} {e : Refusal} → start ≡ place → rs ≡ xs → TreeRefused C conditions start depth xs e → TreeRefused C conditions place depth rs e
refused_as p q f = rw (sym p, q) f

pub read_as : {C : Lattice} {conditions place start depth guard next : ℕ} {rs xs rest : List Record} {before after : Row} → start ≡ place → rs ≡ xs → TreeRead C conditions start depth guard xs before after next rest → TreeRead C conditions place depth guard rs before after next rest
read_as p q f = rw (sym p, q) f

module _ (C : Lattice) (conditions place depth : ℕ) where
  pub refused_end : TreeRefused C conditions place depth [] (refusal 3 place 0)
  refused_end = record { says = λ sh owner ds trees k. steps.end C place sh owner depth ds trees }

  module _ (r : Record) (rs : List Record) where
    pub refused_letter : (r.letter ≡ 76 → ⊥) → (r.letter ≡ 69 → ⊥) → TreeRefused C conditions place depth (r ∷ rs) (refusal 3 place 0)
    refused_letter p q = record { says = λ sh owner ds trees k. steps.stranger C place sh owner depth ds trees r rs p q }

    abbrev leaf_asked : List Rule
    leaf_asked = leaf_rules r place depth (C.known r.n)

    leaf_asks : (sh : Sheet) (owner : Owner) (ds : List ℕ) (trees : List Policy → List Policy) → r.letter ≡ 76
        → answer C (at place sh owner (depth ∷ ds) trees) (r ∷ rs) ≡ first leaf_asked (answer C (at (place + 1) sh owner ds (λ ps. trees (leaf r.n ∷ ps))) rs)
    leaf_asks sh owner ds trees l = steps.leaf_step C place sh owner depth ds trees r rs l

    pub refused_leaf : (e : Refusal) → r.letter ≡ 76 → Err e ≡ judged leaf_asked r.n → TreeRefused C conditions place depth (r ∷ rs) e
    refused_leaf e l h = record { says = λ sh owner ds trees k. leaf_asks sh owner ds trees l ∙ judged_err leaf_asked r.n e h _ }

    pub read_leaf : (level guard : ℕ) (before after : Row) → r.letter ≡ 76 → Ok level ≡ judged leaf_asked r.n → after ≡ with_level before level guard
        → TreeRead C conditions place depth guard (r ∷ rs) before after (place + 1) rs
    unfolding tree filled
    read_leaf level guard before after l h a =
        let p = judged_ok leaf_asked r.n level h in
        record {
          policy = leaf r.n;
          shaped = leb-true depth 4 p.1.1.1.0;
          stands = ap (λ x. x ∷ rs) (leaf_is r l p.1.0);
          reached = refl;
          row = a ∙ ap (λ x. with_level before x guard) p.0;
          goes = λ sh owner ds trees k. leaf_asks sh owner ds trees l ∙ first_holds leaf_asked _ p.1;
        }

    abbrev node_asked : List Rule
    node_asked = node_rules r place depth conditions

    node_asks : (sh : Sheet) (owner : Owner) (ds : List ℕ) (trees : List Policy → List Policy) → length sh.conditions ≡ conditions → r.letter ≡ 69
        → answer C (at place sh owner (depth ∷ ds) trees) (r ∷ rs) ≡ first node_asked (answer C (at (place + 1) sh owner ((depth + 1) ∷ (depth + 1) ∷ ds) (λ ps. trees (joined r.a ps))) rs)
    node_asks sh owner ds trees k l =
        steps.node_step C place sh owner depth ds trees r rs l
        ∙ ap (λ n. first (node_rules r place depth n) (answer C (at (place + 1) sh owner ((depth + 1) ∷ (depth + 1) ∷ ds) (λ ps. trees (joined r.a ps))) rs)) k

    pub refused_node : (e : Refusal) → r.letter ≡ 69 → Err e ≡ judged node_asked r.a → TreeRefused C conditions place depth (r ∷ rs) e
    refused_node e l h = record { says = λ sh owner ds trees k. node_asks sh owner ds trees k l ∙ judged_err node_asked r.a e h _ }

    module _ (condition : ℕ) (l : r.letter ≡ 69) (h : Ok condition ≡ judged node_asked r.a) where
      node_goes : (sh : Sheet) (owner : Owner) (ds : List ℕ) (trees : List Policy → List Policy) → length sh.conditions ≡ conditions
          → answer C (at place sh owner (depth ∷ ds) trees) (r ∷ rs) ≡ answer C (at (place + 1) sh owner ((depth + 1) ∷ (depth + 1) ∷ ds) (λ ps. trees (joined r.a ps))) rs
      node_goes sh owner ds trees k = node_asks sh owner ds trees k l ∙ first_holds node_asked _ (judged_ok node_asked r.a condition h).1

      pub refused_present : (e : Refusal) → TreeRefused C conditions (place + 1) (depth + 1) rs e → TreeRefused C conditions place depth (r ∷ rs) e
      refused_present e f = record {
        says = λ sh owner ds trees k.
            node_goes sh owner ds trees k ∙ f.says sh owner ((depth + 1) ∷ ds) (λ ps. trees (joined r.a ps)) k;
      }

      module _ (guard next : ℕ) (before between : Row) (left : List Record) (inner : Row) (w : inner ≡ with_node before condition) (one : TreeRead C conditions (place + 1) (depth + 1) guard rs inner between next left) where
        part_goes : (sh : Sheet) (owner : Owner) (ds : List ℕ) (trees : List Policy → List Policy) → length sh.conditions ≡ conditions
            → answer C (at place sh owner (depth ∷ ds) trees) (r ∷ rs) ≡ answer C (at next sh owner ((depth + 1) ∷ ds) (λ ps. trees (joined r.a (one.policy ∷ ps)))) left
        part_goes sh owner ds trees k = node_goes sh owner ds trees k ∙ one.goes sh owner ((depth + 1) ∷ ds) (λ ps. trees (joined r.a ps)) k

        pub refused_later : (e : Refusal) → TreeRefused C conditions next (depth + 1) left e → TreeRefused C conditions place depth (r ∷ rs) e
        refused_later e f = record {
          says = λ sh owner ds trees k.
              part_goes sh owner ds trees k ∙ f.says sh owner ds (λ ps. trees (joined r.a (one.policy ∷ ps))) k;
        }

        pub read_node : (last inside : ℕ) (after : Row) (rest : List Record) → inside ≡ including condition guard → TreeRead C conditions next (depth + 1) inside left between after last rest
            → TreeRead C conditions place depth guard (r ∷ rs) before after last rest
        unfolding tree filled
        read_node last inside after rest i two =
            let p = judged_ok node_asked r.a condition h in
            record {
              policy = erase r.a one.policy two.policy;
              shaped = (ltb-true r.a conditions p.1.1.0, leb-true depth 4 p.1.1.1.0, one.shaped, two.shaped);
              stands =
                  ap (λ x. x ∷ rs) (node_is r l p.1.0)
                  ∙ ap (λ x. erase_record r.a ∷ x) (one.stands ∙ ap (λ x. tree one.policy ++ x) two.stands ∙ sym (append_assoc (tree one.policy) (tree two.policy) rest));
              reached = let a = one.reached in let b = two.reached in let c = length-append (tree one.policy) (tree two.policy) in omega (arith, a, b, c);
              row =
                  two.row ∙ ap (λ g. filled g two.policy between) i
                  ∙ ap (λ x. filled (including condition guard) two.policy x) (one.row ∙ ap (λ x. filled guard one.policy x) w)
                  ∙ ap (λ c. filled (including c guard) two.policy (filled guard one.policy (with_node before c))) p.0;
              goes = λ sh owner ds trees k. part_goes sh owner ds trees k ∙ two.goes sh owner ds (λ ps. trees (joined r.a (one.policy ∷ ps))) k;
            }
