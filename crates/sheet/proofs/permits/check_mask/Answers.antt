use Rattle.std.proofs.Common.{◌≡◌, ℕ, Bool, true, false, not, ◌||◌, ltb, None, Some, arith, rules, tests}
use Rattle.std.proofs.lemmas.Iterator.{first_from_Range}
use Rattle.policy.specs.Masks.{bit}
use Rattle.records.specs.Rules.{Rule, rule}
use Rattle.records.proofs.Firsts.{each_refuses, each_holds}
use Rattle.sheet.proofs.permits.check_mask.Goals as goal

-- a condition that the mask may have
abbrev fits : ℕ → ℕ → ℕ → Bool
fits mask conditions k = not (bit k mask) || ltb k conditions

pub returns-in-Some : goal.returns-in-Some
returns-in-Some c =
    let test = fits c.args.mask c.args.conditions in
    let f : ℕ → Rule = λ k. rule 7 c.args.place k (test k) in
    let m = first_from_Range _ _ _ (Some c.in-Some.condition) (λ k. test k ≡ false) (λ k. test k ≡ true) c.in-Some.ensures.ran (λ x q k. search (rules, tests)) (λ x q k. search (rules, tests)) in
    λ a. rw (c.at.ensures, c.into.ensures) (each_refuses 0 32 c.in-Some.condition f a (omega arith) m.1 (λ k l. m.3 k (omega arith) l) m.2)

pub returns-in-None : goal.returns-in-None
returns-in-None c =
    let test = fits c.args.mask c.args.conditions in
    let f : ℕ → Rule = λ k. rule 7 c.args.place k (test k) in
    let m = first_from_Range _ _ _ None (λ k. test k ≡ false) (λ k. test k ≡ true) c.in-None.ensures.ran (λ x q k. search (rules, tests)) (λ x q k. search (rules, tests)) in
    λ a. each_holds 0 32 f a (λ k l. m k (omega arith) l)
