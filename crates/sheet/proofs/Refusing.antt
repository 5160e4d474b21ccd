-- The exit of a `?` refuses as the callee did. Assumes nothing.
use Rattle.std.proofs.Common.{◌≡◌, Result}
use Rattle.std.specs.Result.{IsErrAnd, MatchResult}
use Rattle.std.proofs.lemmas.Result.{err_from_is_err_and}
use Rattle.records.specs.declared.refusal.Refusal.{Refusal}

pub refuses : {X : Type 0} (P : X → Type 0) (Q : Refusal → Type 0) {e : Refusal} (r : Result X Refusal) → IsErrAnd r (λ y. y ≡ e) → Q e → MatchResult r P Q
refuses P Q r h q = let p = err_from_is_err_and r h in rw (p.1, p.2) q
