-- The exit of a `?`. Assumes nothing.
use Rattle.std.proofs.Common.{◌≡◌, Result, Ok, Err, MatchResult, IsErrAnd, sym, subst}

pub at_err : {T E : Type 0} (P : T → Type 0) (Q : E → Type 0) (r : Result T E) (e : E) → IsErrAnd r (λ x. x ≡ e) → Q e → MatchResult r P Q
at_err P Q (Ok x) e h q = absurd h
at_err P Q (Err x) e h q = subst Q (sym h) q
