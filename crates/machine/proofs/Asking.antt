-- A list of rules: what is so of the refusals and of the step is so of what is asked first.
use Rattle.std.proofs.Common.{◌≡◌, Bool, true, false, cond, List, [], ◌∷◌, refl}
use Rattle.records.specs.declared.refusal.Refusal.{Refusal}
use Rattle.records.specs.Rules.{Rule}
use Rattle.records.proofs.Firsts.{AllHold}
use Rattle.machine.specs.Calls.{Answer}
use Rattle.machine.specs.Machine.{State, Step, answered, asked}

pub asked_keeps : (P : Step → Type 0) (st : State) (qs : List Rule) (t : Step) → ((r : Refusal) → P (answered st (Answer.refused r))) → P t → P (asked st qs t)
asked_keeps P st [] t h k = k
asked_keeps P st (q ∷ qs) t h k =
    elim q.holds as (λ b. P (cond b (asked st qs t) (answered st (Answer.refused q.refusal)))) [ true ↦ asked_keeps P st qs t h k | false ↦ h q.refusal ]

-- of two states that are asked the same
pub asked_both : (P : Step → Step → Type 0) (st st' : State) (qs : List Rule) (t t' : Step)
    → ((r : Refusal) → P (answered st (Answer.refused r)) (answered st' (Answer.refused r))) → (AllHold qs → P t t') → P (asked st qs t) (asked st' qs t')
asked_both P st st' [] t t' h k = k tt
asked_both P st st' (q ∷ qs) t t' h k = go q.holds refl (λ e. asked_both P st st' qs t t' h (λ rest. k (e, rest)))
  where
    go : (b : Bool) → q.holds ≡ b → (q.holds ≡ true → P (asked st qs t) (asked st' qs t'))
        → P (cond b (asked st qs t) (answered st (Answer.refused q.refusal))) (cond b (asked st' qs t') (answered st' (Answer.refused q.refusal)))
    go true e f = f e
    go false e f = h q.refusal
