use Rattle.sheet.proofs.PermitSteps as steps
use Rattle.sheet.proofs.Refusing.{refuses}
use Rattle.sheet.proofs.read.SheetReader.read_permit.Goals as goal

pub returns-in_err-conditions-clause-answer : goal.returns-in_err-conditions-clause-answer
returns-in_err-conditions-clause-answer g c = λ l. refuses _ _ _ c.from_residual.ensures.1 (steps.refused_record _ _ _ _ _ l _ c.in_err-conditions.ensures)

pub returns-in_err-check_mask-clause-answer : goal.returns-in_err-check_mask-clause-answer
returns-in_err-check_mask-clause-answer g c = λ l. refuses _ _ _ c.from_residual-in_err-check_mask.ensures.1 (steps.refused_mask _ _ _ _ _ l _ c.in_ok-conditions.ensures _ c.in_err-check_mask.ensures)

pub returns-in_err-from-clause-answer : goal.returns-in_err-from-clause-answer
returns-in_err-from-clause-answer g c = λ l.
    let one = rw c.args.item.next at c.in_err-from.ensures.answer in
    refuses _ _ _ c.from_residual-in_err-from.ensures.1 (steps.refused_from _ _ _ _ _ l _ c.in_ok-conditions.ensures c.in_ok-check_mask.ensures _ one)

pub returns-in_err-to-clause-answer : goal.returns-in_err-to-clause-answer
returns-in_err-to-clause-answer g c = λ l.
    let one = rw c.args.item.next at c.in_ok-from.ensures.answer in
    refuses _ _ _ c.from_residual-in_err-to.ensures.1 (steps.refused_to _ _ _ _ _ l _ c.in_ok-conditions.ensures c.in_ok-check_mask.ensures _ _ _ one _ c.in_err-to.ensures.answer)

pub returns-clause-answer : goal.returns-clause-answer
returns-clause-answer g c = λ l.
    let one = rw c.args.item.next at c.in_ok-from.ensures.answer in
    steps.read _ _ _ _ _ l _ c.in_ok-conditions.ensures c.in_ok-check_mask.ensures _ _ _ one _ _ _ c.in_ok-to.ensures.answer
