use Rattle.sheet.proofs.Refusing.{refuses}
use Rattle.sheet.proofs.VariableSteps as steps
use Rattle.sheet.proofs.read.SheetReader.read_variable.Goals as goal

pub returns-in_err-fed-clause-answer : goal.returns-in_err-fed-clause-answer
returns-in_err-fed-clause-answer g c = λ l np. refuses _ _ _ c.from_residual.ensures.1 (steps.refused_record _ _ _ _ _ l np _ c.in_err-fed.ensures)

pub returns-in_err-policy-clause-answer : goal.returns-in_err-policy-clause-answer
returns-in_err-policy-clause-answer g c = λ l np.
    let one = rw c.args.item.next at c.in_err-policy.ensures.answer in
    refuses _ _ _ c.from_residual-in_err-policy.ensures.1 (steps.refused_tree _ _ _ _ _ l np _ c.in_ok-fed.ensures _ one)

pub returns-in_err-check_wipers-clause-answer : goal.returns-in_err-check_wipers-clause-answer
returns-in_err-check_wipers-clause-answer g c = λ l np.
    let one = rw c.args.item.next at c.in_ok-policy.ensures.answer in
    refuses _ _ _ c.from_residual-in_err-check_wipers.ensures.1 (steps.refused_wipers _ _ _ _ _ l np _ c.in_ok-fed.ensures _ _ _ one _ c.in_err-check_wipers.ensures)

pub returns-clause-answer : goal.returns-clause-answer
returns-clause-answer g c = λ l np.
    let one = rw c.args.item.next at c.in_ok-policy.ensures.answer in
    steps.read _ _ _ _ _ l np _ c.in_ok-fed.ensures _ _ _ one c.in_ok-check_wipers.ensures
