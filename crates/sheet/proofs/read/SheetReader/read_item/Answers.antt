use Rattle.sheet.proofs.ItemSteps as steps
use Rattle.sheet.proofs.LetterSteps.{condition_letter, no_item}
use Rattle.sheet.proofs.Refusing.{refuses}
use Rattle.sheet.proofs.read.SheetReader.read_item.Goals as goal

pub returns-in_err-level-in-Some-Condition-clause-answer : goal.returns-in_err-level-in-Some-Condition-clause-answer
returns-in_err-level-in-Some-Condition-clause-answer g c =
    let l = condition_letter _ c.args.self.now.table.variables c.args.self.now.table.permits _ c.section.ensures (rw c.in-Some-Condition.field-0-is at c.in-Some-Condition.ensures) in
    refuses _ _ _ c.from_residual.ensures.1 (steps.condition_refused _ _ _ _ _ l.0 l.1 l.2 _ c.in_err-level-in-Some-Condition.ensures)

pub returns-in_ok-level-in-Some-Condition-clause-answer : goal.returns-in_ok-level-in-Some-Condition-clause-answer
returns-in_ok-level-in-Some-Condition-clause-answer g c =
    let l = condition_letter _ c.args.self.now.table.variables c.args.self.now.table.permits _ c.section.ensures (rw c.in-Some-Condition.field-0-is at c.in-Some-Condition.ensures) in
    rw c.args.item.next (steps.condition_read _ _ _ _ _ l.0 l.1 l.2 _ c.in_ok-level-in-Some-Condition.ensures)

pub returns-in-None-clause-answer : goal.returns-in-None-clause-answer
returns-in-None-clause-answer g c =
    let n = no_item _ c.args.self.now.table.variables c.args.self.now.table.permits _ c.section.ensures c.in-None.ensures in
    rw c.at.ensures (steps.refused_letter _ _ _ _ _ n.0 n.1 n.2)
