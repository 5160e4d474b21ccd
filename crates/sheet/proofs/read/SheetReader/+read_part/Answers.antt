use Rattle.std.proofs.Common.{ap}
use lib.Bits.{bit_or}
use Rattle.std.proofs.lemmas.Result.{MatchResult-weaker}
use Rattle.sheet.proofs.LetterSteps.{leaf_letter, node_letter, neither}
use Rattle.sheet.proofs.Refusing.{refuses}
use Rattle.sheet.proofs.TreeSteps as steps
use Rattle.sheet.proofs.TreeSteps.{refused_as, read_as}
use Rattle.sheet.proofs.read.SheetReader.+read_part.Goals as goal

pub returns-in_default-clause-answer : goal.returns-in_default-clause-answer
returns-in_default-clause-answer g t c = rw (c.at-in_default.ensures, c.in_default.ensures) (steps.refused_end _ _ _ _)

pub returns-in-None-clause-answer : goal.returns-in-None-clause-answer
returns-in-None-clause-answer g t c =
    let n = neither _ c.in-None.ensures in
    rw c.at-in-None.ensures (refused_as c.in-Some.ensures.0 c.in-Some.ensures.2 (steps.refused_letter _ _ _ _ _ _ n.0 n.1))

pub returns-in_err-level-in-Some-Leaf-clause-answer : goal.returns-in_err-level-in-Some-Leaf-clause-answer
returns-in_err-level-in-Some-Leaf-clause-answer g t c =
    let l = leaf_letter _ (rw c.in-Some-Leaf.field-0-is at c.in-Some-Leaf.ensures) in
    refuses _ _ _ c.from_residual.ensures.1 (refused_as c.in-Some.ensures.0 c.in-Some.ensures.2 (steps.refused_leaf _ _ _ _ _ _ _ l c.in_err-level-in-Some-Leaf.ensures))

pub returns-in_ok-level-in-Some-Leaf-clause-answer : goal.returns-in_ok-level-in-Some-Leaf-clause-answer
returns-in_ok-level-in-Some-Leaf-clause-answer g t c =
    let l = leaf_letter _ (rw c.in-Some-Leaf.field-0-is at c.in-Some-Leaf.ensures) in
    rw c.in-Some.first.next (read_as c.in-Some.ensures.0 c.in-Some.ensures.2 (steps.read_leaf _ _ _ _ _ _ _ _ _ _ l c.in_ok-level-in-Some-Leaf.ensures c.add.ensures))

pub returns-in_err-condition-in-Some-Node-clause-answer : goal.returns-in_err-condition-in-Some-Node-clause-answer
returns-in_err-condition-in-Some-Node-clause-answer g t c =
    let l = node_letter _ (rw c.in-Some-Node.field-0-is at c.in-Some-Node.ensures) in
    refuses _ _ _ c.from_residual-in_err-condition-in-Some-Node.ensures.1 (refused_as c.in-Some.ensures.0 c.in-Some.ensures.2 (steps.refused_node _ _ _ _ _ _ _ l c.in_err-condition-in-Some-Node.ensures))

pub returns-in_err-later-in-Some-Node-clause-answer : goal.returns-in_err-later-in-Some-Node-clause-answer
returns-in_err-later-in-Some-Node-clause-answer g t c =
    let l = node_letter _ (rw c.in-Some-Node.field-0-is at c.in-Some-Node.ensures) in
    let one = rw c.in-Some.first.next at c.in_err-later-in-Some-Node.ensures.answer in
    refuses _ _ _ c.from_residual-in_err-later-in-Some-Node.ensures.1 (refused_as c.in-Some.ensures.0 c.in-Some.ensures.2 (steps.refused_present _ _ _ _ _ _ _ l c.in_ok-condition-in-Some-Node.ensures _ one))

pub returns-in_ok-later-in-Some-Node-clause-answer : goal.returns-in_ok-later-in-Some-Node-clause-answer
returns-in_ok-later-in-Some-Node-clause-answer g t c =
    let e = c.in-Some.ensures in
    let l = node_letter _ (rw c.in-Some-Node.field-0-is at c.in-Some-Node.ensures) in
    let one = rw c.in-Some.first.next at c.in_ok-later-in-Some-Node.ensures.answer in
    let i = ap (bit_or c.args.guard) c.condition_bit.ensures in
    MatchResult-weaker _ c.read_part-in-Some-Node.ensures.answer
    (λ p two. read_as e.0 e.2 (steps.read_node _ _ _ _ _ _ _ l c.in_ok-condition-in-Some-Node.ensures _ _ _ _ _ _ c.pass_node.ensures one _ _ _ _ i two))
    (λ r two. refused_as e.0 e.2 (steps.refused_later _ _ _ _ _ _ _ l c.in_ok-condition-in-Some-Node.ensures _ _ _ _ _ _ c.pass_node.ensures one _ two))
