use Rattle.std.proofs.Common.{◌≡◌, ◌+◌, ◌-◌, ◌<◌, length, sym, refl, ◌∙◌, arith, rules}
use Rattle.records.specs.Records.{records}
use Rattle.records.proofs.Eights.{records_short}
use Rattle.program.proofs.Exits.{at_err}
use Rattle.program.proofs.BlockSteps as steps
use Rattle.program.proofs.checker.Checker.+blocks.Goals as goal

pub check_block-loop-first-init : goal.check_block-loop-first-init
check_block-loop-first-init t c = record { same_end = refl; onward = omega arith; masks = refl; context = refl; reads = steps.reads_none _ _ _ _ _ _ _ }

pub check_block-returns-in_err-kind-clause-answer : goal.check_block-returns-in_err-kind-clause-answer
check_block-returns-in_err-kind-clause-answer t c =
    let i = c.loop-first.invariant in
    at_err _ _ _ _ c.from_residual.ensures.1 (steps.refused_after _ _ _ _ i.reads (steps.refused_as _ _ _ _ c.in-Some.ensures.2 (steps.refused_under i.masks _ _ i.context (c.in_err-kind.ensures (records c.in-Some.behind.left.now)))))

pub check_block-returns-in-Mark-clause-answer : goal.check_block-returns-in-Mark-clause-answer
check_block-returns-in-Mark-clause-answer t c =
    let i = c.loop-first.invariant in
    let p = steps.passed_under i.masks c.args.block.opened c.args.block.innermost i.context c.in-Mark.is c.in_ok-kind.ensures in
    steps.block_kept (steps.block_marked _ _ _ c.args.block.innermost _ p i.reads c.in-Some.ensures.2 c.in-Some.ensures.0) (search rules)

pub check_block-loop-first-preserved : goal.check_block-loop-first-preserved
check_block-loop-first-preserved t c =
    let i = c.loop-first.invariant in
    let f = c.in_ok-ahead-in_default-2.ensures.forward in
    record {
      same_end = omega (arith, i.same_end, c.in-Some.ensures.0, c.in-Some.ensures.1, f.0);
      onward = omega (arith, i.onward, f.1);
      masks = c.check_command.ensures.restored.masks ∙ i.masks;
      context = c.check_command.ensures.restored.context ∙ i.context;
      reads =
          steps.reads_more _ _ _ _ i.reads (steps.reads_as _ _ _ _ c.in-Some.ensures.2
          (steps.reads_under i.masks _ _ i.context (c.in_ok-ahead-in_default-2.ensures.answer c.args.block.innermost c.in_ok-kind.ensures c.in_default-2.not-Mark)));
    }

pub check_block-returns-in-None-clause-answer : goal.check_block-returns-in-None-clause-answer
check_block-returns-in-None-clause-answer t c =
    let i = c.loop-first.invariant in
    steps.block_kept (steps.block_ended _ _ _ c.args.block.innermost c.in-None.is i.reads (records_short c.loop-first.ahead.left.now c.in_default.ensures)) (search rules)

pub check_block-returns-clause-answer : goal.check_block-returns-clause-answer
check_block-returns-clause-answer t c =
    let i = c.loop-first.invariant in
    rw c.at.ensures
    (steps.refused_after _ _ _ _ i.reads (steps.refused_as _ _ _ _ (records_short c.loop-first.ahead.left.now c.in_default.ensures) (steps.left_open _ _ _ c.args.block.innermost _ c.in-Some-innermost.is)))

pub check_branch-returns-in_err-behind-clause-answer : goal.check_branch-returns-in_err-behind-clause-answer
check_branch-returns-in_err-behind-clause-answer t c inner test T =
    let f = c.in_ok-second.ensures.forward in
    let B = steps.block_at _ _ _ _ c.args.test.next c.in_ok-second.ensures.answer in
    let k : c.in_ok-second.second.place ≡ c.in_ok-second.second.place - 1 + 1 = omega (arith, f.1) in
    at_err _ _ _ _ c.from_residual-in_err-behind.ensures.1
    (steps.second_refused _ _ _ inner _ c.args.test.line.first _ c.args.test.kind test _ T _ _ _ _ B _ (steps.refused_at _ _ _ _ k (steps.refused_under c.check_block.ensures.restored.masks _ _ refl c.in_err-behind.ensures.answer)))

pub check_branch-returns-clause-answer : goal.check_branch-returns-clause-answer
check_branch-returns-clause-answer t c inner test T =
    let f = c.in_ok-second.ensures.forward in
    let g = c.in_ok-behind.ensures.forward in
    let B = steps.block_at _ _ _ _ c.args.test.next c.in_ok-second.ensures.answer in
    let k : c.in_ok-second.second.place ≡ c.in_ok-second.second.place - 1 + 1 = omega (arith, f.1) in
    let D = steps.block_at _ _ _ _ k (steps.block_under c.check_block.ensures.restored.masks _ _ refl c.in_ok-behind.ensures.answer) in
    let l : c.in_ok-behind.behind.place - 1 < length c.check_block-2.new.self.instructions = search rules in
    steps.reads_to _ _ _ _ (omega (arith, g.1)) (steps.branch_reads _ _ _ inner _ c.args.test.line.first _ c.args.test.kind test _ T _ _ _ _ B _ _ _ D _ _ _ l c.of.ensures refl refl)

pub check_command-returns-in-VariableTest-clause-answer : goal.check_command-returns-in-VariableTest-clause-answer
check_command-returns-in-VariableTest-clause-answer t c inner h n =
    let b = steps.branches _ _ _ inner _ c.args.command.line.first c.args.command.kind _ c.context_inside-inside.ensures h c.in-VariableTest.is in
    c.check_branch.ensures.answer inner b.0 b.1

pub check_command-returns-in_default : goal.check_command-returns-in_default
check_command-returns-in_default t c =
    let l : c.args.command.line.place < length c.args.self.now.instructions = search rules in
    record {
      restored = record { masks = refl; context = refl };
      forward = (refl, omega (arith, c.args.command.next));
      answer = λ inner h n.
          steps.reads_to _ _ _ _ (sym c.args.command.next)
          (steps.plain_reads _ _ _ inner _ c.args.command.line.first _ _ l c.args.command.kind _ c.of.ensures h c.in_default.not-VariableTest c.in_default.not-ConditionTest c.in_default.not-Loop n);
    }

pub check_loop-returns-in_err-behind-clause-answer : goal.check_loop-returns-in_err-behind-clause-answer
check_loop-returns-in_err-behind-clause-answer t c inner h e =
    at_err _ _ _ _ c.from_residual.ensures.1 (steps.loop_refused _ _ _ inner _ c.args.head.line.first _ _ h e _ (steps.refused_at _ _ _ _ c.args.head.next c.in_err-behind.ensures.answer))

pub check_loop-returns-clause-answer : goal.check_loop-returns-clause-answer
check_loop-returns-clause-answer t c inner h e =
    let f = c.in_ok-behind.ensures.forward in
    let B = steps.block_at _ _ _ _ c.args.head.next c.in_ok-behind.ensures.answer in
    let l : c.in_ok-behind.behind.place - 1 < length c.check_block.new.self.instructions = search rules in
    steps.reads_to _ _ _ _ (omega (arith, f.1)) (steps.loop_reads _ _ _ inner _ c.args.head.line.first _ _ h e _ _ _ _ B _ _ l refl refl)
