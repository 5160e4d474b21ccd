use Rattle.std.proofs.Common.{sym, refl, ap, ◌∙◌}
use Rattle.program.proofs.Exits.{at_err}
use Rattle.program.specs.Contexts.{with_variable}
use Rattle.program.proofs.RecordSteps as steps
use Rattle.program.proofs.checker.Checker.check_record.Goals as goal

pub returns-in_err-target-in-Set : goal.returns-in_err-target-in-Set
returns-in_err-target-in-Set c =
    at_err _ _ _ _ c.from_residual-in_err-target-in-Set.ensures.1 (steps.reach_fields _ _ _ _ _ _ (steps.setting _ _ _ _ _ _ (steps.found c.in-Set.is c.kind_at.ensures c.in_ok-kind.ensures.ok_part)) _ c.in_err-target-in-Set.ensures)

pub returns-in_err-check_reach-in-Set : goal.returns-in_err-check_reach-in-Set
returns-in_err-check_reach-in-Set c =
    at_err _ _ _ _ c.from_residual-in_err-check_reach-in-Set.ensures.1 (steps.reach_refused _ _ _ _ _ _ (steps.setting _ _ _ _ _ _ (steps.found c.in-Set.is c.kind_at.ensures c.in_ok-kind.ensures.ok_part)) c.in_ok-target-in-Set.target c.args.self.now.context c.in_ok-target-in-Set.ensures refl _ c.in_err-check_reach-in-Set.ensures)

pub returns-in_ok-check_reach-in-Set : goal.returns-in_ok-check_reach-in-Set
returns-in_ok-check_reach-in-Set c = steps.passed_as _ _ _ _ _ _ c.in-Set.is (steps.reach_passed _ _ _ _ _ _ (steps.setting _ _ _ _ _ _ (steps.found c.in-Set.is c.kind_at.ensures c.in_ok-kind.ensures.ok_part)) c.in_ok-target-in-Set.target c.args.self.now.context c.in_ok-target-in-Set.ensures refl c.in_ok-check_reach-in-Set.ensures)

pub returns-in_err-target-in-Sign : goal.returns-in_err-target-in-Sign
returns-in_err-target-in-Sign c =
    at_err _ _ _ _ c.from_residual-in_err-target-in-Sign.ensures.1 (steps.reach_fields _ _ _ _ _ _ (steps.combining _ _ _ _ _ _ _ (steps.found c.in-Sign.is c.kind_at.ensures c.in_ok-kind.ensures.ok_part)) _ c.in_err-target-in-Sign.ensures)

pub returns-in_err-check_reach-in-Sign : goal.returns-in_err-check_reach-in-Sign
returns-in_err-check_reach-in-Sign c =
    at_err _ _ _ _ c.from_residual-in_err-check_reach-in-Sign.ensures.1 (steps.reach_refused _ _ _ _ _ _ (steps.combining _ _ _ _ _ _ _ (steps.found c.in-Sign.is c.kind_at.ensures c.in_ok-kind.ensures.ok_part)) c.in_ok-target-in-Sign.target c.with_variable-reading.result c.in_ok-target-in-Sign.ensures (c.with_variable-reading.ensures ∙ ap (with_variable c.args.line.first.b) c.with_variable.ensures) _ c.in_err-check_reach-in-Sign.ensures)

pub returns-in_ok-check_reach-in-Sign : goal.returns-in_ok-check_reach-in-Sign
returns-in_ok-check_reach-in-Sign c = steps.passed_as _ _ _ _ _ _ c.in-Sign.is (steps.reach_passed _ _ _ _ _ _ (steps.combining _ _ _ _ _ _ _ (steps.found c.in-Sign.is c.kind_at.ensures c.in_ok-kind.ensures.ok_part)) c.in_ok-target-in-Sign.target c.with_variable-reading.result c.in_ok-target-in-Sign.ensures (c.with_variable-reading.ensures ∙ ap (with_variable c.args.line.first.b) c.with_variable.ensures) c.in_ok-check_reach-in-Sign.ensures)

pub returns-in_err-target-in-Release : goal.returns-in_err-target-in-Release
returns-in_err-target-in-Release c =
    at_err _ _ _ _ c.from_residual-in_err-target-in-Release.ensures.1 (steps.release_fields _ _ _ _ _ _ (steps.found c.in-Release.is c.kind_at.ensures c.in_ok-kind.ensures.ok_part) _ c.in_err-target-in-Release.ensures)

pub returns-in_err-check_release-in-Release : goal.returns-in_err-check_release-in-Release
returns-in_err-check_release-in-Release c =
    at_err _ _ _ _ c.from_residual-in_err-check_release-in-Release.ensures.1 (steps.release_refused _ _ _ _ _ _ (steps.found c.in-Release.is c.kind_at.ensures c.in_ok-kind.ensures.ok_part) c.in_ok-target-in-Release.target c.in_ok-target-in-Release.ensures _ c.in_err-check_release-in-Release.ensures)

pub returns-in_ok-check_release-in-Release : goal.returns-in_ok-check_release-in-Release
returns-in_ok-check_release-in-Release c = steps.passed_as _ _ _ _ _ _ c.in-Release.is (steps.release_passed _ _ _ _ _ _ (steps.found c.in-Release.is c.kind_at.ensures c.in_ok-kind.ensures.ok_part) c.in_ok-target-in-Release.target c.in_ok-target-in-Release.ensures c.in_ok-check_release-in-Release.ensures)

pub returns-in_err-condition-in-Raise : goal.returns-in_err-condition-in-Raise
returns-in_err-condition-in-Raise c =
    at_err _ _ _ _ c.from_residual-in_err-condition-in-Raise.ensures.1 (steps.reach_fields _ _ _ _ _ _ (steps.raising _ _ _ _ _ _ (steps.found c.in-Raise.is c.kind_at.ensures c.in_ok-kind.ensures.ok_part)) _ c.in_err-condition-in-Raise.ensures)

pub returns-in_err-check_reach-in-Raise : goal.returns-in_err-check_reach-in-Raise
returns-in_err-check_reach-in-Raise c =
    at_err _ _ _ _ c.from_residual-in_err-check_reach-in-Raise.ensures.1 (steps.reach_refused _ _ _ _ _ _ (steps.raising _ _ _ _ _ _ (steps.found c.in-Raise.is c.kind_at.ensures c.in_ok-kind.ensures.ok_part)) c.in_ok-condition-in-Raise.condition c.args.self.now.context c.in_ok-condition-in-Raise.ensures refl _ c.in_err-check_reach-in-Raise.ensures)

pub returns-in_ok-check_reach-in-Raise : goal.returns-in_ok-check_reach-in-Raise
returns-in_ok-check_reach-in-Raise c = steps.passed_as _ _ _ _ _ _ c.in-Raise.is (steps.reach_passed _ _ _ _ _ _ (steps.raising _ _ _ _ _ _ (steps.found c.in-Raise.is c.kind_at.ensures c.in_ok-kind.ensures.ok_part)) c.in_ok-condition-in-Raise.condition c.args.self.now.context c.in_ok-condition-in-Raise.ensures refl c.in_ok-check_reach-in-Raise.ensures)

pub returns-in_err-check_variable_test-in-VariableTest : goal.returns-in_err-check_variable_test-in-VariableTest
returns-in_err-check_variable_test-in-VariableTest c =
    at_err _ _ _ _ c.from_residual-in_err-check_variable_test-in-VariableTest.ensures.1 (steps.fields_refused _ _ _ _ _ _ c.args.line.first.b _ (steps.testing_variable _ _ _ _ _ _ (steps.found c.in-VariableTest.is c.kind_at.ensures c.in_ok-kind.ensures.ok_part)) c.in_err-check_variable_test-in-VariableTest.ensures)

pub returns-in_ok-check_variable_test-in-VariableTest : goal.returns-in_ok-check_variable_test-in-VariableTest
returns-in_ok-check_variable_test-in-VariableTest c = steps.passed_as _ _ _ _ _ _ c.in-VariableTest.is (steps.fields_passed _ _ _ _ _ _ c.args.line.first.b _ (steps.testing_variable _ _ _ _ _ _ (steps.found c.in-VariableTest.is c.kind_at.ensures c.in_ok-kind.ensures.ok_part)) c.in_ok-check_variable_test-in-VariableTest.ensures)

pub returns-in_err-check_condition_test-in-ConditionTest : goal.returns-in_err-check_condition_test-in-ConditionTest
returns-in_err-check_condition_test-in-ConditionTest c =
    at_err _ _ _ _ c.from_residual-in_err-check_condition_test-in-ConditionTest.ensures.1 (steps.fields_refused _ _ _ _ _ _ c.args.line.first.a _ (steps.testing_condition _ _ _ _ _ _ (steps.found c.in-ConditionTest.is c.kind_at.ensures c.in_ok-kind.ensures.ok_part)) c.in_err-check_condition_test-in-ConditionTest.ensures)

pub returns-in_ok-check_condition_test-in-ConditionTest : goal.returns-in_ok-check_condition_test-in-ConditionTest
returns-in_ok-check_condition_test-in-ConditionTest c = steps.passed_as _ _ _ _ _ _ c.in-ConditionTest.is (steps.fields_passed _ _ _ _ _ _ c.args.line.first.a _ (steps.testing_condition _ _ _ _ _ _ (steps.found c.in-ConditionTest.is c.kind_at.ensures c.in_ok-kind.ensures.ok_part)) c.in_ok-check_condition_test-in-ConditionTest.ensures)

pub returns-in_err-check_variable_test-in-Loop : goal.returns-in_err-check_variable_test-in-Loop
returns-in_err-check_variable_test-in-Loop c =
    at_err _ _ _ _ c.from_residual-in_err-check_variable_test-in-Loop.ensures.1 (steps.reach_fields _ _ _ _ _ _ (steps.looping _ _ _ _ _ _ (steps.found c.in-Loop.is c.kind_at.ensures c.in_ok-kind.ensures.ok_part)) _ c.in_err-check_variable_test-in-Loop.ensures)

pub returns-in_err-check_reach-in-Loop : goal.returns-in_err-check_reach-in-Loop
returns-in_err-check_reach-in-Loop c =
    at_err _ _ _ _ c.from_residual-in_err-check_reach-in-Loop.ensures.1 (steps.reach_refused _ _ _ _ _ _ (steps.looping _ _ _ _ _ _ (steps.found c.in-Loop.is c.kind_at.ensures c.in_ok-kind.ensures.ok_part)) c.in_ok-check_variable_test-in-Loop.field-0 c.with_variable-inside.result c.in_ok-check_variable_test-in-Loop.ensures c.with_variable-inside.ensures _ c.in_err-check_reach-in-Loop.ensures)

pub returns-in_ok-check_reach-in-Loop : goal.returns-in_ok-check_reach-in-Loop
returns-in_ok-check_reach-in-Loop c = steps.passed_as _ _ _ _ _ _ c.in-Loop.is (steps.reach_passed _ _ _ _ _ _ (steps.looping _ _ _ _ _ _ (steps.found c.in-Loop.is c.kind_at.ensures c.in_ok-kind.ensures.ok_part)) c.in_ok-check_variable_test-in-Loop.field-0 c.with_variable-inside.result c.in_ok-check_variable_test-in-Loop.ensures c.with_variable-inside.ensures c.in_ok-check_reach-in-Loop.ensures)

pub returns-in_err-check_mark-in-Mark : goal.returns-in_err-check_mark-in-Mark
returns-in_err-check_mark-in-Mark c =
    at_err _ _ _ _ c.from_residual-in_err-check_mark-in-Mark.ensures.1 (steps.fields_refused _ _ _ _ _ _ tt _ (steps.marking _ _ _ _ _ _ (steps.found c.in-Mark.is c.kind_at.ensures c.in_ok-kind.ensures.ok_part)).1 c.in_err-check_mark-in-Mark.ensures)

pub returns-in_ok-check_mark-in-Mark : goal.returns-in_ok-check_mark-in-Mark
returns-in_ok-check_mark-in-Mark c = steps.passed_as _ _ _ _ _ _ c.in-Mark.is (steps.fields_passed _ _ _ _ _ _ tt _ (steps.marking _ _ _ _ _ _ (steps.found c.in-Mark.is c.kind_at.ensures c.in_ok-kind.ensures.ok_part)).1 c.in_ok-check_mark-in-Mark.ensures)

pub returns-in_err-kind : goal.returns-in_err-kind
returns-in_err-kind c =
    let n = c.in_err-kind.ensures.ok_part in
    at_err _ _ _ _ c.from_residual.ensures.1 (rw (steps.none_found c.in_err-kind.ensures.value n, c.at.ensures) (steps.misplaced _ _ _ _ _ _ (sym n ∙ c.kind_at.ensures)))
