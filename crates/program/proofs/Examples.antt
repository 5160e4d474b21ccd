-- The worked examples of programs. Assumes nothing.
use Rattle.std.proofs.Common.{refl}
use Rattle.records.specs.Records.{bytes, records}
use Rattle.policy.specs.Masks.{bit}
use Rattle.program.specs.Deciding.{flows_under}
use Rattle.program.specs.Rules.{answer, each_within, program_in}
use Rattle.program.specs.Examples.{ProgramExamples}

pub examples : ProgramExamples
unfolding program_in answer each_within flows_under bytes records bit
examples = record {
  nothing = refl;
  sums = refl;
  accident = refl;
  repaired = refl;
  second = refl;
  later = refl;
  long = refl;
  odd = refl;
  no_letter = refl;
  no_block = refl;
  no_second = refl;
  no_third = refl;
  loop_no_second = refl;
  left_open = refl;
  not_zero = refl;
  no_variable = refl;
  no_permit = refl;
  no_condition = refl;
  too_deep = refl;
  lowest_variable = refl;
  lowest_condition = refl;
  permit_condition = refl;
  permit_target = refl;
  source_in_context = refl;
  raised_too_low = refl;
  loop_variable = refl;
  loop_condition = refl;
  source = refl;
  letter_fields = refl;
  names_in_order = refl;
  names_depth = refl;
  depth_lowest = refl;
  names_reach = refl;
  variable_condition = refl;
  condition_permit = refl;
  permit_source = refl;
}
