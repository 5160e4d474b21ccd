-- The worked examples of sheets. Assumes nothing.
use Rattle.std.proofs.Common.{refl}
use Rattle.records.specs.Records.{bytes, records}
use Rattle.policy.specs.Masks.{bit}
use Rattle.sheet.specs.Rules.{answer, sheet_in}
use Rattle.sheet.specs.Examples.{SheetExamples}

pub examples : SheetExamples
unfolding sheet_in answer bytes records bit
examples = record {
  nothing = refl;
  all_letters = refl;
  later_part = refl;
  bytes_in_order = refl;
  most_significant_first = refl;
  odd = refl;
  no_letter = refl;
  late_condition = refl;
  late_variable = refl;
  no_later_part = refl;
  no_to_tree = refl;
  not_zero_or_one = refl;
  first_is_zero = refl;
  unknown = refl;
  lowest_undeclared = refl;
  last_bit = refl;
  too_deep = refl;
  wiper_above = refl;
  lowest_wiper = refl;
  length_letter = refl;
  letter_fields = refl;
  fields_number = refl;
  fields_level = refl;
  fields_declared = refl;
  number_level = refl;
  number_declared = refl;
  level_depth = refl;
  declared_depth = refl;
  mask_tree = refl;
  level_wipers = refl;
  wipers_next = refl;
}
