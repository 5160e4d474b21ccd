use Rattle.sheet.proofs.Examples.{examples}
use Rattle.sheet.proofs.rules.sheet_examples_hold.Goals as goal

pub returns : goal.returns
returns c = examples
