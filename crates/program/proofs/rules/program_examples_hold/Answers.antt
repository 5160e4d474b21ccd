use Rattle.program.proofs.Examples.{examples}
use Rattle.program.proofs.rules.program_examples_hold.Goals as goal

pub returns : goal.returns
returns c = examples
