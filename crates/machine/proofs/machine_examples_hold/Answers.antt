use Rattle.machine.proofs.Examples.{machine_examples}
use Rattle.machine.proofs.machine_examples_hold.Goals as goal

pub returns : goal.returns
returns c = machine_examples
