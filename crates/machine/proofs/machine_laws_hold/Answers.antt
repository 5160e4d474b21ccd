use Rattle.machine.proofs.Laws.{machine_laws}
use Rattle.machine.proofs.machine_laws_hold.Goals as goal

pub returns : goal.returns
returns c = machine_laws
