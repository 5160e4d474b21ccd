use Rattle.machine.proofs.Sample.{sample_stands}
use Rattle.machine.proofs.hypotheses_can_be_met.Goals as goal

pub returns : goal.returns
returns c = sample_stands
