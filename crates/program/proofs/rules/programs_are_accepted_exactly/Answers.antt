use Rattle.program.proofs.Acceptance.{acceptance}
use Rattle.program.proofs.Deciding.{decides_flow}
use Rattle.program.proofs.rules.programs_are_accepted_exactly.Goals as goal

pub returns : goal.returns
returns c = record { exactly = λ C W sh U. acceptance W sh U; decided = λ C W. decides_flow W }
