use Rattle.machine.proofs.Promises.{hidden_calls, wiped_values}
use Rattle.machine.proofs.Wiping.{wiped_while_up}
use Rattle.machine.proofs.promises_hold.Goals as goal

pub returns : goal.returns
returns c = record { wiped = wiped_while_up; hidden = hidden_calls; forgotten = wiped_values }
