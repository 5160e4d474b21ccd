use Rattle.std.proofs.Common.{◌≤◌, length}
use Rattle.sitebox.proofs.read_input.Given as goal

abbrev pub invariant-loop : goal.invariant-loop
invariant-loop g l = l.size ≤ length l.buffer
