use Rattle.std.proofs.Common.{◌+◌, ◌-◌, ◌*◌, ◌≤◌}
use Rattle.sheet.specs.Sheet.{Sheet}
use Rattle.machine.specs.Command.{Command}
use Rattle.machine.specs.Run.{run}
use Rattle.program.specs.Kept.{Keeps}
use Rattle.interpreter.specs.Meaning.{Enforces, meaning}
use Rattle.interpreter.proofs.Flat.{Flat, follow, finished}
use Rattle.interpreter.proofs.memory.Memory.execute.Given as goal

-- from here the program ends as its command does from the start
abbrev pub invariant-loop-at : goal.invariant-loop-at
invariant-loop-at g l = record {
  within : l.left ≤ l.turns;
  ends : (sh : Sheet) (c : Command) → Enforces l.masks sh → Keeps l.program c
      → Flat l.program.instructions l.program.count sh l.at l.left (meaning g.S.Store.values l.self) (follow (run sh c l.turns (meaning g.S.Store.values l.initial.self)) finished);
}

-- turns left, and instructions to go
abbrev pub decreases-loop-at : goal.decreases-loop-at
decreases-loop-at g l = l.left * 257 + (l.program.count - l.at)
