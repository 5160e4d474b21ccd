use Rattle.std.proofs.Common.{◌≡◌, ◌+◌, ◌*◌, ◌≤◌, length}
use Rattle.records.specs.Records.{records}
use Rattle.program.specs.Reading.{Reads}
use Rattle.program.specs.Forward.{SameEnd}
use Rattle.program.proofs.checker.Checker.+blocks.Given as goal

abbrev pub decreases-check_block : goal.decreases-check_block
decreases-check_block l = 3 * length l.cursor.left.now

abbrev pub decreases-check_branch : goal.decreases-check_branch
decreases-check_branch l = 3 * length l.test.behind.left.now + 1

abbrev pub decreases-check_command : goal.decreases-check_command
decreases-check_command l = 3 * length l.command.behind.left.now + 2

abbrev pub decreases-check_loop : goal.decreases-check_loop
decreases-check_loop l = 3 * length l.head.behind.left.now + 1

abbrev pub invariant-check_block-loop-first : goal.invariant-check_block-loop-first
invariant-check_block-loop-first l = record {
  same_end : SameEnd l.cursor l.ahead;
  onward : l.cursor.place ≤ l.ahead.place;
  masks : l.guard.checker.now.masks.now ≡ l.fn.self.masks.now;
  context : l.guard.checker.now.context ≡ l.block.inside;
  reads :
      Reads l.fn.self.masks.now l.block.inside l.block.opened l.block.innermost l.cursor.place (records l.cursor.left.now) l.fn.self.instructions l.guard.checker.now.instructions l.ahead.place (records l.ahead.left.now);
}

abbrev pub decreases-check_block-loop-first : goal.decreases-check_block-loop-first
decreases-check_block-loop-first l = length l.ahead.left.now
