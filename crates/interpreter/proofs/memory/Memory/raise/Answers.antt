use Rattle.interpreter.proofs.Memories.{raises}
use Rattle.interpreter.proofs.memory.Memory.raise.Goals as goal

pub returns-then-condition-lt16-clause-memory : goal.returns-then-condition-lt16-clause-memory
returns-then-condition-lt16-clause-memory g c = λ sh E h. rw c.wipe.ensures.up (raises c.args.masks.now sh E c.args.condition c.args.self.now.up _ _ h c.wipe.ensures.values)
