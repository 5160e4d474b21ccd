use Rattle.std.proofs.Common.{◌-◌, set, ap, ◌∙◌}
use Rattle.store.specs.Entries.{unused}
use Rattle.store.proofs.Moves.{moved_down}
use Rattle.store.proofs.entries.remove.Goals as goal

pub returns : goal.returns
returns c =
    ap (λ l. set l (c.args.used - 1) unused) c.copy_within.ensures.after
    ∙ moved_down c.args.entries.now c.args.used c.args.at unused c.requires.0 c.requires.1
