use Rattle.std.proofs.Common.{set, ap, ◌∙◌}
use Rattle.store.proofs.Moves.{moved_up}
use Rattle.store.proofs.entries.insert.Goals as goal

pub returns : goal.returns
returns c =
    ap (λ l. set l c.args.at c.args.new) c.copy_within.ensures.after
    ∙ moved_up c.args.entries.now c.args.used c.args.at c.args.new c.requires.0 c.requires.1
