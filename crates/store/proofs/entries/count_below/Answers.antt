use Rattle.std.proofs.Common.{◌∙◌, nat_lt, rules, tests}
use Rattle.std.proofs.lemmas.Iterator.{YieldsList-from_slice}
use Rattle.std.proofs.lemmas.Iterator.Consumers.{count_from_yields_List}
use Rattle.std.proofs.lemmas.Iterator.Search.{YieldsList-from_take_while}
use Rattle.std.proofs.lemmas.List.Folds.{length-prefix_len}
use Rattle.store.specs.declared.entry.Entry.{Entry}
use Rattle.store.specs.Positions.{before}
use Rattle.store.proofs.entries.count_below.Goals as goal

pub returns : goal.returns
unfolding before
returns c =
    let below = λ (e : Entry). nat_lt e.place c.args.place in
    count_from_yields_List c.take_while.result _ c.count.ensures.ran
    (YieldsList-from_take_while _ below (YieldsList-from_slice c.args.entries.now (cc)) c.take_while.ensures.closure c.take_while.ensures.done (λ x b q k. search (rules, tests)))
    ∙ length-prefix_len below c.args.entries.now
