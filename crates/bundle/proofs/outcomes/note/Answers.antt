use Rattle.std.proofs.Common.{refl, rules}
use Rattle.std.proofs.lemmas.Iterator.{YieldsList-from_slice, YieldsList-from_map}
use Rattle.std.proofs.lemmas.Iterator.Adapters.{items_from_extend}
use Rattle.bundle.specs.Outcomes.{outcome}
use Rattle.bundle.proofs.outcomes.note.Goals as goal

pub returns : goal.returns
returns c =
    let h = items_from_extend c.extend.result c.extend.ensures.ran (YieldsList-from_map _ outcome (YieldsList-from_slice c.args.answers.now cc) refl (λ x r q k. search rules)) in
    search rules
