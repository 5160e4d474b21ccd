use Rattle.std.proofs.Common.{set, pos, negsuc, ap, ◌∙◌}
use Rattle.store.specs.Examples.{example_values}
use Rattle.store.proofs.Examples.{example_image_lem}
use Rattle.store.proofs.sparse.sparse_example.Goals as goal

pub returns : goal.returns
unfolding example_values
returns c = record {
  values =
      c.put-3.ensures.values ∙ ap (λ l. set l 9 (pos 0))
      (c.put-2.ensures.values ∙ ap (λ l. set l 2 (negsuc 0)) (c.put.ensures.values ∙ ap (λ l. set l 9 (pos 5)) c.new-store.ensures));
  image = example_image_lem;
}
