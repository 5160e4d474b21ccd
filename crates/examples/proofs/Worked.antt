-- The worked examples, each by its cases. Assumes nothing.
use Rattle.std.proofs.Common.{◌≡◌, ℕ, Bool, true, false, cond, ◌||◌, eqb, [], ◌∷◌, Decides, sym, refl, ◌∙◌}
use Rattle.std.proofs.Math.Bool.{or-false}
use Rattle.std.proofs.lemmas.Bool.{both_ways, eqb-true, eq-eqb, or_left}
use Rattle.lattice.specs.Lattice.{Below}
use Rattle.lattice.specs.Chain.{chain}
use Rattle.records.specs.Records.{bytes, records}
use Rattle.policy.specs.Policy.{Set, leaf, erase}
use Rattle.sheet.specs.Rules.{answer, sheet_in}
use Rattle.machine.proofs.Examples.{machine_examples}
use Rattle.store.proofs.Examples.{example_image_lem}
use Rattle.examples.specs.Worked.{ErasureIsKept, WipersDiffer, FirstWipes, ReadersMeet, TreesAreFourDeep, WorkedExamples}

every : Set
every c = true

-- level 1, and this level once the condition has come up
abbrev under : Bool → ℕ → ℕ
under b l = cond b ((chain 3).join 1 l) 1

erasure : ErasureIsKept
unfolding every
erasure = record {
  erased_kept = λ f. both_ways _ refl (f every);
  kept_erased = λ s. kept (s 0);
  erased_hidden = λ s. hidden (s 0);
  less_more = λ s. less (s 0);
  more_less = λ f. both_ways _ refl (f every);
}
  where
    kept : (b : Bool) → Below (chain 3) 1 (under b 3)
    kept true = refl
    kept false = refl

    hidden : (b : Bool) → Below (chain 3) (under b 3) 3
    hidden true = refl
    hidden false = refl

    less : (b : Bool) → Below (chain 3) (under b 2) (under b 3)
    less true = refl
    less false = refl

wipers : WipersDiffer
wipers = record {
  same_there = λ s. there (s 0);
  same_back = λ s. back (s 0);
  wiped = (0, refl);
  never_wiped = λ c. refl;
}
  where
    there : (b : Bool) → Below (chain 3) (under b 1) 1
    there true = refl
    there false = refl

    back : (b : Bool) → Below (chain 3) 1 (under b 1)
    back true = refl
    back false = refl

-- what wipes a policy whose present part is a level
only_wiper : (d c : ℕ) → Decides (eqb c d || false) (c ≡ d)
only_wiper d c = (λ h. eqb-true c d (sym (or-false _) ∙ h), λ e. or_left _ _ (eq-eqb c d e))

order : FirstWipes
order = record {
  there = λ s. same (s 0) (s 1);
  back = λ s. same (s 1) (s 0);
  zero_wipes = only_wiper 0;
  one_wipes = only_wiper 1;
}
  where
    same : (a b : Bool) → Below (chain 3) (under a (under b 3)) (under b (under a 3))
    same true true = refl
    same true false = refl
    same false true = refl
    same false false = refl

readers : ReadersMeet
readers = record { joined = refl; fewer_above = refl; others_not = refl }

depth : TreesAreFourDeep
unfolding sheet_in answer records bytes
depth = record {
  leaf_at_four = (
    record {
      conditions = 0 ∷ [];
      variables = record { policy = erase 0 (erase 0 (erase 0 (leaf 0) (leaf 0)) (leaf 0)) (leaf 0); fed = false } ∷ [];
      permits = [];
    },
    refl,
  );
  node_at_four = refl;
  leaf_at_five = refl;
}

pub worked_examples : WorkedExamples
worked_examples = record {
  erasure = erasure;
  wipers = wipers;
  order = order;
  readers = readers;
  depth = depth;
  machine = machine_examples;
  sparse = example_image_lem;
}
