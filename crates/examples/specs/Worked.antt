-- Worked examples, gathered: small policies on the chain of the levels 0 to 3, sets of readers, the depth of trees, the machine's
-- arithmetic, loop and story, and the sparse store's image.
use Rattle.std.specs.Prelude.{◌≡◌, ℕ, true, false, List, [], ◌∷◌, ◌++◌, Decides}
use Rattle.lattice.specs.Lattice.{Below}
use Rattle.lattice.specs.Chain.{chain}
use Rattle.lattice.specs.ReaderSets.{reader_sets}
use Rattle.records.specs.declared.Record.{Record}
use Rattle.records.specs.Records.{bytes}
use Rattle.records.specs.Rules.{accepted, refused_by}
use Rattle.sheet.specs.Sheet.{Sheet}
use Rattle.sheet.specs.Written.{condition_record, variable_record, leaf_record, erase_record}
use Rattle.sheet.specs.Rules.{sheet_in}
use Rattle.machine.specs.Examples.{MachineExamples}
use Rattle.store.specs.Images.{sparse_image}
use Rattle.store.specs.Examples.{example_values, example_image}
use Rattle.policy.specs.Policy.{Policy, leaf, erase, FlowsTo, wipes}

-- flows on this chain
abbrev Flows : Policy → Policy → Type 0
Flows p q = FlowsTo (chain 3) p q

-- a level for good
abbrev pub one : Policy
one = leaf 1

abbrev pub three : Policy
three = leaf 3

-- level 1, and another once condition 0 has come up
abbrev pub one_then_one : Policy
one_then_one = erase 0 (leaf 1) (leaf 1)

abbrev pub one_then_two : Policy
one_then_two = erase 0 (leaf 1) (leaf 2)

abbrev pub one_then_three : Policy
one_then_three = erase 0 (leaf 1) (leaf 3)

-- level 1, and 3 once the two conditions have come up: condition 0 is asked first, or condition 1
abbrev pub zero_first : Policy
zero_first = erase 0 (leaf 1) (erase 1 (leaf 1) (leaf 3))

abbrev pub one_first : Policy
one_first = erase 1 (leaf 1) (erase 0 (leaf 1) (leaf 3))

-- What is erased later may not flow to where it is kept, or is erased less; the other way it may.
pub record ErasureIsKept : Type 0 where
  pub erased_kept : Flows one_then_three one → ⊥
  pub kept_erased : Flows one one_then_three
  pub erased_hidden : Flows one_then_three three
  pub less_more : Flows one_then_two one_then_three
  pub more_less : Flows one_then_three one_then_two → ⊥

-- Policies that flow to each other may be wiped differently.
pub record WipersDiffer : Type 0 where
  pub same_there : Flows one_then_one one
  pub same_back : Flows one one_then_one
  pub wiped : (c : ℕ) × (wipes c one_then_one ≡ true)
  pub never_wiped : (c : ℕ) → wipes c one ≡ false

-- Policies that ask the same conditions in another order flow to each other; the first condition, and only it, wipes.
pub record FirstWipes : Type 0 where
  pub there : Flows zero_first one_first
  pub back : Flows one_first zero_first
  pub zero_wipes : (c : ℕ) → Decides (wipes c zero_first) (c ≡ 0)
  pub one_wipes : (c : ℕ) → Decides (wipes c one_first) (c ≡ 1)

-- Parties 0 and 1, or 1 and 2: both sets of readers have only party 1 in common.
pub record ReadersMeet : Type 0 where
  pub joined : reader_sets.join 3 6 ≡ 2
  pub fewer_above : Below reader_sets 3 2
  pub others_not : reader_sets.below 3 6 ≡ false

-- condition 0 at level 0, and variable 0 with three wiping nodes one below the other
abbrev three_deep : List Record
three_deep = condition_record 0 0 ∷ variable_record 0 false ∷ erase_record 0 ∷ erase_record 0 ∷ erase_record 0 ∷ []

-- A leaf may stand at depth 4. An wiping node may too: the sheet is then only unfinished; but the leaf below it may not.
pub record TreesAreFourDeep : Type 0 where
  pub leaf_at_four : (sh : Sheet) × (sheet_in (chain 3) (bytes (three_deep ++ (leaf_record 0 ∷ leaf_record 0 ∷ leaf_record 0 ∷ leaf_record 0 ∷ []))) ≡ accepted sh)
  pub node_at_four : sheet_in (chain 3) (bytes (three_deep ++ (erase_record 0 ∷ []))) ≡ refused_by 3 6 0
  pub leaf_at_five : sheet_in (chain 3) (bytes (three_deep ++ (erase_record 0 ∷ leaf_record 0 ∷ []))) ≡ refused_by 8 6 0

pub record WorkedExamples : Type 0 where
  pub erasure : ErasureIsKept
  pub wipers : WipersDiffer
  pub order : FirstWipes
  pub readers : ReadersMeet
  pub depth : TreesAreFourDeep
  pub machine : MachineExamples
  -- after 5 at place 9, -1 at 2 and 0 at 9
  pub sparse : sparse_image example_values ≡ example_image
