-- Which letter a record of each kind has. Assumes nothing.
use Rattle.std.proofs.Common.{◌≡◌, ℕ, Some, None, arith}
use Rattle.std.proofs.lemmas.Grind.{common_steps}
use Rattle.sheet.specs.declared.position.Section.{Section}
use Rattle.sheet.specs.declared.position.Item.TheVariants.{Condition}
use Rattle.sheet.specs.declared.position.Part.TheVariants.{Leaf, Node}
use Rattle.sheet.specs.Letters.{item_at, part_at, section}

pub leaf_letter : (l : ℕ) → Some Leaf ≡ part_at l → l ≡ 76
leaf_letter l h = grind (arith, common_steps)

pub node_letter : (l : ℕ) → Some Node ≡ part_at l → l ≡ 69
node_letter l h = grind (arith, common_steps)

-- a letter that opens no part of a tree
pub neither : (l : ℕ) → None ≡ part_at l → (l ≡ 76 → ⊥) × (l ≡ 69 → ⊥)
neither l h = (λ e. cc (rw e at h), λ e. cc (rw e at h))

-- what may stand between items, and what that says of the items so far
pub condition_letter : (l v p : ℕ) (at : Section) → at ≡ section v p → Some Condition ≡ item_at l at → (l ≡ 67) × (v ≡ 0) × (p ≡ 0)
condition_letter l v p at e h = (grind (arith, common_steps), grind (arith, common_steps), grind (arith, common_steps))

pub no_item : (l v p : ℕ) (at : Section) → at ≡ section v p → None ≡ item_at l at → (l ≡ 67 → v ≡ 0 → p ≡ 0 → ⊥) × (l ≡ 86 → p ≡ 0 → ⊥) × (l ≡ 82 → ⊥)
no_item l v p at e h = (λ i j k. grind (arith, common_steps), λ i j. grind (arith, common_steps), λ i. grind (arith, common_steps))
