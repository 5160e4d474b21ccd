-- A test of whether one policy flows to another. A leaf counts under a set just when the set has every condition on whose later
-- side it lies, so it is enough to ask once for each leaf, under those conditions alone.
use Rattle.std.specs.Prelude.{Bool, ◌&&◌, Decides}
use Rattle.lattice.specs.Lattice.{Lattice}
use Rattle.policy.specs.Policy.{Set, none, add, Policy, leaf, erase, level_under, KnownLevels, FlowsTo}

-- under the conditions passed so far
unfoldable pub flows_under : Lattice → Set → Policy → Policy → Bool
flows_under C s (leaf l) q = C.below l (level_under C s q)
flows_under C s (erase c p r) q = flows_under C s p q && flows_under C (add c s) r q

abbrev pub flows : Lattice → Policy → Policy → Bool
flows C p q = flows_under C none p q

-- the test says just what flowing says
pub record DecidesFlow (C : Lattice) : Type 0 where
  pub decides : (p q : Policy) → KnownLevels C p → KnownLevels C q → Decides (flows C p q) (FlowsTo C p q)
