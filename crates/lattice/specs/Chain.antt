-- The chain with a top: levels 0 to top, ordered as numbers.
use Rattle.std.specs.Prelude.{ℕ, max, cond, ◌&&◌, nat_le}
use Rattle.lattice.specs.Lattice.{Lattice}

abbrev pub chain : ℕ → Lattice
chain top = record {
  known = λ a. nat_le a top;
  below = λ a b. nat_le a b && nat_le b top;
  join = λ a b. cond (nat_le a top && nat_le b top) (max a b) top;
  lowest = 0;
  highest = top;
}
