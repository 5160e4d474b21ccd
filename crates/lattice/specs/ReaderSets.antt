-- The sets of sixteen parties that may read, bit i for party i: a set with every reader of another is below it.
use Rattle.std.specs.Prelude.{ℕ, Bool, cond, ◌&&◌, ◌==◌, bit_and, nat_le}
use Rattle.lattice.specs.Lattice.{Lattice}

abbrev pub set_known : ℕ → Bool
set_known a = nat_le a 65535

abbrev pub set_below : ℕ → ℕ → Bool
set_below a b = bit_and a b == b && set_known a

abbrev pub reader_sets : Lattice
reader_sets = record {
  known = set_known;
  below = set_below;
  join = λ a b. cond (set_known a && set_known b) (bit_and a b) 0;
  lowest = 65535;
  highest = 0;
}
