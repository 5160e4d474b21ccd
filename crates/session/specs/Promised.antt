-- What is promised of a box on a lattice and a kind of store, against every other box with the same order of levels and the same images.
use Rattle.std.specs.Prelude.{◌≡◌, ℕ, List, ℤ}
use Rattle.lattice.specs.Lattice.{Lattice, Lawful, SameOrder}
use Rattle.machine.specs.Calls.{Call}
use Rattle.machine.specs.Machine.{bare, final}
use Rattle.machine.specs.Promises.{Wiped, HiddenLeaveNoTrace, WipedLeaveNoTrace}
use Rattle.siteunit.specs.Obeying.{system_of}

-- a lawful lattice with the same known levels in the same order, and images that are the same for the same values
pub record SameKindOfBox (C D : Lattice) (image image' : List ℤ → List ℕ) : Type 0 where
  pub lawful : Lawful D
  pub order : SameOrder C D
  pub images : (values : List ℤ) → image values ≡ image' values

pub record Promised (C : Lattice) (image : List ℤ → List ℕ) : Type 0 where
  pub wiped : (cs : List Call) → Wiped (final (system_of C image) bare cs)
  pub hidden : (D : Lattice) (image' : List ℤ → List ℕ) → SameKindOfBox C D image image' → HiddenLeaveNoTrace (system_of C image) (system_of D image')
  pub forgotten : (D : Lattice) (image' : List ℤ → List ℕ) → SameKindOfBox C D image image' → WipedLeaveNoTrace (system_of C image) (system_of D image')
