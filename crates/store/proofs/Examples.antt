-- The worked example, by computation. Assumes nothing.
use Rattle.std.proofs.Common.{◌≡◌, refl}
use Rattle.store.specs.Entries.{used_from, entries_of}
use Rattle.store.specs.Examples.{example_values, example_image}
use Rattle.store.specs.Images.{sparse_image}

pub example_image_lem : sparse_image example_values ≡ example_image
unfolding used_from entries_of sparse_image example_values example_image
example_image_lem = refl
