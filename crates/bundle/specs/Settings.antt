-- The machine that a stream is run on, and how its setting prints.
use Rattle.std.specs.Prelude.{ℕ, List, ◌++◌, ℤ, codes, decimal}
use Rattle.lattice.specs.Lattice.{Lattice}
use Rattle.lattice.specs.Chain.{chain}
use Rattle.lattice.specs.ReaderSets.{reader_sets}
use Rattle.machine.specs.Machine.{System}
use Rattle.siteunit.specs.Obeying.{system_of}
use Rattle.store.specs.Images.{dense_image, sparse_image}
use Rattle.bundle.specs.declared.streams.Order.{Order}
use Rattle.bundle.specs.declared.streams.Order.TheVariants.{Chain, Readers}
use Rattle.bundle.specs.declared.streams.Kind.{Kind}
use Rattle.bundle.specs.declared.streams.Kind.TheVariants.{Dense, Sparse}
use Rattle.bundle.specs.declared.streams.Setting.{Setting}

abbrev pub lattice_of : Order → Lattice
lattice_of (Chain top) = chain top
lattice_of Readers = reader_sets

abbrev pub image_of : Kind → List ℤ → List ℕ
image_of Dense = dense_image
image_of Sparse = sparse_image

abbrev pub system_for : Setting → System
system_for s = system_of (lattice_of s.order) (image_of s.kind)

abbrev pub order_text : Order → List ℕ
order_text (Chain top) = codes "chain:" ++ decimal top
order_text Readers = codes "readers"

abbrev pub kind_text : Kind → List ℕ
kind_text Dense = codes "dense"
kind_text Sparse = codes "sparse"

abbrev pub text : Setting → List ℕ
text s = order_text s.order ++ (codes " " ++ kind_text s.kind)
