-- The promises of every box of the product. Assumes nothing.
use Rattle.std.proofs.Common.{ℕ, List, ℤ, refl}
use Rattle.lattice.specs.Lattice.{Lattice, Lawful}
use Rattle.machine.specs.Promises.{SameKind}
use Rattle.machine.proofs.Promises.{hidden_calls, wiped_values}
use Rattle.machine.proofs.Wiping.{wiped_while_up}
use Rattle.program.specs.Readers.{readers}
use Rattle.program.proofs.Readers.{sound_readers}
use Rattle.siteunit.specs.Obeying.{system_of}
use Rattle.session.specs.Promised.{SameKindOfBox, Promised}

same_kind : (C D : Lattice) (image image' : List ℤ → List ℕ) → Lawful C → SameKindOfBox C D image image' → SameKind readers (system_of C image) (system_of D image')
same_kind C D image image' W k = record { readers = refl; readers' = refl; lawful = W; lawful' = k.lawful; order = k.order; image = k.images }

pub promised : (C : Lattice) (image : List ℤ → List ℕ) → Lawful C → Promised C image
promised C image W = record {
  wiped = λ cs. wiped_while_up (system_of C image) cs;
  hidden = λ D image' k. hidden_calls readers sound_readers (system_of C image) (system_of D image') (same_kind C D image image' W k);
  forgotten = λ D image' k. wiped_values readers sound_readers (system_of C image) (system_of D image') (same_kind C D image image' W k);
}
