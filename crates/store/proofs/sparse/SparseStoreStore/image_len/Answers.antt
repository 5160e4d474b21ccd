use Rattle.std.proofs.Common.{arith}
use Rattle.store.specs.Entries.{values_of}
use Rattle.store.specs.ImagesLemmas.{length_sparse}
use Rattle.store.specs.NormalForm.{length_values}
use Rattle.store.proofs.sparse.SparseStoreStore.image_len.Goals as goal

pub returns : goal.returns
returns c = let es = c.args.self.now.entries in omega (arith, length_sparse (values_of es) (length_values es))
