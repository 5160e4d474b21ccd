use Rattle.std.proofs.Common.{arith}
use Rattle.store.specs.ImagesLemmas.{length_dense}
use Rattle.store.proofs.dense.DenseStoreStore.image_len.Goals as goal

pub returns : goal.returns
returns c = omega (arith, length_dense c.args.self.now.cells, c.args.self.now.full)
