use Rattle.std.proofs.Common.{replicate, pos, refl}
use Rattle.store.specs.Entries.{unused, used_from, entries_of}
use Rattle.store.specs.NormalForm.{KeptFor, kept_for}
use Rattle.store.proofs.sparse.SparseStoreStore.new.Goals as goal

zeros : KeptFor (replicate 64 unused) 0 (replicate 64 (pos 0))
unfolding used_from entries_of
zeros = kept_for (replicate 64 unused) 0 (replicate 64 (pos 0)) refl refl refl

pub invariant_of-result : goal.invariant_of-result
invariant_of-result c = record { kept = zeros.kept; ordered = zeros.ordered }

pub returns : goal.returns
returns c = zeros.values
