use Rattle.std.proofs.Common.{◌%◌, get_or, sym, ap, ◌∙◌, arith}
use Rattle.std.proofs.lemmas.List.{get_or_past}
use Rattle.store.specs.Entries.{values_of}
use Rattle.store.specs.Images.{sparse_image, entry_bytes}
use Rattle.store.specs.Ascending.{normal}
use Rattle.store.specs.ImagesLemmas.{length_sparse, get_or_sparse}
use Rattle.store.specs.NormalForm.{length_values}
use Rattle.store.proofs.sparse.SparseStoreStore.image_byte.Goals as goal

pub returns-in-Some : goal.returns-in-Some
returns-in-Some c =
    let s = c.args.self.now in
    let at = c.args.at in
    let found = c.in-Some.ensures.lookup in
    ap (λ w. get_or w (at % 5) 0) c.from.ensures ∙ ap (λ e. get_or (entry_bytes e) (at % 5) 0) found.1
    ∙ sym (get_or_sparse (values_of s.entries) s.entries (normal s.entries s.used s.kept s.ordered) at c.in-Some.entry.now found.3.0)

pub returns-in-None : goal.returns-in-None
returns-in-None c =
    let s = c.args.self.now in
    let full = s.kept.full in
    sym (get_or_past (sparse_image (values_of s.entries)) c.args.at 0
    (omega (arith, length_sparse (values_of s.entries) (length_values s.entries), c.in-None.ensures.lookup.3)))
