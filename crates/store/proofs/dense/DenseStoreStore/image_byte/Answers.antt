use Rattle.std.proofs.Common.{◌/◌, ◌%◌, ◌<◌, length, get_or, sym, ap, ◌∙◌, arith, w32, SFits, rules}
use Rattle.std.proofs.lemmas.List.{get_or_past}
use Rattle.std.proofs.lemmas.Int.{to_z-of_z}
use Rattle.store.specs.Images.{dense_image, value_bytes}
use Rattle.store.specs.ImagesLemmas.{length_dense, get_or_dense}
use Rattle.store.proofs.dense.DenseStoreStore.image_byte.Goals as goal

pub returns-in-Some : goal.returns-in-Some
returns-in-Some c =
    let vs = c.args.self.now.cells in
    let at = c.args.at in
    let v = c.in-Some.cell.now in
    let found = c.in-Some.ensures.lookup in
    let f : SFits w32 v = search rules in
    let q : at / 4 < length vs = found.3.0 in
    let h = simp to_z-of_z at c.to_be_bytes.ensures in
    ap (λ w. get_or w (at % 4) 0) h ∙ ap (λ x. get_or (value_bytes x) (at % 4) 0) found.1 ∙ sym (get_or_dense vs at v q)

pub returns-in-None : goal.returns-in-None
returns-in-None c =
    let vs = c.args.self.now.cells in
    sym (get_or_past (dense_image vs) c.args.at 0 (omega (arith, length_dense vs, c.in-None.ensures.lookup.3)))
