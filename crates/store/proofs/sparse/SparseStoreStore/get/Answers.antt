use Rattle.std.proofs.Common.{get_or, pos, sym, ◌∙◌, arith, w32, SFits, rules}
use Rattle.std.proofs.lemmas.List.{get_or_past}
use Rattle.std.proofs.lemmas.Int.{to_z-of_z}
use Rattle.store.specs.Entries.{values_of}
use Rattle.store.specs.NormalForm.{length_values}
use Rattle.store.proofs.Puts.{held_value}
use Rattle.store.proofs.sparse.SparseStoreStore.get.Goals as goal

pub returns-then-place-ge-PLACES : goal.returns-then-place-ge-PLACES
returns-then-place-ge-PLACES c =
    let es = c.args.self.now.entries in
    sym (get_or_past (values_of es) c.args.place (pos 0) (omega (arith, length_values es)))

pub returns-in-Ok : goal.returns-in-Ok
returns-in-Ok c =
    let s = c.args.self.now in
    let f : SFits w32 (get_or s.entries c.in-Ok.at record { place = 0; value = pos 0 }).value = search rules in
    to_z-of_z w32 _ f ∙ held_value s c.args.place c.if-place-ge-PLACES.false c.in-Ok.at c.in-Ok.ensures.place _
