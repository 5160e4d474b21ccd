use Rattle.std.proofs.Common.{arith, rules}
use Rattle.std.proofs.lemmas.List.Sorted.{answers_always}
use Rattle.store.proofs.Puts.{room}
use Rattle.store.proofs.Searches.{searched, counted_within, counted_there, counted_past}
use Rattle.store.proofs.sparse.SparseStore.find.Goals as goal

pub returns-then-self-place : goal.returns-then-self-place
returns-then-self-place c =
    let s = c.args.self.now in
    let p = c.args.place in
    let r = c.binary_search_by_key.result in
    let facts = c.binary_search_by_key.ensures in
    let by_place = facts.position (λ entry. entry.place) (answers_always _ _ _ (λ f a r g called. search rules)) in
    let found = searched s p c.requires r facts.bound by_place in
    record { place = found; room = room s p c.requires r found }

pub bounds-self-at : goal.bounds-self-at
bounds-self-at c = omega (arith, counted_within c.args.self.now c.args.place c.requires _ c.count_below-at.ensures _ _ c.if-self-place.false)

pub offset_bounds-self-at : goal.offset_bounds-self-at
offset_bounds-self-at c = omega (arith, counted_within c.args.self.now c.args.place c.requires _ c.count_below-at.ensures _ _ c.if-self-place.false)

pub returns-then-self-at : goal.returns-then-self-at
returns-then-self-at c =
    let s = c.args.self.now in
    let p = c.args.place in
    let found = counted_there s p c.requires _ c.count_below-at.ensures _ c.if-self-at.true in
    record { place = found; room = room s p c.requires _ found }

pub returns-else-self-at : goal.returns-else-self-at
returns-else-self-at c =
    let s = c.args.self.now in
    let p = c.args.place in
    let found = counted_past s p c.requires _ c.count_below-at.ensures _ c.if-self-at.false in
    record { place = found; room = room s p c.requires _ found }
