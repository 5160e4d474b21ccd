use Rattle.std.proofs.Common.{◌+◌, ◌-◌, set, sym, ap, arith, w32, SFits, to_z, of_z}
use Rattle.std.proofs.lemmas.List.{set_past}
use Rattle.std.proofs.lemmas.Int.{to_z-of_z}
use Rattle.store.specs.Entries.{values_of}
use Rattle.store.specs.NormalForm.{KeptFor, length_values}
use Rattle.store.proofs.Puts.{zero_from_bits, other_from_bits, kept_remove, kept_over, kept_insert}
use Rattle.store.proofs.sparse.SparseStoreStore.put.Goals as goal
use Rattle.store.proofs.sparse.SparseStoreStore.put.Goals.{After-remove, In-Ok-2, After-insert}

pub returns-then-place-ge-PLACES-clause-values : goal.returns-then-place-ge-PLACES-clause-values
returns-then-place-ge-PLACES-clause-values c =
    let es = c.args.self.now.entries in
    sym (set_past (values_of es) c.args.place c.args.value (omega (arith, length_values es)))

removed : (c : goal.After-remove)
    → KeptFor c.remove.new.entries (c.args.self.now.used - 1) (set (values_of c.args.self.now.entries) c.args.place c.args.value)
removed c =
    let v = c.args.value in
    kept_remove c.args.self.now c.args.place c.if-place-ge-PLACES.false c.in-Ok.at c.in-Ok.ensures.place
    v (zero_from_bits v c.ranges.value c.if-value-eq0.true) c.remove.new.entries c.remove.ensures

pub invariant_of-self : goal.invariant_of-self
invariant_of-self c = let k = removed c in record { kept = k.kept; ordered = k.ordered }

pub returns-in-Ok-clause-values : goal.returns-in-Ok-clause-values
returns-in-Ok-clause-values c = (removed (goal.at.returns-in-Ok-clause-values c).After-remove).values

written : (c : goal.In-Ok-2)
    → KeptFor (set c.args.self.now.entries c.in-Ok.at record { place = c.args.place; value = to_z w32 (of_z w32 c.args.value) }) c.args.self.now.used
    (set (values_of c.args.self.now.entries) c.args.place c.args.value)
written c =
    let v = c.args.value in
    kept_over c.args.self.now c.args.place c.if-place-ge-PLACES.false c.in-Ok.at c.in-Ok.ensures.place
    v (other_from_bits v c.ranges.value c.if-value-eq0.false) _
    (ap (λ x. set c.args.self.now.entries c.in-Ok.at record { place = c.args.place; value = x }) (to_z-of_z w32 v c.ranges.value))

pub invariant_of-self-in-Ok-2 : goal.invariant_of-self-in-Ok-2
invariant_of-self-in-Ok-2 c = let k = written c in record { kept = k.kept; ordered = k.ordered }

pub returns-in-Ok-2-clause-values : goal.returns-in-Ok-2-clause-values
returns-in-Ok-2-clause-values c = (written (goal.at.returns-in-Ok-2-clause-values c).In-Ok-2).values

inserted : (c : goal.After-insert)
    → KeptFor c.insert.new.entries (c.args.self.now.used + 1) (set (values_of c.args.self.now.entries) c.args.place c.args.value)
inserted c =
    let v = c.args.value in
    let f : SFits w32 v = c.ranges.value in
    kept_insert c.args.self.now c.args.place c.if-place-ge-PLACES.false c.in-Err.field-0 c.in-Err.ensures.place
    v (other_from_bits v f c.if-value-eq0-2.false) c.insert.new.entries (simp to_z-of_z at c.insert.ensures)

pub invariant_of-self-in-Err-2 : goal.invariant_of-self-in-Err-2
invariant_of-self-in-Err-2 c = let k = inserted c in record { kept = k.kept; ordered = k.ordered }

pub returns-in-Err-2-clause-values : goal.returns-in-Err-2-clause-values
returns-in-Err-2-clause-values c = (inserted (goal.at.returns-in-Err-2-clause-values c).After-insert).values
