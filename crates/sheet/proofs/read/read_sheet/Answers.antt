use Rattle.std.proofs.Common.{◌≡◌, ◌%◌, ◌≤◌, false, length, refl, rules}
use Rattle.records.proofs.Formats.{each_at}
use Rattle.sheet.specs.Rules.{whole_records}
use Rattle.sheet.proofs.Refusing.{refuses}
use Rattle.sheet.proofs.SheetSteps.{far_start, far_refused, far_end, wrong_length}
use Rattle.sheet.proofs.read.read_sheet.Goals as goal

pub returns-then-bytes-ne0 : goal.returns-then-bytes-ne0
returns-then-bytes-ne0 g c =
    let h : whole_records c.args.bytes.now ≡ false = search rules in
    rw c.into.ensures (wrong_length (g.L.Lattice.lattice c.args.lattice.now) c.args.bytes.now h)

pub loop-item-init : goal.loop-item-init
loop-item-init g c =
    let m : length c.args.bytes.now % 8 ≡ 0 = search rules in
    let l : length c.args.bytes.now ≤ 4096 = search rules in
    record { same = refl; far = rw (c.new-cursor.ensures.place, c.new-cursor.ensures.left) (far_start _ c.args.bytes.now _ m l c.new.ensures) }

pub returns-in_err-cursor : goal.returns-in_err-cursor
returns-in_err-cursor g c = refuses _ _ _ c.from_residual.ensures.1
    (far_refused _ c.args.bytes.now _ _ _ c.in-Some.item.record _ _ c.in-Some.ensures.2 c.loop-item.invariant.far (rw (c.loop-item.invariant.same, c.in-Some.ensures.0) at c.in_err-cursor.ensures.answer))

pub returns : goal.returns
returns g c = far_end _ c.args.bytes.now _ _ _ (each_at c.args.bytes.now (λ i. (c.type_inv.bytes i).fits)) c.in_default.ensures c.loop-item.invariant.far
