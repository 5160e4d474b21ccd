use Rattle.std.proofs.Common.{◌≡◌, length, ap, rules}
use Rattle.records.specs.Records.{Fit}
use Rattle.stream.proofs.Refusing.{refused}
use Rattle.bundle.specs.Bundles.{StreamRead, NoStream}
use Rattle.bundle.proofs.Fronts.{too_short, no_setting, too_long, no_room}
use Rattle.bundle.proofs.reading.next_stream.Goals as goal

pub returns-in_err-head : goal.returns-in_err-head
returns-in_err-head c =
    refused StreamRead NoStream _ _ c.from_residual.ensures.0
    (too_short c.args.bundle.now (λ e. let l : length c.args.bundle.now ≡ 0 = ap length e in absurd (search rules)) (rw c.in_err-head.ensures.ok_part at c.next_record.ensures))

pub returns-in_err-setting : goal.returns-in_err-setting
returns-in_err-setting c =
    let f : Fit c.in_ok-head.head = search rules in
    let read = rw c.in_ok-head.ensures.ok_part at c.next_record.ensures in
    refused StreamRead NoStream _ _ c.from_residual-in_err-setting.ensures.0
    (no_setting c.args.bundle.now c.in_ok-head.rest.now c.in_ok-head.head f read.2 c.in_err-setting.ensures)

pub returns-then-size-gt-STREAM_BYTES : goal.returns-then-size-gt-STREAM_BYTES
returns-then-size-gt-STREAM_BYTES c =
    let f : Fit c.in_ok-head.head = search rules in
    let read = rw c.in_ok-head.ensures.ok_part at c.next_record.ensures in
    too_long c.args.bundle.now c.in_ok-head.rest.now c.in_ok-head.head f read.2 c.if-size-gt-STREAM_BYTES.true

pub returns-in_err-calls : goal.returns-in_err-calls
returns-in_err-calls c =
    let f : Fit c.in_ok-head.head = search rules in
    let read = rw c.in_ok-head.ensures.ok_part at c.next_record.ensures in
    refused StreamRead NoStream _ _ c.from_residual-in_err-calls.ensures.0
    (no_room c.args.bundle.now c.in_ok-head.rest.now c.in_ok-head.head f read.2 (rw c.in_err-calls.ensures.ok_part at c.split_at_checked.ensures.cases))
