use Rattle.std.proofs.Common.{◌≡◌, ◌%◌, ◌≤◌, false, length, refl, rules}
use Rattle.program.specs.Rules.{whole_records}
use Rattle.program.proofs.Exits.{at_err}
use Rattle.program.proofs.ProgramSteps.{wrong_length, program_refused, program_read}
use Rattle.program.proofs.read.read_program.Goals as goal

pub returns-then-bytes-ne0 : goal.returns-then-bytes-ne0
returns-then-bytes-ne0 c =
    let h : whole_records c.args.bytes.now ≡ false = search rules in
    rw c.at.ensures (wrong_length c.args.masks.now c.args.bytes.now h)

pub returns-in_err-end : goal.returns-in_err-end
returns-in_err-end c =
    let m : length c.args.bytes.now % 8 ≡ 0 = search rules in
    let l : length c.args.bytes.now ≤ 2048 = search rules in
    at_err _ _ _ _ c.from_residual.ensures.1 (program_refused _ _ m l _ c.default-inside.ensures c.new.result c.new.ensures.place c.new.ensures.left _ c.in_err-end.ensures.answer)

pub returns : goal.returns
returns c =
    let m : length c.args.bytes.now % 8 ≡ 0 = search rules in
    let l : length c.args.bytes.now ≤ 2048 = search rules in
    program_read _ _ m l _ c.default-inside.ensures c.new.result c.new.ensures.place c.new.ensures.left _ _ c.in_ok-end.end c.in_ok-end.ensures.answer refl c.in_ok-end.ensures.forward
