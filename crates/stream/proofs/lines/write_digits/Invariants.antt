use Rattle.std.proofs.Common.{◌≡◌, ◌*◌, take}
use Rattle.stream.specs.Lines.{hexadecimal}
use Rattle.stream.proofs.lines.write_digits.Given as goal

abbrev pub invariant-loop-place : goal.invariant-loop-place
invariant-loop-place l = take (2 * l.place) l.text ≡ hexadecimal (take l.place l.bytes)
