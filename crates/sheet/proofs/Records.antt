-- A record that passes rule 4 is the record that the writer writes. Assumes nothing.
use Rattle.std.proofs.Common.{◌≡◌, true, arith}
use Rattle.std.proofs.lemmas.Grind.{common_steps}
use Rattle.records.specs.declared.Record.{Record}
use Rattle.sheet.specs.Written.{leaf_record, erase_record}
use Rattle.sheet.specs.Rules.{leaves, nodes, rest_zero}

pub leaf_is : (r : Record) → r.letter ≡ 76 → rest_zero r leaves ≡ true → r ≡ leaf_record r.n
leaf_is r e h = grind (arith, common_steps)

pub node_is : (r : Record) → r.letter ≡ 69 → rest_zero r nodes ≡ true → r ≡ erase_record r.a
node_is r e h = grind (arith, common_steps)
