use Rattle.std.proofs.Common.{rules}
use Rattle.records.proofs.Eights.{records_more, length_more, bytes_more}
use Rattle.records.proofs.next_record.Goals as goal

pub returns-in-len8-up : goal.returns-in-len8-up
returns-in-len8-up c = (length_more c.args.input.now (search rules), records_more c.args.input.now _ (search rules) c.from_be_bytes-n.ensures, bytes_more c.args.input.now _ (search rules) (λ i. (c.type_inv.input i).fits) c.from_be_bytes-n.ensures)
