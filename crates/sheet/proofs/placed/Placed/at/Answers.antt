use Rattle.std.proofs.Common.{rules}
use Rattle.records.proofs.Eights.{records_short}
use Rattle.sheet.proofs.placed.Placed.at.Goals as goal

pub returns-in_err-record : goal.returns-in_err-record
returns-in_err-record c = search (rules, records_short c.args.cursor.left.now)
