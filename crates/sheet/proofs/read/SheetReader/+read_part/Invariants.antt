use Rattle.std.proofs.Common.{length}
use Rattle.sheet.proofs.read.SheetReader.+read_part.Given as goal

abbrev pub decreases-read_part : goal.decreases-read_part
decreases-read_part g l = length l.cursor.left.now
