use Rattle.std.proofs.Common.{◌≡◌, length}
use Rattle.records.specs.Records.{records}
use Rattle.sheet.proofs.SheetSteps.{Far}
use Rattle.sheet.proofs.read.read_sheet.Given as goal

abbrev pub invariant-loop-item : goal.invariant-loop-item
invariant-loop-item g l = record {
  same : l.reader.lattice.now ≡ l.lattice;
  far : Far (g.L.Lattice.lattice l.lattice) l.bytes l.reader.table l.cursor.place (records l.cursor.left.now);
}

abbrev pub decreases-loop-item : goal.decreases-loop-item
decreases-loop-item g l = length l.cursor.left.now
