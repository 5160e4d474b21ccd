-- What the readers of items and trees answer for, at a cursor.
use Rattle.std.specs.Prelude.{◌<◌, ◌≤◌, Result, length, MatchResult}
use Rattle.lattice.specs.Lattice.{Lattice}
use Rattle.records.specs.declared.cursor.Cursor.{Cursor}
use Rattle.records.specs.declared.refusal.Refusal.{Refusal}
use Rattle.records.specs.Records.{records}
use Rattle.sheet.specs.declared.placed.Placed.{Placed}
use Rattle.sheet.specs.declared.rows.SheetTable.{SheetTable}
use Rattle.sheet.specs.Reading.{ItemRead, ItemRefused}

-- from a tree to behind it: less is left
abbrev pub TreeForward : Cursor → Cursor → Type 0
TreeForward a b = length b.left.now < length a.left.now

-- from an item to behind it: no more is left than behind its record
abbrev pub Forward : Placed → Cursor → Type 0
Forward item b = length b.left.now ≤ length item.behind.left.now

-- the item is read into the table, or refused
abbrev pub ItemAnswered : Lattice → SheetTable → SheetTable → Placed → Result Cursor Refusal → Type 0
ItemAnswered C before after item r = MatchResult r
    (λ p. ItemRead C before after item.place item.record (records item.behind.left.now) p.place (records p.left.now))
    (λ e. ItemRefused C before item.place item.record (records item.behind.left.now) e)
