-- What the checks of commands and blocks answer for, at a cursor.
use Rattle.std.specs.Prelude.{◌≡◌, ◌+◌, ◌*◌, ◌<◌, ◌≤◌, ◌∷◌, Some, None, Option, Result, List, length, MatchResult}
use Rattle.records.specs.declared.cursor.Cursor.{Cursor}
use Rattle.records.specs.declared.refusal.Refusal.{Refusal}
use Rattle.records.specs.Records.{records}
use Rattle.program.specs.declared.checker.Checker.{Checker}
use Rattle.program.specs.declared.innermost.Innermost.{Innermost}
use Rattle.program.specs.declared.kept.Instruction.{Instruction}
use Rattle.program.specs.declared.placed.Placed.{Placed}
use Rattle.program.specs.Reading.{Refused, Reads}

-- the same bytes end at both
abbrev pub SameEnd : Cursor → Cursor → Type 0
SameEnd a b = 8 * b.place + length b.left.now ≡ 8 * a.place + length a.left.now

-- from the start of a block to behind its end; the outermost ends where no record is left
abbrev pub BlockForward : Option Innermost → Cursor → Cursor → Type 0
BlockForward None a b = SameEnd a b × (a.place ≤ b.place) × (length b.left.now < 8)
BlockForward (Some i) a b = SameEnd a b × (a.place < b.place)

-- from a command to behind it
abbrev pub Forward : Placed → Cursor → Type 0
Forward at b = SameEnd at.behind b × (at.line.place < b.place)

-- no more than what is kept is changed
pub record Restored (before after : Checker) : Type 0 where
  pub masks : after.masks.now ≡ before.masks.now
  pub context : after.context ≡ before.context

-- the command is kept, or refused
abbrev pub CommandRead : Checker → Option Innermost → Placed → List Instruction → Result Cursor Refusal → Type 0
CommandRead k inner at after r = MatchResult r
    (λ p. Reads k.masks.now k.context at.opened inner at.line.place (at.line.first ∷ records at.behind.left.now) k.instructions after p.place (records p.left.now))
    (λ e. Refused k.masks.now k.context at.opened inner at.line.place (at.line.first ∷ records at.behind.left.now) e)
