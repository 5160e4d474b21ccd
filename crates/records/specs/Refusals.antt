-- A refusal names the broken rule, the record at which it is asked, and a detail.
use Rattle.std.specs.Prelude.{ℕ, List, ◌++◌, codes, decimal}
use Rattle.records.specs.declared.refusal.Refusal.{Refusal}
use Rattle.records.specs.declared.rule.Rule.{Rule}
use Rattle.records.specs.declared.rule.Rule.TheVariants.{NoSheetYet, SheetLength, SheetLetter, SheetFields, NextNumber, KnownLevel, DeclaredCondition, TreeDepth, WipersBelow, NeedsSheet, ProgramLength, ProgramLetter, ProgramFields, Declared, Nesting, Reaching, LoopLowest, Released, MayBeFed, NotWiped, IsCondition, NeedsProgram, IsLevel, IsVariable, MayKnow, RoomForImage}

abbrev pub refusal : ℕ → ℕ → ℕ → Refusal
refusal number place detail = record { number = number; place = place; detail = detail }

-- number, place and detail, by a blank each
abbrev pub refusal_text : Refusal → List ℕ
refusal_text e = decimal e.number ++ (codes " " ++ (decimal e.place ++ (codes " " ++ decimal e.detail)))

-- the number by which an answer names a rule
abbrev pub number : Rule → ℕ
number NoSheetYet = 1
number SheetLength = 2
number SheetLetter = 3
number SheetFields = 4
number NextNumber = 5
number KnownLevel = 6
number DeclaredCondition = 7
number TreeDepth = 8
number WipersBelow = 9
number NeedsSheet = 10
number ProgramLength = 11
number ProgramLetter = 12
number ProgramFields = 13
number Declared = 14
number Nesting = 15
number Reaching = 16
number LoopLowest = 17
number Released = 18
number MayBeFed = 19
number NotWiped = 20
number IsCondition = 21
number NeedsProgram = 22
number IsLevel = 23
number IsVariable = 24
number MayKnow = 25
number RoomForImage = 26
