-- The line of text that an answer prints: the call's count, and ok, done, spent or no with what belongs to it.
use Rattle.std.specs.Prelude.{ℕ, ◌+◌, ◌/◌, ◌%◌, false, cond, List, [], ◌∷◌, ◌++◌, take, codes, decimal}
use Rattle.std.specs.Fmt.{digit_glyph, signed_decimal}
use Rattle.stream.specs.declared.answers.Answer.{Answer}
use Rattle.stream.specs.declared.answers.Answer.TheVariants.{Number, Image, Done, Spent, Refused}
use Rattle.stream.specs.declared.image.ImageBytes.{ImageBytes}
use Rattle.stream.specs.declared.answers.Line.{Line}
use Rattle.stream.specs.declared.transcript_line.TranscriptLine.{TranscriptLine}
use Rattle.stream.specs.declared.transcript_line.TranscriptLine.TheVariants as line
use Rattle.stream.specs.declared.transcript.Transcript.{Transcript}
use Rattle.records.specs.Refusals.{refusal_text}

-- two lowercase digits a byte
abbrev pub hexadecimal : List ℕ → List ℕ
hexadecimal [] = []
hexadecimal (b ∷ bs) = digit_glyph false (b / 16) ∷ digit_glyph false (b % 16) ∷ hexadecimal bs

abbrev pub image_text : ImageBytes → List ℕ
image_text image = hexadecimal (take image.size image.buffer)

abbrev pub answer_text : Answer → List ℕ
answer_text (Number n) = codes " ok " ++ signed_decimal n
answer_text (Image image) = codes " ok " ++ image_text image
answer_text (Done turns) = codes " done " ++ decimal turns
answer_text (Spent turns) = codes " spent " ++ decimal turns
answer_text (Refused e) = codes " no " ++ refusal_text e

abbrev pub text : Line → List ℕ
text l = decimal l.count ++ answer_text l.answer

-- a line for each answer, the first with this count
abbrev pub lines_from : ℕ → List Answer → List ℕ
lines_from n [] = []
lines_from n (a ∷ rest) = text (record { count = n; answer = a }) ++ (codes "\n" ++ lines_from (n + 1) rest)

abbrev pub transcript_text : Transcript → List ℕ
transcript_text t = lines_from 0 t.answers.now ++ cond t.ended [] (codes "stop\n")

-- one line of a transcript, and lines one after another, each with its end
abbrev pub line_text : TranscriptLine → List ℕ
line_text (line.Answer l) = text l
line_text line.Stop = codes "stop"

abbrev pub lines_text : List TranscriptLine → List ℕ
lines_text [] = []
lines_text (l ∷ ls) = line_text l ++ (codes "\n" ++ lines_text ls)
