-- The lines of a transcript that are left: one for each answer, and the one that says that the stream did not end.
use Rattle.std.specs.Prelude.{ℕ, ◌+◌, cond, List, [], ◌∷◌, ◌++◌}
use Rattle.stream.specs.declared.answers.Answer.{Answer}
use Rattle.stream.specs.declared.transcript_line.TranscriptLine.{TranscriptLine}
use Rattle.stream.specs.declared.transcript_line.TranscriptLine.TheVariants as line
use Rattle.stream.specs.declared.transcript_line.Lines.{Lines}

abbrev pub answers_left : ℕ → List Answer → List TranscriptLine
answers_left n [] = []
answers_left n (a ∷ rest) = line.Answer (record { count = n; answer = a }) ∷ answers_left (n + 1) rest

abbrev pub lines_left : Lines → List TranscriptLine
lines_left s = answers_left s.count s.answers.now ++ cond s.ended [] (line.Stop ∷ [])
