use Rattle.std.proofs.Common.{refl}
use Rattle.std.proofs.Output.{has_written_append, has_written_of_eq}
use Rattle.stream.proofs.Transcripts.{lines_more}
use Rattle.stream.proofs.transcript.TranscriptDisplay.fmt.Goals as goal

pub loop-count-preserved : goal.loop-count-preserved
loop-count-preserved g c = λ plain.
    let before = c.loop-count.invariant plain in
    let written = c.in_ok-writeln.ensures.writes before.plain refl in
    has_written_of_eq _ _ _ _ _ (lines_more c.args.self.now.answers.now c.loop-count.count c.answer-item.result c.loop-count-test.true c.answer-item.is) (has_written_append _ _ _ _ _ _ before written)
