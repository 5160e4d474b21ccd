use Rattle.stream.proofs.Transcripts.{left_text}
use Rattle.stream.proofs.transcript.Transcript.lines.Goals as goal

pub returns : goal.returns
returns c = left_text 0 c.args.self.answers.now c.args.self.ended
