-- The answers of a session, as the machine's.
use Rattle.std.specs.Prelude.{List, map, take}
use Rattle.machine.specs.Calls.{Call, Answer}
use Rattle.machine.specs.Machine.{System, bare, history}
use Rattle.stream.specs.declared.answers.Answer as coded
use Rattle.stream.specs.declared.answers.Answer.TheVariants.{Number, Image, Done, Spent, Refused}

abbrev pub told : coded.Answer → Answer
told (Number n) = Answer.number n
told (Image image) = Answer.bytes (take image.size image.buffer)
told (Done turns) = Answer.done turns
told (Spent turns) = Answer.spent turns
told (Refused e) = Answer.refused e

-- what the machine answers to a list of calls, from the first
abbrev pub answers_to : System → List Call → List Answer
answers_to S cs = map (λ e. e.answer) (history S bare cs)
