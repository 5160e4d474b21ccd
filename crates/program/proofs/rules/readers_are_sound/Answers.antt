use Rattle.program.proofs.Readers.{sound_readers}
use Rattle.program.proofs.rules.readers_are_sound.Goals as goal

pub returns : goal.returns
returns c = sound_readers
