-- The readers of a box.
use Rattle.machine.specs.Machine.{Readers}
use Rattle.machine.specs.SheetReader.{read_sheet}
use Rattle.program.specs.Rules.{program_in}

abbrev pub readers : Readers
readers = record { sheet = read_sheet; program = program_in }
