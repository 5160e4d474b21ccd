-- The masks of a sheet have what a run asks of them.
use Rattle.lattice.specs.Lattice.{Lattice}
use Rattle.sheet.specs.Sheet.{Sheet}
use Rattle.flow.specs.declared.masks.FlowMasks.{FlowMasks}
use Rattle.flow.specs.Flows.{MasksOf}
use Rattle.interpreter.specs.Meaning.{Enforces}

pub enforces : {C : Lattice} {sh : Sheet} {m : FlowMasks} → MasksOf C sh m → Enforces m sh
enforces M = record { wipers = M.wipers; permits = M.permits; conditions = λ p h. (M.permit p h).conditions }
