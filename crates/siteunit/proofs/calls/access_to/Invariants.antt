use Rattle.std.proofs.Common.{◌≡◌, ℕ, ◌<◌, get_or, length}
use Rattle.sheet.specs.Table.{blank_variable}
use Rattle.siteunit.specs.Standing.{no_access, access_of}
use Rattle.siteunit.proofs.calls.access_to.Given as goal

abbrev pub invariant-loop-variable : goal.invariant-loop-variable
invariant-loop-variable l = (length l.access ≡ 64) × ((v : ℕ) → v < l.variable → get_or l.access v no_access ≡ access_of (get_or l.table.rows v blank_variable))
