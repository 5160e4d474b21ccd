-- Which rules refused calls.
use Rattle.std.specs.Prelude.{ℕ, Bool, true, false, List, Some, None, Option, count_by, ◌==◌}
use Rattle.stream.specs.declared.answers.Answer.{Answer}
use Rattle.stream.specs.declared.answers.Answer.TheVariants.{Number, Image, Done, Spent, Refused}

-- the rule that refused, if one did
abbrev pub outcome : Answer → Option ℕ
outcome (Number n) = None
outcome (Image image) = None
outcome (Done turns) = None
outcome (Spent turns) = None
outcome (Refused e) = Some e.number

abbrev pub same : Option ℕ → Option ℕ → Bool
same (Some rule) (Some other) = rule == other
same None None = true
same (Some rule) None = false
same None (Some other) = false

abbrev pub occurrences : Option ℕ → List (Option ℕ) → ℕ
occurrences o os = count_by (λ other. same other o) os
