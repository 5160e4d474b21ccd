-- Which letters may stand where: J ends the first block of a test, K the second or a loop's.
use Rattle.std.specs.Prelude.{ℕ, cond, Some, None, Option, List, [], ◌∷◌, ◌==◌}
use Rattle.program.specs.declared.innermost.Innermost.{Innermost}
use Rattle.program.specs.declared.innermost.Innermost.TheVariants.{First, Second, Loop}
use Rattle.program.specs.declared.innermost.RecordKind.{RecordKind}
use Rattle.program.specs.declared.innermost.RecordKind.TheVariants.{Set, Sign, Release, Raise, VariableTest, ConditionTest, Loop as While, Mark}
use Rattle.program.specs.declared.kept.Sign.TheVariants.{Plus, Minus, Times, Less, Equal}
use Rattle.program.specs.Rules.{Block, then_block, else_block, loop_block}

abbrev pub innermost_of : List Block → Option Innermost
innermost_of [] = None
innermost_of (then_block t pc before ∷ bs) = Some First
innermost_of (else_block t c pc before ∷ bs) = Some Second
innermost_of (loop_block v pc before ∷ bs) = Some Loop

abbrev pub first_mark : Option Innermost → Option RecordKind
first_mark None = None
first_mark (Some First) = Some Mark
first_mark (Some Second) = None
first_mark (Some Loop) = None

abbrev pub last_mark : Option Innermost → Option RecordKind
last_mark None = None
last_mark (Some First) = None
last_mark (Some Second) = Some Mark
last_mark (Some Loop) = Some Mark

-- S, + - * < =, D, U, I, Q, W, J, K
abbrev pub kind_at : ℕ → Option Innermost → Option RecordKind
kind_at letter i =
    cond (letter == 83) (Some Set)
    (cond (letter == 43) (Some (Sign Plus))
    (cond (letter == 45) (Some (Sign Minus))
    (cond (letter == 42) (Some (Sign Times))
    (cond (letter == 60) (Some (Sign Less))
    (cond (letter == 61) (Some (Sign Equal))
    (cond (letter == 68) (Some Release)
    (cond (letter == 85) (Some Raise)
    (cond (letter == 73) (Some VariableTest)
    (cond (letter == 81) (Some ConditionTest)
    (cond (letter == 87) (Some While)
    (cond (letter == 74) (first_mark i)
    (cond (letter == 75) (last_mark i) None))))))))))))
