-- Which letter a record of each kind has. Assumes nothing.
use Rattle.std.proofs.Common.{◌≡◌, ℕ, Bool, true, false, cond, eqb, Some, None, Option, List, [], ◌∷◌, sym, refl, ap, ◌∙◌, subst}
use Rattle.std.proofs.lemmas.Bool.{eqb-true}
use Rattle.machine.specs.Command.{Sign, plus, minus, times, less, equal}
use Rattle.program.specs.declared.innermost.Innermost.{Innermost}
use Rattle.program.specs.declared.innermost.Innermost.TheVariants.{First, Second, Loop}
use Rattle.program.specs.declared.innermost.RecordKind.{RecordKind}
use Rattle.program.specs.declared.innermost.RecordKind.TheVariants.{Set, Sign as OneSign, Release, Raise, VariableTest, ConditionTest, Loop as While, Mark}
use Rattle.program.specs.declared.kept.Sign.{Sign as KeptSign}
use Rattle.program.specs.declared.kept.Sign.TheVariants.{Plus, Minus, Times, Less, Equal}
use Rattle.program.specs.Kept.{sign_of, kept_sign}
use Rattle.program.specs.Written.{letter_of}
use Rattle.program.specs.Rules.{Block, then_block, else_block, loop_block, Kind, kind, sets, signs, releases, raises, variable_tests, condition_tests, loops, elses, ends, others, in_first, in_last, may_stand}
use Rattle.program.specs.Letters.{innermost_of, first_mark, last_mark, kind_at}

-- ── the signs as they are kept ──

pub sign_of-kept : (s : Sign) → sign_of (kept_sign s) ≡ s
sign_of-kept plus = refl
sign_of-kept minus = refl
sign_of-kept times = refl
sign_of-kept less = refl
sign_of-kept equal = refl

pub kept_sign-of : (s : KeptSign) → kept_sign (sign_of s) ≡ s
kept_sign-of Plus = refl
kept_sign-of Minus = refl
kept_sign-of Times = refl
kept_sign-of Less = refl
kept_sign-of Equal = refl

-- ── the letter of a kind ──

abbrev pub Letter : Kind → ℕ → Type 0
Letter sets l = l ≡ 83
Letter (signs s) l = l ≡ letter_of s
Letter releases l = l ≡ 68
Letter raises l = l ≡ 85
Letter variable_tests l = l ≡ 73
Letter condition_tests l = l ≡ 81
Letter loops l = l ≡ 87
Letter elses l = l ≡ 74
Letter ends l = l ≡ 75
Letter others l = Unit {0}

pub letter_of_lem : (l : ℕ) → Letter (kind l) l
letter_of_lem l =
    pick 83 sets _ (λ e. e) (pick 43 (signs plus) _ (λ e. e) (pick 45 (signs minus) _ (λ e. e) (pick 42 (signs times) _ (λ e. e) (pick 60 (signs less) _ (λ e. e) (pick 61 (signs equal) _ (λ e. e)
    (pick 68 releases _ (λ e. e) (pick 85 raises _ (λ e. e) (pick 73 variable_tests _ (λ e. e) (pick 81 condition_tests _ (λ e. e) (pick 87 loops _ (λ e. e) (pick 74 elses _ (λ e. e) (pick 75 ends _ (λ e. e) tt))))))))))))
  where
    choose : (b : Bool) (k x : Kind) → (b ≡ true → Letter k l) → Letter x l → Letter (cond b k x) l
    choose true k x f g = f refl
    choose false k x f g = g

    pick : (n : ℕ) (k x : Kind) → (l ≡ n → Letter k l) → Letter x l → Letter (cond (eqb l n) k x) l
    pick n k x f g = choose (eqb l n) k x (λ e. f (eqb-true l n e)) g

-- ── the kind that the checker finds ──

abbrev kinds : Option Innermost → Kind → Option RecordKind
kinds i sets = Some Set
kinds i (signs s) = Some (OneSign (kept_sign s))
kinds i releases = Some Release
kinds i raises = Some Raise
kinds i variable_tests = Some VariableTest
kinds i condition_tests = Some ConditionTest
kinds i loops = Some While
kinds i elses = first_mark i
kinds i ends = last_mark i
kinds i others = None

kind_at_lem : (l : ℕ) (i : Option Innermost) → kinds i (kind l) ≡ kind_at l i
kind_at_lem l i =
    or 83 sets _ _ (or 43 (signs plus) _ _ (or 45 (signs minus) _ _ (or 42 (signs times) _ _ (or 60 (signs less) _ _ (or 61 (signs equal) _ _ (or 68 releases _ _ (or 85 raises _ _ (or 73 variable_tests _ _ (or 81 condition_tests _ _ (or 87 loops _ _ (or 74 elses _ _ (or 75 ends _ _ refl))))))))))))
  where
    through : (b : Bool) (k x : Kind) (z : Option RecordKind) → kinds i x ≡ z → kinds i (cond b k x) ≡ cond b (kinds i k) z
    through true k x z e = refl
    through false k x z e = e

    or : (n : ℕ) (k x : Kind) (z : Option RecordKind) → kinds i x ≡ z → kinds i (cond (eqb l n) k x) ≡ cond (eqb l n) (kinds i k) z
    or n k x z e = through (eqb l n) k x z e

abbrev pub MarkOf : Option Innermost → Kind → Type 0
MarkOf None k = ⊥
MarkOf (Some First) k = k ≡ elses
MarkOf (Some Second) k = k ≡ ends
MarkOf (Some Loop) k = k ≡ ends

-- what the kind that the checker finds says of the rules' kind
abbrev pub Of : Option RecordKind → Option Innermost → Kind → Type 0
Of None i k = (bs : List Block) → innermost_of bs ≡ i → may_stand bs k ≡ false
Of (Some Set) i k = k ≡ sets
Of (Some (OneSign s)) i k = k ≡ signs (sign_of s)
Of (Some Release) i k = k ≡ releases
Of (Some Raise) i k = k ≡ raises
Of (Some VariableTest) i k = k ≡ variable_tests
Of (Some ConditionTest) i k = k ≡ condition_tests
Of (Some While) i k = k ≡ loops
Of (Some Mark) i k = MarkOf i k

abbrev pub first_in : Option Innermost → Bool
first_in None = false
first_in (Some First) = true
first_in (Some Second) = false
first_in (Some Loop) = false

abbrev pub last_in : Option Innermost → Bool
last_in None = false
last_in (Some First) = false
last_in (Some Second) = true
last_in (Some Loop) = true

pub first_in_lem : (bs : List Block) → in_first bs ≡ first_in (innermost_of bs)
first_in_lem [] = refl
first_in_lem (then_block t pc before ∷ bs) = refl
first_in_lem (else_block t c pc before ∷ bs) = refl
first_in_lem (loop_block v pc before ∷ bs) = refl

pub last_in_lem : (bs : List Block) → in_last bs ≡ last_in (innermost_of bs)
last_in_lem [] = refl
last_in_lem (then_block t pc before ∷ bs) = refl
last_in_lem (else_block t c pc before ∷ bs) = refl
last_in_lem (loop_block v pc before ∷ bs) = refl

of : (i : Option Innermost) (k : Kind) → Of (kinds i k) i k
of i sets = refl
of i (signs s) = ap signs (sym (sign_of-kept s))
of i releases = refl
of i raises = refl
of i variable_tests = refl
of i condition_tests = refl
of i loops = refl
of None elses = λ bs e. first_in_lem bs ∙ ap first_in e
of (Some First) elses = refl
of (Some Second) elses = λ bs e. first_in_lem bs ∙ ap first_in e
of (Some Loop) elses = λ bs e. first_in_lem bs ∙ ap first_in e
of None ends = λ bs e. last_in_lem bs ∙ ap last_in e
of (Some First) ends = λ bs e. last_in_lem bs ∙ ap last_in e
of (Some Second) ends = refl
of (Some Loop) ends = refl
of i others = λ bs e. refl

pub kind_found : (k : Option RecordKind) (l : ℕ) (i : Option Innermost) → k ≡ kind_at l i → Of k i (kind l)
kind_found k l i h = subst (λ x. Of x i (kind l)) (kind_at_lem l i ∙ sym h) (of i (kind l))
