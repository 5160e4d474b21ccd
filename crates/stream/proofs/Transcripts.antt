-- Lines one after another. Assumes nothing.
use Rattle.std.proofs.Common.{◌≡◌, ℕ, suc, ◌+◌, ◌<◌, Bool, true, false, cond, refl, List, [], ◌∷◌, ◌++◌, length, get_or, take, sym, ap, ◌∙◌, arith, append_assoc, length-take-le}
use Rattle.std.specs.Prelude.{codes}
use Rattle.std.proofs.lemmas.List.{take_more}
use Rattle.stream.specs.declared.answers.Answer.{Answer}
use Rattle.stream.specs.declared.transcript_line.TranscriptLine.TheVariants.{Stop}
use Rattle.stream.specs.Lines.{text, lines_from, lines_text}
use Rattle.stream.specs.Remaining.{answers_left}

abbrev line : ℕ → Answer → List ℕ
line n a = text (record { count = n; answer = a }) ++ codes "\n"

lines_push : (n : ℕ) (before : List Answer) (a : Answer) → lines_from n (before ++ a ∷ []) ≡ lines_from n before ++ line (n + length before) a
lines_push n [] a = ap (λ k. line k a) (omega arith)
lines_push n (b ∷ rest) a =
    let e : n + 1 + length rest ≡ n + suc (length rest) = omega arith in
    ap (λ (t : List ℕ). text (record { count = n; answer = b }) ++ 10 ∷ t) (lines_push (n + 1) rest a ∙ ap (λ k. lines_from (n + 1) rest ++ line k a) e)
    ∙ sym (append_assoc (text (record { count = n; answer = b })) (10 ∷ lines_from (n + 1) rest) (line (n + suc (length rest)) a))

-- one line more
pub lines_more : (answers : List Answer) (i : ℕ) (a : Answer) → i < length answers → a ≡ get_or answers i a
    → lines_from 0 (take i answers) ++ line i a ≡ lines_from 0 (take (i + 1) answers)
lines_more answers i a l e =
    let front = take i answers in
    let n : 0 + length front ≡ i = omega (arith, length-take-le i answers) in
    sym (ap (lines_from 0) (take_more answers i a l ∙ ap (λ x. front ++ x ∷ []) (sym e)) ∙ lines_push 0 front a ∙ ap (λ k. lines_from 0 front ++ line k a) n)

-- the lines that are left say what the text of them all says
pub left_text : (n : ℕ) (answers : List Answer) (ended : Bool)
    → lines_text (answers_left n answers ++ cond ended [] (Stop ∷ [])) ≡ lines_from n answers ++ cond ended [] (codes "stop\n")
left_text n [] true = refl
left_text n [] false = refl
left_text n (a ∷ rest) ended =
    let front = text (record { count = n; answer = a }) in
    ap (λ (t : List ℕ). front ++ 10 ∷ t) (left_text (n + 1) rest ended)
    ∙ sym (append_assoc front (10 ∷ lines_from (n + 1) rest) (cond ended [] (codes "stop\n")))
