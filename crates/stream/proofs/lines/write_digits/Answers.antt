use Rattle.std.proofs.Common.{◌≡◌, ◌+◌, ◌*◌, [], ◌∷◌, ◌++◌, length, take, set, ap, sym, ◌∙◌, arith}
use Rattle.std.proofs.lemmas.List.{take_all}
use Rattle.stream.specs.Lines.{hexadecimal}
use Rattle.stream.proofs.Digits.{two_more, hexadecimal_more}
use Rattle.stream.proofs.lines.write_digits.Goals as goal

pub loop-place-preserved : goal.loop-place-preserved
loop-place-preserved c =
    let bs = c.args.bytes.now in
    let i = c.loop-place.place in
    let a = c.digit.result in
    let b = c.digit-in-loop-place.result in
    let ahead : 2 * (i + 1) ≡ 2 * i + 2 = omega arith in
    ap (λ n. take n (set (set c.loop-place.text (2 * i) a) (2 * i + 1) b)) ahead
    ∙ two_more c.loop-place.text (2 * i) a b (omega (arith, c.requires, c.loop-place-test.true, c.loop-place.auto.text))
    ∙ (λ k. c.loop-place.invariant k ++ (c.digit.ensures k ∷ c.digit-in-loop-place.ensures k ∷ []))
    ∙ hexadecimal_more bs i c.loop-place-test.true

pub returns-clause-digits : goal.returns-clause-digits
returns-clause-digits c =
    let all : c.loop-place.place ≡ length c.args.bytes.now = omega (arith, c.loop-place-test.false, c.loop-place.auto.place-end) in
    ap (λ n. take (2 * n) c.loop-place.text) (sym all) ∙ c.loop-place.invariant ∙ ap hexadecimal (take_all _ _ c.loop-place-test.false)
