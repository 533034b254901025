use Rattle.std.proofs.Common.{◌∷◌, [], ◌++◌, ◌∙◌, ap, ap₂, sym, arith, subst, ◌<◌}
use Rattle.json_text.proofs.Escapes.{bare, control, with_letter}
use Rattle.json_text.proofs.quoting.put_octet.Goals as goal

pub returns-then-letter-gt0-clause-text : goal.returns-then-letter-gt0-clause-text
returns-then-letter-gt0-clause-text c =
    let letter = c.escape_letter-letter.ensures in
    c.put.ensures.text
    ∙ ap (λ t. c.args.into.now.items ++ t) (
    ap (λ n. 92 ∷ n ∷ []) letter
    ∙ sym (with_letter c.args.b (subst (λ n. 0 < n) letter c.if-letter-gt0.true)))

pub returns-then-b-lt32-clause-text : goal.returns-then-b-lt32-clause-text
returns-then-b-lt32-clause-text c =
    let letter = c.escape_letter-letter.ensures in
    c.put-then-b-lt32.ensures.text
    ∙ ap (λ t. c.args.into.now.items ++ t) (
    ap₂ (λ high low. 92 ∷ 117 ∷ 48 ∷ 48 ∷ high ∷ low ∷ []) c.digit.ensures c.digit-then-b-lt32.ensures
    ∙ sym (control c.args.b (omega (arith, letter, c.if-letter-gt0.false)) c.if-b-lt32.true))

pub returns-clause-text : goal.returns-clause-text
returns-clause-text c =
    let letter = c.escape_letter-letter.ensures in
    c.put-2.ensures.text
    ∙ ap (λ t. c.args.into.now.items ++ t)
    (sym (bare c.args.b (omega (arith, letter, c.if-letter-gt0.false)) c.if-b-lt32.false))
