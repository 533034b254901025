use Rattle.std.proofs.Common.{arith, sym, subst, ◌∙◌}
use Rattle.std.proofs.lemmas.Bool.{false≢true}
use Rattle.r53_cli.specs.Words.{IsUnpadded}
use Rattle.r53_cli.proofs.Numbers.{read_is_decimal, decimal_unpadded, refused_is_none}
use Rattle.r53_cli.proofs.words.decimal_number.Goals as goal

pub returns-then-not-is_unpadded-clause-none : goal.returns-then-not-is_unpadded-clause-none
returns-then-not-is_unpadded-clause-none c = λ n h e.
    let unpadded =
    subst IsUnpadded (sym (c.as_bytes.ensures.value ∙ e)) (decimal_unpadded n (omega arith)) in
    absurd (false≢true (sym c.if-not-is_unpadded.true ∙ c.is_unpadded.ensures.1 unpadded))

pub returns-in-Ok-clause-some : goal.returns-in-Ok-clause-some
returns-in-Ok-clause-some c =
    let p = c.in-Ok.ensures.value.0 in
    let unpadded =
    subst IsUnpadded c.as_bytes.ensures.value
    (c.is_unpadded.ensures.0 c.if-not-is_unpadded.false) in
    read_is_decimal c.args.text.now c.in-Ok.n unpadded p.0.0 p.0.1 p.1

pub returns-in-Err-clause-none : goal.returns-in-Err-clause-none
returns-in-Err-clause-none c = refused_is_none c.args.text.now c.in-Err.ensures.value.0
