use Rattle.std.proofs.Common.{ap, arith, refl}
use Rattle.set_search.specs.Types.{number_of}
use Rattle.set_search.proofs.Ordered.{one_number}
use Rattle.set_store.proofs.typed.is_of_at.Goals as goal

pub returns-in_default : goal.returns-in_default
returns-in_default c octets set holds spells =
    let told = c.in_default.ensures octets set holds spells in (
      (λ h. absurd (grind (arith, h))),
      λ of. absurd (told of.0),
    )

pub returns-then-number : goal.returns-then-number
returns-then-number c octets set holds spells =
    let told = c.in-Some.ensures octets set holds spells in
    let number = c.number.ensures in
    let own = told.1 in
    let other = c.if-number.true in (
      (λ h. absurd (grind (arith, h))),
      λ of. absurd (let e = ap number_of of.1 in omega (arith, e, number, own, other)),
    )

pub returns : goal.returns
returns c octets set holds spells =
    let told = c.in-Some.ensures octets set holds spells in
    let number = c.number.ensures in
    let own = told.1 in
    let same = c.if-number.false in (
      (λ h. (told.0, one_number set.rtype c.args.rtype (omega (arith, same, number, own)))),
      λ of. refl,
    )
