use Rattle.std.proofs.Common.{◌≡◌, true, false, arith, sym, ◌∙◌}
use Rattle.dns_name.proofs.Lower.{lower_name, lower_front}
use Rattle.dns_name.proofs.scan.lower_name_len.Goals as goal

pub returns-then-not-are_lower-clause-none : goal.returns-then-not-are_lower-clause-none
returns-then-not-are_lower-clause-none c = λ labels rest name e.
    let size = c.in-Some.ensures.only labels rest name.raw e in
    let both : false ≡ true =
    sym c.if-not-are_lower.true
    ∙ c.are_lower.ensures.1 (lower_front _ _ rest _ labels c.front.ensures name e size) in
    cc

pub returns-clause-some : goal.returns-clause-some
returns-clause-some c =
    let s = c.in-Some.ensures.spelled in
    lower_name c.args.octets.now c.front.result.now c.in-Some.n s.0
    (λ i. omega (arith, c.type_inv.octets i)) c.front.ensures s.1 s.2
    (c.are_lower.ensures.0 c.if-not-are_lower.false)
