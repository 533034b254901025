use Rattle.std.proofs.Common.{◌≡◌, ◌+◌, ◌∙◌, ap, ◌∷◌, arith, length, take}
use Rattle.dns_name.specs.Wildcard.{wildcard}
use Rattle.dns_name.proofs.Steps.{with_wildcard}
use Rattle.dns_name.proofs.name.Name.wildcard.Goals as goal

pub of_octets-requires : goal.of_octets-requires
of_octets-requires c =
    let n = length c.octets-octets.result.now in
    let sum : n + 2 ≡ 2 + n = omega arith in
    let spelled = c.front.ensures ∙ ap (λ k. take k c.put_at.new.buffer) sum
    ∙ c.put_at.ensures.written in
    (with_wildcard c.octets-octets.result.now _ c.octets-octets.ensures.whole
    c.if-octets-gt253.false spelled).0

pub returns-clause-some : goal.returns-clause-some
returns-clause-some c =
    let n = length c.octets-octets.result.now in
    let sum : n + 2 ≡ 2 + n = omega arith in
    let spelled = c.front.ensures ∙ ap (λ k. take k c.put_at.new.buffer) sum
    ∙ c.put_at.ensures.written in
    c.of_octets.ensures ∙
    (with_wildcard c.octets-octets.result.now _ c.octets-octets.ensures.whole
    c.if-octets-gt253.false spelled).1
    ∙ ap (λ ls. wildcard ∷ ls) c.octets-octets.ensures.same
