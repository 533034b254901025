use Rattle.std.proofs.Common.{arith, sym, ap, ◌∙◌}
use Rattle.std.specs.Prelude.{nat_eq}
use Rattle.std.specs.Cmp.Lexicographic.{pointwise}
use Rattle.octet_reading.proofs.Naming.{is_name, is_other, no_name}
use Rattle.octet_reading.proofs.names.lower_name.Goals as goal

pub returns-in_default-clause-none : goal.returns-in_default-clause-none
returns-in_default-clause-none c left =
    no_name c.args.bytes.now left (λ i. omega (arith, c.type_inv.bytes i)) c.in_default.ensures.none

pub returns-then-eq-clause-some : goal.returns-then-eq-clause-some
returns-then-eq-clause-some c =
    is_name c.args.bytes.now c.parts.result.0.now c.read_wire.new.self c.in-Some.len
    c.parts.result.1.now c.octets.ensures.name
    (ap (λ octets. pointwise nat_eq octets c.parts.result.0.now) (sym c.octets.ensures.spelled)
    ∙ sym c.eq.ensures ∙ c.if-eq.true)
    c.parts.ensures.front c.parts.ensures.rest

pub returns-clause-none : goal.returns-clause-none
returns-clause-none c left =
    is_other c.args.bytes.now c.parts.result.0.now c.read_wire.new.self c.in-Some.len left
    (λ i. omega (arith, c.type_inv.bytes i)) c.in-Some.ensures.some c.parts.ensures.front
    (ap (λ octets. pointwise nat_eq octets c.parts.result.0.now) (sym c.octets.ensures.spelled)
    ∙ sym c.eq.ensures ∙ c.if-eq.false)
