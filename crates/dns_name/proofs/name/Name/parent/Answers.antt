use Rattle.std.proofs.Common.{◌∙◌, sym, ap, subst, ◌∷◌}
use Rattle.dns_name.specs.Stored.{labels_of}
use Rattle.dns_name.specs.Whole.{IsWire}
use Rattle.dns_name.proofs.Steps.{behind_first}
use Rattle.dns_name.proofs.name.Name.parent.Goals as goal

pub of_octets-requires : goal.of_octets-requires
of_octets-requires c =
    subst (λ t. IsWire t) (sym c.behind.ensures)
    (behind_first _ c.octets-octets.ensures.whole c.if-n-eq0.false).0

pub returns-clause-some : goal.returns-clause-some
returns-clause-some c =
    let s = (behind_first _ c.octets-octets.ensures.whole c.if-n-eq0.false).1 in (
      s.0,
      sym c.octets-octets.ensures.same ∙ s.1
          ∙ ap (λ ls. s.0 ∷ ls) (ap labels_of (sym c.behind.ensures) ∙ sym c.of_octets.ensures),
    )
