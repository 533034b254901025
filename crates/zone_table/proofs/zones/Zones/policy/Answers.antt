use Rattle.std.proofs.Common.{List, subst, sym}
use Rattle.zone_list.specs.Kept.{Listed, zones_in}
use Rattle.zone_finding.specs.Looking.{RefersTo}
use Rattle.zone_table.specs.Tables.{Table}
use Rattle.zone_table.proofs.zones.Zones.policy.Goals as goal

pub policy-requires-clause-named : goal.policy-requires-clause-named
policy-requires-clause-named c =
    let it = c.requires in (
      it.0,
      subst (λ (l : List Listed). RefersTo (zones_in c.self.inside.store.slots l) c.args.set it.0)
          (sym c.deref.ensures.value)
          (subst (λ (t : Table). RefersTo t.zones c.args.set it.0) (sym c.self.view_is) it.1),
    )

pub returns : goal.returns
returns c named here place =
    c.policy.ensures named
    (subst (λ (l : List Listed). RefersTo (zones_in c.self.inside.store.slots l) c.args.set named)
    (sym c.deref.ensures.value)
    (subst (λ (t : Table). RefersTo t.zones c.args.set named) (sym c.self.view_is) here)) place
