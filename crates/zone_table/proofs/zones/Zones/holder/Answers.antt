use Rattle.std.proofs.Common.{List, subst}
use Rattle.zone_list.specs.Kept.{Listed, zones_in}
use Rattle.zone_finding.specs.Looking.{IsApex}
use Rattle.zone_table.specs.Tables.{Table}
use Rattle.zone_table.proofs.zones.Zones.holder.Goals as goal

pub returns : goal.returns
returns c =
    let s = c.self.inside in (
      c.in-Some.ensures,
      subst (λ (t : Table). IsApex t.zones c.in-Some.zone c.in-Some-apex_of.apex.now) c.self.view_is
          (subst (λ (l : List Listed). IsApex (zones_in s.store.slots l) c.in-Some.zone c.in-Some-apex_of.apex.now)
          c.deref.ensures.value c.in-Some-apex_of.ensures),
    )
