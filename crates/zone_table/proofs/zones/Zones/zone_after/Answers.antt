use Rattle.std.proofs.Common.{List, subst}
use Rattle.zone_list.specs.Found.{NextZoneOrNone}
use Rattle.zone_list.specs.Kept.{Listed, named_of}
use Rattle.zone_table.specs.Tables.{Table}
use Rattle.zone_finding.proofs.Naming.{next_with}
use Rattle.zone_table.proofs.zones.Zones.zone_after.Goals as goal

pub returns : goal.returns
returns c =
    subst (λ (t : Table). NextZoneOrNone t.zones c.args.zone c.next_id.result) c.self.view_is
    (next_with c.self.inside.store.slots c.self.inside.list.items c.args.zone c.next_id.result
    (subst (λ (l : List Listed). NextZoneOrNone (named_of l) c.args.zone c.next_id.result)
    c.deref.ensures.value c.next_id.ensures))
