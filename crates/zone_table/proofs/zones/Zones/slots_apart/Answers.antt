use Rattle.std.proofs.Common.{subst}
use Rattle.zone_table.specs.Tables.{Table, HaveSlotsApart}
use Rattle.zone_table.proofs.Apart.{apart}
use Rattle.zone_table.proofs.zones.Zones.slots_apart.Goals as goal

pub returns : goal.returns
returns c =
    subst (λ (t : Table). HaveSlotsApart t.zones) c.self.view_is
    (apart c.self.inside.store.slots c.self.inside.list.items c.self.invariant.0)
