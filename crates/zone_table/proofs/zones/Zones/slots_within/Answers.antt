use Rattle.std.proofs.Common.{subst}
use Rattle.zone_table.specs.Tables.{Table, HaveSlotsBelow}
use Rattle.zone_table.proofs.Apart.{below}
use Rattle.zone_table.proofs.zones.Zones.slots_within.Goals as goal

pub returns-clause-within : goal.returns-clause-within
returns-clause-within c =
    subst (λ (t : Table). HaveSlotsBelow t.zones t.slots) c.self.view_is
    (below c.self.inside.store.slots c.self.inside.list.items c.self.invariant.0)
