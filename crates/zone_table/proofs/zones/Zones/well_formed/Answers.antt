use Rattle.std.proofs.Common.{subst}
use Rattle.zone_list.specs.Zones.{AreZones}
use Rattle.zone_table.specs.Tables.{Table}
use Rattle.zone_finding.proofs.Naming.{are_zones}
use Rattle.zone_table.proofs.zones.Zones.well_formed.Goals as goal

pub returns : goal.returns
returns c =
    subst (λ (t : Table). AreZones t.zones) c.self.view_is
    (are_zones c.self.inside.store.slots c.self.inside.list.items c.self.invariant.0)
