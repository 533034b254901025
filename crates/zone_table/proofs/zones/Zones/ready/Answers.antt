use Rattle.std.proofs.Common.{ℕ, ap, subst}
use Rattle.zone_table.specs.Needs.{IsPrepared}
use Rattle.zone_table.specs.Tables.{Table}
use Rattle.zone_table.proofs.Rooms.{ok_so}
use Rattle.zone_table.proofs.zones.Zones.ready.Goals as goal

pub returns-clause-ready : goal.returns-clause-ready
returns-clause-ready c =
    ok_so c.new.result c.new.ensures
    (λ ready prepared. c.in-Ok.ensures.room ready
    (subst (λ (n : ℕ). IsPrepared c.args.edit n c.in-Ok.need ready)
    (ap (λ (t : Table). t.edits) c.self.view_is) prepared))
