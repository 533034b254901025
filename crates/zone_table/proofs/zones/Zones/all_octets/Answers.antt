use Rattle.std.proofs.Common.{ap, ◌∙◌, arith}
use Rattle.zone_finding.specs.Counted.{octets_in_all}
use Rattle.zone_table.specs.Tables.{Table}
use Rattle.zone_finding.proofs.Totals.{whole_octets}
use Rattle.zone_table.proofs.zones.Zones.all_octets.Goals as goal

pub returns : goal.returns
returns c =
    let s = c.self.inside in
    let count = c.slots.ensures.count in
    let most = c.slots.ensures.few in
    whole_octets s.store s.list.items s.octets c.self.invariant.0 c.self.invariant.1 (omega (arith, count, most))
    ∙ ap (λ (t : Table). octets_in_all t.zones) c.self.view_is
