use Rattle.std.proofs.Common.{◌≡◌, ◌<◌, ◌^◌, List, length, ap, subst, ◌∙◌, arith}
use Rattle.zone_list.specs.SumsRecord.{Sums}
use Rattle.zone_list.specs.Sums.{octets_of, sums_of}
use Rattle.zone_list.specs.Kept.{Listed, zones_in}
use Rattle.zone_list.specs.Zones.{placed_in}
use Rattle.zone_table.specs.Tables.{Table}
use Rattle.zone_finding.proofs.Totals.{zone_octets}
use Rattle.zone_table.proofs.zones.Zones.octets.Goals as goal

pub returns : goal.returns
returns c =
    let s = c.self.inside in
    let count = c.slots.ensures.count in
    let most = c.slots.ensures.few in
    let few : length s.store.slots < 2 ^ 32 = omega (arith, count, most) in
    let is : c.sums_in.result ≡ sums_of (placed_in (zones_in s.store.slots s.list.items) c.args.zone) =
    subst (λ (l : List Listed). c.sums_in.result ≡ sums_of (placed_in (zones_in s.store.slots l) c.args.zone))
    c.deref.ensures.value c.sums_in.ensures in
    ap (λ (x : Sums). x.octets) is
    ∙ (zone_octets s.store s.list.items s.octets c.self.invariant.0 c.self.invariant.1 few c.args.zone
    ∙ ap (λ (t : Table). octets_of (placed_in t.zones c.args.zone)) c.self.view_is)
