use Rattle.std.proofs.Common.{ap, arith}
use Rattle.zone_finding.specs.Counted.{sets_in_all}
use Rattle.zone_table.specs.Tables.{Table}
use Rattle.zone_finding.proofs.Totals.{all_sets}
use Rattle.zone_table.proofs.zones.Zones.all_sets.Goals as goal

pub overflow_sub-result : goal.overflow_sub-result
overflow_sub-result c =
    let count = c.slots.ensures.count in
    let spare = c.spare.ensures in
    let sets = c.self.invariant.1.sets in
    omega (arith, count, spare, sets)

pub returns : goal.returns
returns c =
    let s = c.self.inside in
    let count = c.slots.ensures.count in
    let most = c.slots.ensures.few in
    let spare = c.spare.ensures in
    let all = all_sets s.store s.list.items s.octets c.self.invariant.0 c.self.invariant.1 (omega (arith, count, most)) in
    let same = ap (λ (t : Table). sets_in_all t.zones) c.self.view_is in
    omega (arith, count, spare, all, same)
