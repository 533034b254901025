use Rattle.std.proofs.Common.{refl, arith}
use Rattle.policy_select.proofs.GroupSizes.{few_of_all}
use Rattle.policy_select.specs.Groups.{sets_in_zone}
use Rattle.zone_lookup.proofs.Serving.{as_many}
use Rattle.zone_lookup.proofs.served.has_few.Goals as goal

pub returns : goal.returns
returns c =
    let zones = c.args.zones.now.zones in
    let behind = c.loop-i-test.false in
    let count = c.count-i-end.ensures in
    let same = as_many zones c.args.zone in (
      λ so. few_of_all c.few_by_each_set.ensures (sets_in_zone zones c.args.zone) c.loop-i.i
          (omega (arith, behind, count, same)) c.loop-i.invariant,
      λ few. refl,
    )
