use Rattle.std.proofs.Common.{arith, refl}
use Rattle.zone_lookup.proofs.Serving.{next_can, none_yet, one_more}
use Rattle.zone_lookup.proofs.served.are_served.Goals as goal

pub loop-zone-init : goal.loop-zone-init
loop-zone-init c = none_yet c.args.zones.now.zones c.well_formed-2.ensures

pub returns-then-not-can_answer : goal.returns-then-not-can_answer
returns-then-not-can_answer c =
    let can = next_can c.args.zones.now.zones c.well_formed-2.ensures c.loop-zone.last
    c.in-Some.zone c.in-Some.ensures in (
      λ so. absurd (grind (arith, so)),
      λ served. c.if-not-can_answer.ensures.1 (can served),
    )

pub loop-zone-preserved : goal.loop-zone-preserved
loop-zone-preserved c =
    one_more c.args.zones.now.zones c.well_formed-2.ensures c.loop-zone.last c.in-Some.zone
    c.in-Some.ensures (c.if-not-can_answer.ensures.0 refl) c.loop-zone.invariant
