use Rattle.std.proofs.Common.{◌++◌, arith}
use Rattle.config_zones.specs.Edited.{hosted_in}
use Rattle.config_zones.specs.Walks.{above}
use Rattle.dump_sending.proofs.Hosted.{all_zones, at_first, next_zone}
use Rattle.dump_sending.specs.Dumps.{zones_text}
use Rattle.dump_sending.proofs.zones.send_zones.Goals as goal

pub loop-zone-init : goal.loop-zone-init
loop-zone-init g c = record {
  capacity = omega arith;
  counts = omega arith;
  passes = λ held rest text passed.
      at_first c.args.zones.now.zones c.zones_follow.ensures c.well_formed-2.ensures held _ _ rest text
      passed;
}

pub returns-in-Failed-clause-passes : goal.returns-in-Failed-clause-passes
returns-in-Failed-clause-passes g c = λ held rest text passed.
    let zones = c.args.zones.now.zones in
    let one = c.in-Failed.ensures.passes in
    let next = c.in-Some.zone in
    one.2 held (zones_text (hosted_in (above zones next)) ++ rest) text
    (next_zone zones c.zones_follow.ensures c.well_formed-2.ensures held _ _ rest text
    c.loop-zone.last next one.0 c.in-Some.ensures one.1
    (c.loop-zone.invariant.passes held rest text passed))

pub loop-zone-preserved : goal.loop-zone-preserved
loop-zone-preserved g c = record {
  capacity = omega (arith, c.in-Whole.ensures.capacity, c.loop-zone.invariant.capacity);
  counts = omega (arith, c.in-Whole.ensures.counts, c.loop-zone.invariant.counts);
  passes = λ held rest text passed.
      let zones = c.args.zones.now.zones in
      let one = c.in-Whole.ensures.passes in
      let next = c.in-Some.zone in
      one.2 held (zones_text (hosted_in (above zones next)) ++ rest) text
      (next_zone zones c.zones_follow.ensures c.well_formed-2.ensures held _ _ rest text
      c.loop-zone.last next one.0 c.in-Some.ensures one.1
      (c.loop-zone.invariant.passes held rest text passed));
}

pub returns-clause-passes : goal.returns-clause-passes
returns-clause-passes g c = λ held rest text passed.
    all_zones c.args.zones.now.zones c.zones_follow.ensures c.well_formed-2.ensures held _ _ rest text
    c.loop-zone.last c.in_default.ensures (c.loop-zone.invariant.passes held rest text passed)
