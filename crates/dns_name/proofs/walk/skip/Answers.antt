use Rattle.std.proofs.Common.{arith, ap, ◌∙◌, length}
use Rattle.dns_name.proofs.Steps.{inside, step, some_left, drop_one}
use Rattle.dns_name.proofs.walk.skip.Goals as goal

pub bounds-octets-at : goal.bounds-octets-at
bounds-octets-at c = inside c.args.octets.now c.loop-left.at c.loop-left.invariant.rest

pub loop-left-preserved : goal.loop-left-preserved
loop-left-preserved c =
    let i = c.loop-left.invariant in
    let s = step c.args.octets.now c.loop-left.at i.rest
    (some_left c.args.octets.now c.loop-left.at i.rest
    (omega (arith, i.there, c.loop-left-test.true))) in
    record {
      rest = s.rest;
      within = omega (arith, s.room);
      there = omega (arith, i.there, ap length s.labels);
      skipped = drop_one _ _ _ c.loop-left.left c.loop-left-test.true s.labels ∙ i.skipped;
    }
