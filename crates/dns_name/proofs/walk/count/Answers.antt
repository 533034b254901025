use Rattle.std.proofs.Common.{ap, arith, length}
use Rattle.dns_name.proofs.Steps.{step}
use Rattle.dns_name.proofs.walk.count.Goals as goal

pub loop-at-preserved : goal.loop-at-preserved
loop-at-preserved c =
    let i = c.loop-at.invariant in
    let s = step c.args.octets.now c.loop-at.at i.rest c.loop-at-test.true in
    record {
      rest = s.rest;
      small = omega (arith, i.small);
      so_far =
          omega (arith, i.so_far, ap length s.labels);
    }
