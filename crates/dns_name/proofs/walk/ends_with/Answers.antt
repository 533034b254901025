use Rattle.std.proofs.Common.{arith}
use Rattle.dns_name.proofs.Steps.{step, label_left, passes}
use Rattle.dns_name.proofs.walk.ends_with.Goals as goal

pub loop-at-preserved : goal.loop-at-preserved
loop-at-preserved c =
    let i = c.loop-at.invariant in
    let s = step c.args.octets.now c.loop-at.at i.rest
    (label_left _ _ c.loop-at.at i.rest c.requires.suffix c.loop-at-test.true) in
    let p = passes c.args.octets.now c.args.suffix.now c.loop-at.at i.rest c.requires.suffix
    c.loop-at-test.true in
    record {
      rest = s.rest;
      within = omega (arith, s.room);
      same =
          (λ e. p.0 (i.same.0 e), λ e. i.same.1 (p.1 e));
    }
