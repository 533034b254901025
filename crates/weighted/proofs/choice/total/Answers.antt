use Rattle.std.proofs.Common.{arith}
use Rattle.weighted.proofs.Walk.{step_length, step_end}
use Rattle.weighted.proofs.choice.total.Goals as goal

pub loop-i-preserved : goal.loop-i-preserved
loop-i-preserved c =
    let weights = c.args.weights.now in
    let healthy = c.args.healthy.now in
    let stretch = c.stretch-total.ensures in
    record {
      so_far = omega (
        arith,
        step_length c.args.rule weights healthy c.loop-i.i _ (omega arith) stretch.exact,
      );
      most = omega (arith, stretch.most);
    }

pub returns : goal.returns
returns c =
    omega (
      arith,
      step_end c.args.rule c.args.weights.now c.args.healthy.now c.loop-i.i (omega arith),
    )
