use Rattle.std.proofs.Common.{arith}
use Rattle.std.proofs.lemmas.Grind.{common_steps}
use Rattle.r53_cli.proofs.Streams.{fill_step, at_end}
use Rattle.r53_cli.proofs.intake.fill.Goals as goal

pub returns-then-n-eq0-clause-reads : goal.returns-then-n-eq0-clause-reads
returns-then-n-eq0-clause-reads g c = λ left h.
    at_end left c.loop-at.buffer _ _ _ c.loop-at.at _ _ _ c.if-n-eq0.true
    (c.loop-at.invariant.reads left h) c.loop-at.invariant.within (grind (arith, common_steps))
    c.in-Bytes.ensures.gives

pub loop-at-preserved : goal.loop-at-preserved
loop-at-preserved g c = record {
  within = grind (arith, common_steps, c.in-Bytes.ensures.within);
  counts = omega (arith, c.read.ensures.counts, c.loop-at.invariant.counts);
  reads = λ left h. fill_step left c.loop-at.buffer _ _ _ c.loop-at.at c.in-Bytes.n _ _
      (c.loop-at.invariant.reads left h) c.loop-at.invariant.within
      (grind (arith, common_steps, c.in-Bytes.ensures.within)) c.in-Bytes.ensures.gives;
}
