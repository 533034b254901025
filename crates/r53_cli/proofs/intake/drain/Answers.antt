use Rattle.std.proofs.Common.{arith, refl}
use Rattle.std.proofs.lemmas.Grind.{common_steps}
use Rattle.r53_cli.proofs.Streams.{drain_step, drain_end}
use Rattle.r53_cli.proofs.intake.drain.Goals as goal

pub returns-then-n-eq0-clause-reads : goal.returns-then-n-eq0-clause-reads
returns-then-n-eq0-clause-reads g c = λ left h.
    let i = c.loop-budget.invariant.reads left h in
    drain_end left _ _ _ _ c.loop-budget.budget _ _ _ refl (omega arith)
    c.loop-budget.invariant.budget_is c.if-n-eq0.true
    (grind (arith, common_steps, c.loop-budget.invariant.room)) i.0 i.1 c.in-Bytes.ensures.gives

pub loop-budget-preserved : goal.loop-budget-preserved
loop-budget-preserved g c = record {
  room = grind (arith, common_steps);
  budget_is = omega arith;
  counts = omega (arith, c.read.ensures.counts, c.loop-budget.invariant.counts);
  reads = λ left h.
      let i = c.loop-budget.invariant.reads left h in
      drain_step left _ _ _ c.in-Bytes.n c.loop-budget.budget _ _ _ refl
      (grind (arith, common_steps, c.in-Bytes.ensures.within)) c.loop-budget.invariant.budget_is
      i.0 i.1 c.in-Bytes.ensures.gives;
}
