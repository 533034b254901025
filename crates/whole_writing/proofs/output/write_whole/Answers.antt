use Rattle.std.proofs.Common.{arith}
use Rattle.std.proofs.lemmas.Grind.{common_steps}
use Rattle.whole_writing.proofs.Pieces.{write_step, stuck}
use Rattle.whole_writing.proofs.output.write_whole.Goals as goal

pub returns-then-n-eq0-clause-writes : goal.returns-then-n-eq0-clause-writes
returns-then-n-eq0-clause-writes g c = λ held h.
    stuck held c.args.piece.now _ _ _ c.loop-at.at c.in-Bytes.n (omega arith) c.if-n-eq0.true
    (c.loop-at.invariant.writes held h) c.in-Bytes.ensures.leaves

pub loop-at-preserved : goal.loop-at-preserved
loop-at-preserved g c = record {
  within = grind (arith, common_steps, c.in-Bytes.ensures.within, c.behind.ensures);
  counts = omega (arith, c.write.ensures.counts, c.loop-at.invariant.counts);
  writes = λ held h.
      write_step held c.args.piece.now _ _ _ c.loop-at.at c.in-Bytes.n c.behind.ensures
      (c.loop-at.invariant.writes held h) c.in-Bytes.ensures.leaves;
}
