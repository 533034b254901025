use Rattle.std.proofs.Common.{length}
use Rattle.line_splitting.specs.Steps.{DropsBlanks}
use Rattle.line_splitting.proofs.reader.LineReader.take_whole.Given as goal

abbrev pub invariant-loop-place : goal.invariant-loop-place
invariant-loop-place l = DropsBlanks l.fn.self l.self

abbrev pub decreases-loop-place : goal.decreases-loop-place
decreases-loop-place l = length l.self.waiting
