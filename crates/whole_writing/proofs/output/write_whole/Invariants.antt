use Rattle.std.proofs.Common.{◌≡◌, ℕ, ◌-◌, ◌≤◌, List, Some, length, take, ◌++◌}
use Rattle.whole_writing.proofs.output.write_whole.Given as goal

abbrev pub invariant-loop-at : goal.invariant-loop-at
invariant-loop-at g l = record {
  within : l.at ≤ length l.piece;
  counts : g.K.Sink.faults l.fn.out ≤ g.K.Sink.faults l.out;
  writes : (held : List ℕ) → g.K.Sink.held l.fn.out ≡ Some held
      → g.K.Sink.held l.out ≡ Some (held ++ take l.at l.piece);
}

abbrev pub decreases-loop-at : goal.decreases-loop-at
decreases-loop-at g l = length l.piece - l.at
