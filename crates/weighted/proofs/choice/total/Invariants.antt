use Rattle.std.proofs.Common.{◌≡◌, ◌≤◌, ◌+◌, ◌*◌, length}
use Rattle.weighted.specs.Line.{rest_of_line}
use Rattle.weighted.proofs.Walk.{rest}
use Rattle.weighted.proofs.choice.total.Given as goal

abbrev pub invariant-loop-i : goal.invariant-loop-i
invariant-loop-i l = record {
  so_far : l.total + length (rest l.rule l.weights l.healthy l.i)
      ≡ length (rest_of_line l.rule l.weights 0 l.healthy);
  most : l.total ≤ 255 * l.i;
}
