use Rattle.std.proofs.Common.{◌≡◌, ◌<◌, ◌≤◌, ◌-◌, ◌*◌, length, slice_index}
use Rattle.weighted.specs.Line.{rest_of_line}
use Rattle.weighted.proofs.Walk.{rest}
use Rattle.weighted.proofs.choice.place_at.Given as goal

abbrev pub invariant-loop-i : goal.invariant-loop-i
invariant-loop-i l = record {
  most : l.end ≤ 255 * l.i;
  low : l.place ≤ l.i;
  before : l.end ≤ l.fn.point → l.place ≡ l.i;
  within : l.end ≤ l.fn.point
      → l.fn.point - l.end < length (rest l.rule l.weights l.healthy l.i);
  same : l.end ≤ l.fn.point
      → slice_index (rest l.rule l.weights l.healthy l.i) (l.fn.point - l.end)
      ≡ slice_index (rest_of_line l.rule l.weights 0 l.healthy) l.fn.point;
  passed : l.fn.point < l.end
      → l.place ≡ slice_index (rest_of_line l.rule l.weights 0 l.healthy) l.fn.point;
}
