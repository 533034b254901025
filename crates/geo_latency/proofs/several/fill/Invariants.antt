use Rattle.std.proofs.Common.{◌≡◌, ◌≤◌, length, take, true}
use Rattle.geo_latency.proofs.Listed.{with_rest}
use Rattle.geo_latency.specs.Lines.{each_once, latencies_of, parts}
use Rattle.geo_latency.proofs.several.fill.Given as goal

abbrev pub invariant-loop-row : goal.invariant-loop-row
invariant-loop-row l = record {
  told : latencies_of l.fn.text ≡ with_rest (take l.count l.rows) (parts 0x2C l.rest);
  once : each_once (take l.count l.rows) ≡ true;
  few : l.count ≤ 32;
  room : 32 ≤ length l.rows;
}

abbrev pub decreases-loop-row : goal.decreases-loop-row
decreases-loop-row l = length l.rest
