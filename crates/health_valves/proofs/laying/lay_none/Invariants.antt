use Rattle.std.proofs.Common.{◌≡◌, ◌≤◌, replicate, false}
use Rattle.std.specs.Vec.{vec_capacity}
use Rattle.health_valves.proofs.laying.lay_none.Given as goal

abbrev pub invariant-loop-i : goal.invariant-loop-i
invariant-loop-i l = record {
  within : l._i ≤ l.n;
  items : l.flags.items ≡ replicate l._i false;
  room : vec_capacity l.flags ≡ vec_capacity l.fn.flags;
}
