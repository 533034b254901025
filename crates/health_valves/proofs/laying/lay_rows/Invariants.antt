use Rattle.std.proofs.Common.{◌≡◌, map, take}
use Rattle.std.specs.Vec.{vec_capacity}
use Rattle.health_valves.specs.Laying.{row_of}
use Rattle.health_valves.proofs.laying.lay_rows.Given as goal

abbrev pub invariant-loop-trigger : goal.invariant-loop-trigger
invariant-loop-trigger l = record {
  rows : l.rows.items ≡ map row_of (take l.trigger-index l.triggers);
  room : vec_capacity l.rows ≡ vec_capacity l.fn.rows;
}
