use Rattle.std.proofs.Common.{◌≡◌}
use Rattle.std.specs.Prelude.{take, vec_capacity, vec_len}
use Rattle.health_planning.specs.Wired.{ids_of}
use Rattle.health_planning.proofs.building.list_ids.Given as goal

abbrev pub invariant-loop-held : goal.invariant-loop-held
invariant-loop-held l = record {
  ids : l.ids.items ≡ ids_of (take l.held-index l.list);
  len : vec_len l.ids ≡ l.held-index;
  room : vec_capacity l.ids ≡ vec_capacity l.fn.ids;
}
