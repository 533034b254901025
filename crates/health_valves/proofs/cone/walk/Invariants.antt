use Rattle.std.proofs.Common.{◌≡◌, ◌<◌, ◌⊎◌, ℕ, length, get_or}
use Rattle.std.specs.Prelude.{reverse}
use Rattle.std.specs.Vec.{vec_capacity}
use Rattle.std.specs.List.{Contains}
use Rattle.health_valves.specs.Valves.{FedBy}
use Rattle.health_valves.specs.Walk.{InCone}
use Rattle.health_valves.specs.Listed.{Fills, IsListed}
use Rattle.health_valves.proofs.cone.walk.Given as goal

abbrev pub invariant-loop-valve : goal.invariant-loop-valve
invariant-loop-valve l = record {
  fills : Fills l.cone l.marks;
  size : length l.marks.items ≡ length l.fn.marks.items;
  room : vec_capacity l.cone ≡ vec_capacity l.fn.cone;
  marks_room : vec_capacity l.marks ≡ vec_capacity l.fn.marks;
  listed : IsListed (FedBy l.feeds) (reverse l.cone.items) l.marks.items;
  valves : (j : ℕ) → j < l.valve-index → Contains (reverse l.cone.items) (get_or l.valves j 0);
  goes_on : (y : ℕ) → Contains (reverse l.fn.cone.items) y → Contains (reverse l.cone.items) y;
  only : (y : ℕ) → Contains (reverse l.cone.items) y → Contains (reverse l.fn.cone.items) y ⊎ InCone (FedBy l.feeds) l.valves y;
}
