use Rattle.std.proofs.Common.{◌≡◌, ◌<◌, ℕ, length}
use Rattle.std.specs.Prelude.{reverse}
use Rattle.std.specs.Vec.{vec_capacity}
use Rattle.std.specs.List.{Contains}
use Rattle.health_valves.specs.Valves.{FedBy}
use Rattle.health_valves.specs.Listed.{Fills, IsListed}
use Rattle.health_valves.proofs.cone.list_all.Given as goal

abbrev pub invariant-loop-valve : goal.invariant-loop-valve
invariant-loop-valve l = record {
  fills : Fills l.cone l.marks;
  size : length l.marks.items ≡ length l.fn.marks.items;
  room : vec_capacity l.cone ≡ vec_capacity l.fn.cone;
  marks_room : vec_capacity l.marks ≡ vec_capacity l.fn.marks;
  listed : IsListed (FedBy l.feeds) (reverse l.cone.items) l.marks.items;
  all : (y : ℕ) → y < l.valve → Contains (reverse l.cone.items) y;
}
