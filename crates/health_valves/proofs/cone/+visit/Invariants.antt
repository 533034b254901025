use Rattle.std.proofs.Common.{◌≡◌, ◌<◌, ◌⊎◌, ℕ, length}
use Rattle.std.specs.Prelude.{reverse, All}
use Rattle.std.specs.Vec.{vec_capacity}
use Rattle.std.specs.List.{Contains}
use Rattle.health_valves.specs.Valves.{FedBy}
use Rattle.health_valves.specs.Walk.{IsAbove}
use Rattle.health_valves.specs.Listed.{Fills, IsListed}
use Rattle.health_valves.proofs.cone.+visit.Given as goal

abbrev pub decreases-visit : goal.decreases-visit
decreases-visit l = l.depth

abbrev pub invariant-loop-next : goal.invariant-loop-next
invariant-loop-next l = record {
  fills : Fills l.cone l.marks;
  size : length l.marks.items ≡ length l.fn.marks.items;
  room : vec_capacity l.cone ≡ vec_capacity l.fn.cone;
  marks_room : vec_capacity l.marks ≡ vec_capacity l.fn.marks;
  listed : IsListed (FedBy l.feeds) (reverse l.cone.items) l.marks.items;
  within : All (λ y. y < length l.feeds.fed) l.next-iterator;
  fed : (y : ℕ) → Contains l.next-iterator y → FedBy l.feeds l.valve y;
  valves : (y : ℕ) → FedBy l.feeds l.valve y → Contains (reverse l.cone.items) y ⊎ Contains l.next-iterator y;
  goes_on : (y : ℕ) → Contains (reverse l.fn.cone.items) y → Contains (reverse l.cone.items) y;
  only : (y : ℕ) → Contains (reverse l.cone.items) y → Contains (reverse l.fn.cone.items) y ⊎ IsAbove (FedBy l.feeds) l.valve y;
}
