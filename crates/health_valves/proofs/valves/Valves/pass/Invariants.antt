use Rattle.std.proofs.Common.{◌≡◌, ◌<◌, ◌+◌, ℕ, length}
use Rattle.std.specs.Prelude.{All}
use Rattle.health_valves.specs.Valves.{HasEnds, Net, ValvesStandFor, size_of}
use Rattle.health_valves.specs.Laying.{HasRoomFor, links_of}
use Rattle.health_valves.specs.Pass.{MeetBehind, HasMarked, IsInOrder, waiting}
use Rattle.health_valves.proofs.valves.Valves.pass.Given as goal

abbrev pub invariant-loop : goal.invariant-loop
invariant-loop g l = record {
  fits : (net : Net) (own : ℕ → ℕ) → ValvesStandFor net own l.fn.self → ValvesStandFor net own l.self;
  mends : (net : Net) (own : ℕ → ℕ) → ValvesStandFor net own l.fn.self → HasEnds net → MeetBehind net own l.fn.self → MeetBehind net own l.self;
  within : All (λ y. y < size_of l.self) (waiting l.self);
  first : IsInOrder l.self;
  marked : HasMarked l.self;
  room : (n m : ℕ) → HasRoomFor l.fn.self n m → HasRoomFor l.self n m;
  size : size_of l.self ≡ size_of l.fn.self;
  links : links_of l.self ≡ links_of l.fn.self;
  cost : l.steps + length l.self.cone.items ≡ l.fn.steps + length l.fn.self.cone.items;
}

abbrev pub decreases-loop : goal.decreases-loop
decreases-loop g l = length l.self.cone.items
