-- Room in which the valves of a configuration are planned, without memory.
use Rattle.std.specs.Prelude.{◌≡◌, ◌≤◌, ◌<◌, ◌+◌, ◌*◌, ◌^◌, ℕ, suc, List, [], ◌∷◌, length, Contains}
use Rattle.std.specs.Vec.{vec_capacity}
use Rattle.std.specs.declared.vec.Vec.{Vec}
use Rattle.check_model.specs.Checks.{children_of}
use Rattle.check_model.specs.declared.checks.Check.{Check}
use Rattle.health_valves.specs.Blueprint.{Drawn, feeders_in}
use Rattle.health_valves.specs.Walk.{EachOnce}
use Rattle.health_valves.specs.declared.blueprint.Feeding.{Feeding}
use Rattle.health_planning.specs.Building.{AreBelow, AreGrouped}
use Rattle.health_planning.specs.Wired.{group_seat, seat_of}
use Rattle.health_planning.specs.declared.seats.Seat.{Seat}
use Rattle.policy_select.specs.Zones.{Zone}
use Rattle.policy_select.specs.SetRefRecord.{SetRef}

-- how many children there are in all
abbrev pub children_among : List (ℕ × Check) → ℕ
children_among [] = 0
children_among (held ∷ list) = length (children_of held.1) + children_among list

-- all valves and links over so many slots can be planned
pub record HasBlueprintRoom {Z : Type 0} (blueprint : Drawn) (refs known : Vec SetRef Z) (slots : ℕ)
    : Type 0 where
  pub few : slots ≤ 2 ^ 29
  pub refs_room : slots ≤ vec_capacity refs
  pub known_room : slots ≤ vec_capacity known
  pub valves : slots * 2 + 200 ≤ blueprint.room
  pub links : slots * 3 + 51200 ≤ blueprint.links_room

-- each slot whose set has no valve can get one
pub record HasListRoom {Z : Type 0} (blueprint : Drawn) (refs : Vec SetRef Z) (seats : List Seat)
    : Type 0 where
  pub few : length blueprint.triggers + length seats ≤ length refs.items + 2 ^ 31
  pub refs_room : length seats ≤ vec_capacity refs
  pub valves : length seats ≤ blueprint.room + length refs.items

-- no two sets have one valve
abbrev pub HaveValvesApart : List Seat → Type 0
HaveValvesApart seats = (slot other valve : ℕ) → seat_of seats slot ≡ suc valve
    → seat_of seats other ≡ suc valve → slot ≡ other

-- Beside the first links there are those from sets to their groups, one for each such set.
pub record AreJoined (from base : ℕ) (seats : List Seat) (links : List Feeding) : Type 0 where
  pub joined : List ℕ
  pub once : EachOnce joined
  pub below : (x : ℕ) → Contains joined x → x < from
  pub as_many : length links ≡ base + length joined
  pub each : (x : ℕ) → Contains joined x → (slot : ℕ) × ((valve : ℕ)
      × ((group_seat seats slot ≡ suc valve) × Contains (feeders_in links valve) x))

-- Each group that has no valve can get one, and so many links as it has sets with valves.
pub record CanGroup (zones : List Zone) (from base : ℕ) (seats : List Seat) (blueprint : Drawn)
    : Type 0 where
  pub least : from ≤ length blueprint.triggers
  pub sets : AreBelow seats from
  pub apart : HaveValvesApart seats
  pub grouped : AreGrouped zones from seats blueprint.triggers blueprint.links
  pub joined : AreJoined from base seats blueprint.links
  pub valves_room : from + length seats ≤ blueprint.room + length blueprint.triggers
  pub links_room : base + from ≤ blueprint.links_room + length blueprint.links
  pub few : from + length seats ≤ 2 ^ 31
