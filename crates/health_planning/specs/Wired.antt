-- Which valves stand for the checks, the sets and the groups of a configuration.
use Rattle.std.specs.Prelude.{◌≡◌, ◌≤◌, ◌<◌, ◌+◌, ℕ, zero, suc, Bool, true, false, ◌||◌, if◌then◌else◌, nat_eq, nat_le, List, [], ◌∷◌, ◌++◌, length, map, Option, None, Some, is_some, slice_get, slice_index, slice_index_or, ◌⊎◌}
use Rattle.std.specs.Option.{option_to_list}
use Rattle.check_model.specs.Checks.{Checks, children_of}
use Rattle.check_model.specs.declared.checks.Check.{Check}
use Rattle.check_model.specs.declared.checks.Check.TheVariants.{Endpoint, Calculated}
use Rattle.health_valves.specs.Valves.{Net, Condition, unfed_condition}
use Rattle.health_model.specs.Healthy.{Watched}
use Rattle.health_model.specs.Nodes.{CheckNode, GroupNode, Node, SetNode}
use Rattle.health_model.specs.Statuses.{Report, passing}
use Rattle.rdata_layout.specs.declared.types.RType.{RType}
use Rattle.record_set.specs.declared.sets.Body.{Body}
use Rattle.record_set.specs.declared.sets.Body.TheVariants as body
use Rattle.record_set.specs.declared.sets.RecordSet.{RecordSet}
use Rattle.policy_select.specs.Telling.{evaluates}
use Rattle.policy_select.specs.Zones.{Zone, placed_in}
use Rattle.zone_model.specs.Slotted.{IsHere, Slotted, sets_of}
use Rattle.zone_model.specs.Zones.{group}
use Rattle.health_planning.specs.declared.seats.Seat.{Seat}

-- what has health
abbrev pub watched_zone : Zone → ℕ × List RecordSet
watched_zone zone = (zone.id, sets_of zone.placed)

abbrev pub watched_of : List Zone → Checks → Watched
watched_of zones checks = record { zones = map watched_zone zones; checks = checks.list }

-- something decides the health of the set
abbrev pub is_watched : RecordSet → Bool
is_watched set = is_some set.check || evaluates set.body

-- ---- valves of checks

abbrev pub ids_of : List (ℕ × Check) → List ℕ
ids_of list = map (λ (held : ℕ × Check). held.0) list

-- the place of a check among the checks
abbrev pub place_of : List ℕ → (id : ℕ) → ℕ
place_of [] id = 0
place_of (other ∷ ids) id = if nat_eq id other then 0 else suc (place_of ids id)

-- the place of a number, where it stands
abbrev pub IsPlace : List ℕ → (id : ℕ) → Option ℕ → Type 0
IsPlace ids id None = (place : ℕ) → slice_get ids place ≡ Some id → ⊥
IsPlace ids id (Some place) = (slice_get ids place ≡ Some id) × (place_of ids id ≡ place)

-- a place where a number stands, and none where it stands nowhere
abbrev pub StandsAt : List ℕ → (id : ℕ) → Option ℕ → Type 0
StandsAt ids id None = (place : ℕ) → slice_get ids place ≡ Some id → ⊥
StandsAt ids id (Some place) = slice_get ids place ≡ Some id

-- no number stands at two places
abbrev pub StandApart : List ℕ → Type 0
StandApart ids = (k n id : ℕ) → slice_get ids k ≡ Some id → slice_get ids n ≡ Some id → k ≡ n

-- Each of so many checks has a valve of its own, one of the first 200. It is told by the number at
-- the place of the check.
pub record HaveValves (many : ℕ) (numbers : List ℕ) : Type 0 where
  pub as_many : length numbers ≡ many
  pub apart : StandApart numbers
  pub early : (place valve : ℕ) → slice_get numbers place ≡ Some valve → valve < 200

-- the valve of the check with this number
abbrev pub valve_with : (ids numbers : List ℕ) → (id : ℕ) → ℕ
valve_with ids numbers id = slice_index numbers (place_of ids id)

-- it is this one, and a check has the number; or none has
abbrev pub IsValveWith : (ids numbers : List ℕ) → (id : ℕ) → Option ℕ → Type 0
IsValveWith ids numbers id None = (place : ℕ) → slice_get ids place ≡ Some id → ⊥
IsValveWith ids numbers id (Some valve) =
    ((place : ℕ) × (slice_get ids place ≡ Some id)) × (valve ≡ valve_with ids numbers id)

-- Ten of the fifty checkers open the valve of an endpoint, so many of its children that of a
-- calculated check, and nothing is needed where it is disabled.
abbrev pub check_need : Check → ℕ
check_need (Endpoint threshold inverted disabled) = if disabled then 0 else 10
check_need (Calculated threshold inverted disabled children) = if disabled then 0 else threshold

abbrev pub is_inverted : Check → Bool
is_inverted (Endpoint threshold inverted disabled) = inverted
is_inverted (Calculated threshold inverted disabled children) = inverted

abbrev pub check_condition : (ids numbers : List ℕ) → Check → Condition
check_condition ids numbers check = record {
  need = check_need check;
  inverted = is_inverted check;
  feeders = map (valve_with ids numbers) (children_of check);
}

-- the passing checkers are counted from outside
abbrev pub check_own : Check → (passing : ℕ → ℕ) → ℕ
check_own (Endpoint threshold inverted disabled) passing = passing threshold
check_own (Calculated threshold inverted disabled children) passing = 0

-- the valve is that of a check
pub record IsCheckValve (ids numbers : List ℕ) (net : Net) (own : ℕ → ℕ) (reports : List Report)
    (valve id : ℕ) (check : Check) : Type 0 where
  pub within : valve < net.size
  pub condition : net.condition valve ≡ check_condition ids numbers check
  pub its_own : own valve ≡ check_own check (passing reports id)

-- ---- valves of sets and groups

-- What the seat in a slot tells of the valve by which its set is healthy: one more than that, and 0 where
-- there is none. It is a valve of the set's own, or that of the check that alone decides the set.
abbrev pub set_seat : List Seat → (slot : ℕ) → ℕ
set_seat seats slot = (slice_index_or seats slot (record { set = 0; group = 0; check = 0 })).set

-- one that is a set's own stands behind the first 200, which are those of checks
abbrev pub own_part : (seat : ℕ) → ℕ
own_part seat = if nat_le seat 200 then 0 else seat

-- the valve of its own that the set in a slot has, plus one, and 0 where it has none
abbrev pub seat_of : List Seat → (slot : ℕ) → ℕ
seat_of seats slot = own_part (set_seat seats slot)

-- the number of the check that alone decides a set; 0 where there is none such
abbrev pub check_or_none : Option ℕ → ℕ
check_or_none None = 0
check_or_none (Some id) = id

abbrev pub only_check : RecordSet → ℕ
only_check set = if evaluates set.body then 0 else check_or_none set.check

-- a check alone decides the set
abbrev pub IsAlone : RecordSet → (id : ℕ) → Type 0
IsAlone set id = (evaluates set.body ≡ false) × (set.check ≡ Some id)

-- what the seat in a slot says of that number
abbrev pub check_seat : List Seat → (slot : ℕ) → ℕ
check_seat seats slot =
    (slice_index_or seats slot (record { set = 0; group = 0; check = 0 })).check

-- a set without a valve is healthy
abbrev pub open_in : (v : ℕ → Bool) → (seat : ℕ) → Bool
open_in v zero = true
open_in v (suc valve) = v valve

-- These are the sets of a group of a zone, each with its slot.
pub record AreMembers (zones : List Zone) (zone : ℕ) (name : List (List ℕ)) (rtype : RType)
    (members : List Slotted) : Type 0 where
  pub sets : sets_of members ≡ group (sets_of (placed_in zones zone)) name rtype
  pub here : (p : Slotted) → IsHere members p → IsHere (placed_in zones zone) p

-- The group is the target group of an alias of the zone with Evaluate Target Health.
abbrev pub IsLedTo : List Zone → (zone : ℕ) → (name : List (List ℕ)) → RType → Type 0
IsLedTo zones zone name rtype = (p : Slotted) × (IsHere (placed_in zones zone) p
    × ((p.set.body ≡ body.Alias name true) × (p.set.rtype ≡ rtype)))

-- the valves of those of some sets that have one, and how many have none
abbrev pub with_valve : (seat : ℕ) → List ℕ → List ℕ
with_valve zero valves = valves
with_valve (suc valve) valves = valve ∷ valves

abbrev pub valves_of : List Seat → List Slotted → List ℕ
valves_of seats [] = []
valves_of seats (p ∷ placed) = with_valve (seat_of seats p.slot) (valves_of seats placed)

abbrev pub plain : (seat : ℕ) → ℕ
plain zero = 1
plain (suc valve) = 0

abbrev pub plain_among : List Seat → List Slotted → ℕ
plain_among seats [] = 0
plain_among seats (p ∷ placed) = plain (seat_of seats p.slot) + plain_among seats placed

-- the valve of the group of the set in a slot, plus one, and 0 where that has none
abbrev pub group_seat : List Seat → (slot : ℕ) → ℕ
group_seat seats slot = (slice_index_or seats slot (record { set = 0; group = 0; check = 0 })).group

-- the first of some sets stands in the slot
abbrev pub IsFirstIn : List Slotted → (slot : ℕ) → Type 0
IsFirstIn members slot = (p : Slotted) × (slice_get members 0 ≡ Some p) × (p.slot ≡ slot)

-- one of some sets stands in the slot
abbrev pub HasSlot : List Slotted → (slot : ℕ) → Type 0
HasSlot members slot = (p : Slotted) × IsHere members p × (p.slot ≡ slot)

-- the seat of each of some sets tells the valve of their group
abbrev pub TellGroup : List Seat → List Slotted → (valve : ℕ) → Type 0
TellGroup seats members valve =
    (p : Slotted) → IsHere members p → group_seat seats p.slot ≡ suc valve

-- the seat of its first set tells the valve of a group
abbrev pub IsGroupSeat : List Seat → List Slotted → (valve : ℕ) → Type 0
IsGroupSeat seats members valve =
    (slot : ℕ) × (IsFirstIn members slot × (group_seat seats slot ≡ suc valve))

-- One healthy member opens the valve of a group. Members without a valve are counted from outside.
-- The valves of checks stand before all others, those of 200 checks, which is the most.
pub record IsGroupValve (seats : List Seat) (net : Net) (own : ℕ → ℕ) (members : List Slotted)
    (valve : ℕ) : Type 0 where
  pub seat : IsGroupSeat seats members valve
  pub each : TellGroup seats members valve
  pub behind : 200 ≤ valve
  pub within : valve < net.size
  pub condition : net.condition valve
      ≡ record { need = 1; inverted = false; feeders = valves_of seats members }
  pub its_own : own valve ≡ plain_among seats members

-- the valve of the target group, where that is evaluated
abbrev pub IsTarget : List Zone → List Seat → Net → (ℕ → ℕ) → (zone : ℕ) → RType → Body
    → (target : List ℕ) → Type 0
IsTarget zones seats net own zone rtype (body.Values ttl values) target = target ≡ []
IsTarget zones seats net own zone rtype (body.Alias name evaluate) target =
    ((evaluate ≡ false) × (target ≡ []))
    ⊎ ((evaluate ≡ true) × ((valve : ℕ) × (target ≡ valve ∷ [])
    × ((members : List Slotted) × AreMembers zones zone name rtype members
    × IsGroupValve seats net own members valve)))

-- all that feed the valve of a set have to be open
abbrev pub set_condition : (feeders : List ℕ) → Condition
set_condition feeders = record { need = length feeders; inverted = false; feeders = feeders }

pub record IsSetValve (zones : List Zone) (ids numbers : List ℕ) (seats : List Seat) (net : Net)
    (own : ℕ → ℕ) (zone : ℕ) (set : RecordSet) (valve : ℕ) : Type 0 where
  pub behind : 200 ≤ valve
  pub within : valve < net.size
  pub target : List ℕ
  pub its_target : IsTarget zones seats net own zone set.rtype set.body target
  pub condition : net.condition valve
      ≡ set_condition (map (valve_with ids numbers) (option_to_list set.check) ++ target)
  pub its_own : own valve ≡ 0

-- A set that something decides has a valve of its own, or its seat tells that of the check that alone
-- decides it; the seat also tells which check alone does.
pub record IsSeated (zones : List Zone) (ids numbers : List ℕ) (seats : List Seat) (net : Net)
    (own : ℕ → ℕ) (zone : ℕ) (p : Slotted) : Type 0 where
  pub plain : is_watched p.set ≡ false → set_seat seats p.slot ≡ 0
  pub told : is_watched p.set ≡ true → check_seat seats p.slot ≡ only_check p.set
  pub valved : is_watched p.set ≡ true
      → ((id : ℕ) × (IsAlone p.set id × (set_seat seats p.slot ≡ suc (valve_with ids numbers id))))
      ⊎ ((valve : ℕ) × (seat_of seats p.slot ≡ suc valve)
      × IsSetValve zones ids numbers seats net own zone p.set valve)

-- ---- all valves

-- the valve of a node
abbrev pub IsValveFor : List Zone → List (ℕ × Check) → (numbers : List ℕ) → List Seat → Net
    → (own : ℕ → ℕ) → (valve : ℕ) → Node → Type 0
IsValveFor zones checks numbers seats net own valve (CheckNode id) =
    (place : ℕ) × ((check : Check) × ((slice_get checks place ≡ Some (id, check))
    × (slice_get numbers place ≡ Some valve)))
IsValveFor zones checks numbers seats net own valve (SetNode zone set) =
    (slot : ℕ) × (IsHere (placed_in zones zone) (record { slot = slot; set = set })
    × (seat_of seats slot ≡ suc valve))
IsValveFor zones checks numbers seats net own valve (GroupNode zone name rtype) =
    (members : List Slotted) × (AreMembers zones zone name rtype members
    × IsGroupValve seats net own members valve)

-- The valve is spare: one of the first 200 that is of no check. Nothing has to be counted at it, and
-- nothing feeds it.
abbrev pub IsSpare : (numbers : List ℕ) → (valve : ℕ) → Type 0
IsSpare numbers valve = (valve < 200) × ((place : ℕ) → slice_get numbers place ≡ Some valve → ⊥)

abbrev pub spare_condition : Condition
spare_condition = record { need = 0; inverted = false; feeders = [] }

-- The valve is vacant: it stands behind those of 200 checks, and is of no set and no group any more. Nothing
-- feeds it, and nothing has to be open for it.
abbrev pub IsVacant : Net → (valve : ℕ) → Type 0
IsVacant net valve = (200 ≤ valve) × (net.condition valve ≡ unfed_condition)

-- The valves are those of the configuration, spare ones for more checks and vacant ones, and there are no
-- others. The sets of a group with a valve have valves of their own, where something decides them.
pub record AreValvesOf (zones : List Zone) (checks : List (ℕ × Check)) (numbers : List ℕ)
    (seats : List Seat) (net : Net) (own : ℕ → ℕ) (reports : List Report) : Type 0 where
  pub its_checks : (place valve id : ℕ) (check : Check) → slice_get checks place ≡ Some (id, check)
      → slice_get numbers place ≡ Some valve
      → IsCheckValve (ids_of checks) numbers net own reports valve id check
  pub its_sets : (zone : ℕ) (p : Slotted) → IsHere (placed_in zones zone) p
      → IsSeated zones (ids_of checks) numbers seats net own zone p
  pub its_nodes : (valve : ℕ) → valve < net.size → IsSpare numbers valve ⊎ (IsVacant net valve
      ⊎ ((node : Node) × IsValveFor zones checks numbers seats net own valve node))
  pub spares : (valve : ℕ) → IsSpare numbers valve → net.condition valve ≡ spare_condition
  pub many : 200 ≤ net.size
  pub its_groups : (slot valve : ℕ) → group_seat seats slot ≡ suc valve → valve < net.size
  pub its_members : (slot valve : ℕ) → group_seat seats slot ≡ suc valve
      → set_seat seats slot ≡ seat_of seats slot
