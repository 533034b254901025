-- When an index stands for a configuration and reports.
use Rattle.std.specs.Prelude.{◌≡◌, ◌≢◌, ◌≤◌, ◌<◌, ◌+◌, ◌-◌, ◌⊎◌, ℕ, suc, Bool, true, if◌then◌else◌, nat_lt, List, [], length, Option, None, Some, slice_get, ⊤}
use Rattle.check_model.specs.Checks.{Checks, check_with}
use Rattle.check_model.specs.Checks.{IsSound as AreSoundChecks}
use Rattle.check_model.specs.declared.checks.Check.{Check}
use Rattle.check_model.specs.declared.checks.Check.TheVariants.{Endpoint, Calculated}
use Rattle.checker_state.specs.Standing.{Seen}
use Rattle.health_valves.specs.Valves.{HasEnds, ValvesStandFor, Net, size_of, value_of}
use Rattle.health_valves.specs.Pass.{IsIdle, MeetAll}
use Rattle.health_valves.specs.declared.valves.Valves.{Valves}
use Rattle.health_model.specs.Healthy.{group_value, healthy, sets_of}
use Rattle.health_model.specs.Nodes.{CheckNode, GroupNode, Node, SetNode}
use Rattle.health_model.specs.Sound.{IsSound}
use Rattle.health_model.specs.Statuses.{AreReports, Report, status}
use Rattle.rdata_layout.specs.declared.types.RType.{RType}
use Rattle.record_set.specs.declared.sets.Body.TheVariants as body
use Rattle.record_set.specs.declared.sets.RecordSet.{RecordSet}
use Rattle.health_planning.specs.Zones.{AreZones, Zone, placed_in}
use Rattle.health_planning.specs.SetRefRecord.{SetRef}
use Rattle.health_planning.specs.Tables.{HaveSlotsApart}
use Rattle.zone_model.specs.Slotted.{IsHere, Slotted}
use Rattle.health_planning.specs.Looking.{RefersTo}
use Rattle.health_planning.specs.Building.{AreGiven, IsListed, IsSeen, HoldsSet}
use Rattle.health_planning.specs.Changes.{ref_in}
use Rattle.health_planning.specs.Wired.{AreMembers, HasSlot, HaveValves, IsGroupSeat, IsLedTo, IsSpare, AreValvesOf, StandApart, TellGroup, group_seat, ids_of, is_watched, open_in, seat_of, set_seat, valve_with, watched_of, IsVacant}
use Rattle.health_planning.specs.declared.seats.Seat.{Seat}
use Rattle.health_standing.specs.Kin.{kin_of}

-- For how many there is room: numbers of checks and what their checkers saw, now and before a
-- command; valves of checks; numbers by which children are kept; slots; sets that are listed, and sets that
-- are noted; valves, and links between them.
pub record Space : Type 0 where
  pub ids : ℕ
  pub numbers : ℕ
  pub seen : ℕ
  pub ids_before : ℕ
  pub seen_before : ℕ
  pub kin : ℕ
  pub seats : ℕ
  pub refs : ℕ
  pub members : ℕ
  pub triggers : ℕ
  pub links : ℕ

-- The numbers of the checks, their valves, what the checkers of each endpoint saw, the children of calculated
-- checks, what decides sets by their slots, the valves, and the room that there is. Listed in `refs` is each set
-- with a valve of its own, and noted in `members` each of a group with a valve; beside these some that had one, or
-- that went from such a group, and some twice.
pub record Index : Type 0 where
  pub ids : List ℕ
  pub numbers : List ℕ
  pub seen : List (Option Seen)
  pub kin : List ℕ
  pub seats : List Seat
  pub refs : List SetRef
  pub members : List SetRef
  pub valves : Valves
  pub space : Space

-- The seats that tell a valve for their groups are those of the sets of one group, to which an evaluated
-- alias leads. The valves of checks stand before it, those of 200 checks.
pub record IsOfOneGroup (zones : List Zone) (seats : List Seat) (valve : ℕ) : Type 0 where
  pub zone : ℕ
  pub name : List (List ℕ)
  pub rtype : RType
  pub members : List Slotted
  pub are : AreMembers zones zone name rtype members
  pub led : IsLedTo zones zone name rtype
  pub behind : 200 ≤ valve
  pub each : TellGroup seats members valve
  pub only : (slot : ℕ) → group_seat seats slot ≡ suc valve → HasSlot members slot

-- Seats tell no valve of their own for two sets, none for a set and a group, or for two groups. One that tells
-- a valve is that of a set.
pub record TellApart (zones : List Zone) (seats : List Seat) : Type 0 where
  pub sets : (slot other valve : ℕ) → seat_of seats slot ≡ suc valve
      → seat_of seats other ≡ suc valve → slot ≡ other
  pub kinds : (slot other valve : ℕ) → seat_of seats slot ≡ suc valve
      → group_seat seats other ≡ suc valve → ⊥
  pub groups : (slot valve : ℕ) → group_seat seats slot ≡ suc valve
      → IsOfOneGroup zones seats valve
  pub here : (slot : ℕ) → set_seat seats slot ≢ 0 → HoldsSet zones slot

-- Each set with a valve of its own is one of those that are listed.
abbrev pub OwnListed : List Zone → List SetRef → List Seat → Type 0
OwnListed zones refs seats = (zone valve : ℕ) (p : Slotted) → IsHere (placed_in zones zone) p
    → seat_of seats p.slot ≡ suc valve → IsListed refs (ref_in zone p)

-- The index is laid out for a sound configuration and reports: its valves are wired for them, and what
-- is counted is of them. Values may have to be worked out still; but a valve that is spare or vacant is open.
pub record IsLaidFor (zones : List Zone) (checks : Checks) (reports : List Report) (index : Index)
    : Type 0 where
  pub are_zones : AreZones zones
  pub slots : HaveSlotsApart zones
  pub are_checks : AreSoundChecks checks
  pub sound : IsSound (watched_of zones checks)
  pub are_reports : AreReports checks.next reports
  pub ids : index.ids ≡ ids_of checks.list
  pub numbers : HaveValves (length checks.list) index.numbers
  pub seen : (place id : ℕ) (check : Check) (its : Option Seen)
      → slice_get checks.list place ≡ Some (id, check) → slice_get index.seen place ≡ Some its
      → IsSeen reports id check its
  pub as_many : length index.seen ≡ length index.ids
  pub kin : index.kin ≡ kin_of checks.list
  pub listed : OwnListed zones index.refs index.seats
  pub net : Net
  pub own : ℕ → ℕ
  pub wired : AreValvesOf zones checks.list index.numbers index.seats net own reports
  pub told : TellApart zones index.seats
  pub fits : ValvesStandFor net own index.valves
  pub ends : HasEnds net
  pub spare : (valve : ℕ) → IsSpare index.numbers valve → value_of index.valves valve ≡ true
  pub vacant : (valve : ℕ) → valve < net.size → IsVacant net valve → value_of index.valves valve ≡ true
  pub idle : IsIdle index.valves

-- The index stands for a sound configuration and reports: it is laid out for them, and all is worked
-- out.
pub record StandsFor (zones : List Zone) (checks : Checks) (reports : List Report) (index : Index)
    : Type 0 where
  pub are_zones : AreZones zones
  pub slots : HaveSlotsApart zones
  pub are_checks : AreSoundChecks checks
  pub sound : IsSound (watched_of zones checks)
  pub are_reports : AreReports checks.next reports
  pub ids : index.ids ≡ ids_of checks.list
  pub numbers : HaveValves (length checks.list) index.numbers
  pub seen : (place id : ℕ) (check : Check) (its : Option Seen)
      → slice_get checks.list place ≡ Some (id, check) → slice_get index.seen place ≡ Some its
      → IsSeen reports id check its
  pub as_many : length index.seen ≡ length index.ids
  pub kin : index.kin ≡ kin_of checks.list
  pub listed : OwnListed zones index.refs index.seats
  pub net : Net
  pub own : ℕ → ℕ
  pub wired : AreValvesOf zones checks.list index.numbers index.seats net own reports
  pub told : TellApart zones index.seats
  pub fits : ValvesStandFor net own index.valves
  pub ends : HasEnds net
  pub meet : MeetAll net own index.valves
  pub idle : IsIdle index.valves

-- Whether the set that a reference names is healthy.
abbrev pub healthy_in : Index → SetRef → Bool
healthy_in index set = open_in (value_of index.valves) (set_seat index.seats set.slot)

-- ---- numbers of nodes

-- the number of a node that has a valve is that of the valve
abbrev pub IsOwnNumber : List Zone → Index → (number : ℕ) → Node → Type 0
IsOwnNumber zones index number (CheckNode id) =
    (place : ℕ) × ((slice_get index.ids place ≡ Some id) × (slice_get index.numbers place ≡ Some number))
IsOwnNumber zones index number (SetNode zone set) =
    (slot : ℕ) × (IsHere (placed_in zones zone) (record { slot = slot; set = set })
    × (seat_of index.seats slot ≡ suc number))
IsOwnNumber zones index number (GroupNode zone name rtype) =
    (members : List Slotted) × (AreMembers zones zone name rtype members
    × IsGroupSeat index.seats members number)

-- the seat in a slot tells the valve of a check, and none of the set's own
abbrev pub TellsOfCheck : List Seat → (slot : ℕ) → Type 0
TellsOfCheck seats slot = (seat_of seats slot ≡ 0) × (set_seat seats slot ≢ 0)

-- That of a set which a check alone decides, and whose seat tells the valve of that check, comes behind
-- those of all valves, by its slot.
abbrev pub IsNumberBehind : List Zone → Index → (number : ℕ) → Node → Type 0
IsNumberBehind zones index number (CheckNode id) = ⊥
IsNumberBehind zones index number (SetNode zone set) =
    (slot : ℕ) × (IsHere (placed_in zones zone) (record { slot = slot; set = set })
    × (TellsOfCheck index.seats slot × (number ≡ size_of index.valves + slot)))
IsNumberBehind zones index number (GroupNode zone name rtype) = ⊥

-- The number of a node. A set that nothing decides has none: its health never waits to be worked out. Nor
-- has a group one to which no evaluated alias leads.
abbrev pub IsNumberOf : List Zone → Index → (number : ℕ) → Node → Type 0
IsNumberOf zones index number node =
    IsOwnNumber zones index number node ⊎ IsNumberBehind zones index number node

abbrev pub HasNumber : List Zone → Index → Node → Type 0
HasNumber zones index node = (number : ℕ) × IsNumberOf zones index number node

-- So many of those that feed a valve have to be open.
abbrev pub Needs : Valves → (valve many : ℕ) → Type 0
Needs valves valve many =
    (net : Net) (own : ℕ → ℕ) → ValvesStandFor net own valves → (net.condition valve).need ≡ many

-- The index has a node of the number: that of a check; behind the first 200 valves that of a set or a group,
-- for which something has to be open, as it hasn't for a vacant one; and behind all valves that of a set which
-- a check alone decides.
abbrev pub HasNode : Index → (number : ℕ) → Type 0
HasNode index number = ((place : ℕ) × (slice_get index.numbers place ≡ Some number))
    ⊎ (((200 ≤ number) × ((number < size_of index.valves) × (Needs index.valves number 0 → ⊥)))
    ⊎ ((size_of index.valves ≤ number)
    × TellsOfCheck index.seats (number - size_of index.valves)))

-- The value of a number: of the valve that has it, and behind all valves that of the check by which a set
-- is healthy.
abbrev pub value_at : Index → (number : ℕ) → Bool
value_at index number = if nat_lt number (size_of index.valves)
    then value_of index.valves number
    else open_in (value_of index.valves) (set_seat index.seats (number - size_of index.valves))

-- Each number that the index has is that of one node alone, and a node has one number at most. Each
-- check has one, each set that something decides and no other set, and each group to which an
-- evaluated alias leads and no other group.
pub record AreNumbered (zones : List Zone) (checks : Checks) (index : Index) : Type 0 where
  pub each : (number : ℕ) → HasNode index number
      → (node : Node) × IsNumberOf zones index number node
  pub only : (number : ℕ) (node : Node) → IsNumberOf zones index number node
      → HasNode index number
  pub one : (number other : ℕ) (node : Node) → IsNumberOf zones index number node
      → IsNumberOf zones index other node → number ≡ other
  pub apart : (number : ℕ) (node other : Node) → IsNumberOf zones index number node
      → IsNumberOf zones index number other → node ≡ other
  pub its_checks : (id : ℕ) (check : Check) → check_with checks.list id ≡ Some check
      → HasNumber zones index (CheckNode id)
  pub its_sets : (zone : ℕ) (p : Slotted) → IsHere (placed_in zones zone) p
      → is_watched p.set ≡ true → HasNumber zones index (SetNode zone p.set)
  pub decided : (number zone : ℕ) (set : RecordSet)
      → IsNumberOf zones index number (SetNode zone set) → is_watched set ≡ true
  pub targets : (zone : ℕ) (p : Slotted) (name : List (List ℕ)) → IsHere (placed_in zones zone) p
      → p.set.body ≡ body.Alias name true
      → HasNumber zones index (GroupNode zone name p.set.rtype)
  pub led : (number zone : ℕ) (name : List (List ℕ)) (rtype : RType)
      → IsNumberOf zones index number (GroupNode zone name rtype)
      → IsLedTo zones zone name rtype

-- ---- what an index tells

-- What an index says of the configuration and the reports for which it stands: the status of each
-- check, of each set whether it is healthy, and of a group with a number whether some set of it is.
pub record Tells (zones : List Zone) (checks : Checks) (reports : List Report) (index : Index)
    : Type 0 where
  pub statuses : (id : ℕ) (check : Check) → check_with checks.list id ≡ Some check
      → value_of index.valves (valve_with index.ids index.numbers id) ≡ status checks.list reports id
  pub sets : (set : SetRef) (named : RecordSet) → RefersTo zones set named
      → healthy_in index set ≡ healthy (watched_of zones checks) reports set.zone named
  pub groups : (number zone : ℕ) (name : List (List ℕ)) (rtype : RType)
      → IsNumberOf zones index number (GroupNode zone name rtype)
      → value_of index.valves number
      ≡ group_value (healthy (watched_of zones checks) reports zone)
      (sets_of (watched_of zones checks) zone) name rtype

-- ---- what holds of every index

-- Valves that stand for some net; those whose checkers are counted have no feeders, nor have spare ones.
-- No number of a check stands at two places, and each check has a valve of its own. Seats tell valves only in
-- the slots of the sets that are kept for it.
pub record IsIntact (index : Index) : Type 0 where
  pub net : Net
  pub own : ℕ → ℕ
  pub fits : ValvesStandFor net own index.valves
  pub idle : IsIdle index.valves
  pub as_many : length index.seen ≡ length index.ids
  pub apart : StandApart index.ids
  pub numbers : HaveValves (length index.ids) index.numbers
  pub within : (place valve : ℕ) → slice_get index.numbers place ≡ Some valve → valve < net.size
  pub seated : (slot valve : ℕ) → set_seat index.seats slot ≡ suc valve → valve < net.size
  pub given : AreGiven index.refs index.members index.seats
  pub alone : (place valve : ℕ) (its : Seen) → slice_get index.seen place ≡ Some (Some its)
      → slice_get index.numbers place ≡ Some valve → (net.condition valve).feeders ≡ []
  pub spare : (valve : ℕ) → IsSpare index.numbers valve → (net.condition valve).feeders ≡ []

-- ---- reports

-- the number of an endpoint's check
abbrev pub IsEndpoint : Option Check → Type 0
IsEndpoint None = ⊥
IsEndpoint (Some (Endpoint threshold inverted disabled)) = ⊤
IsEndpoint (Some (Calculated threshold inverted disabled children)) = ⊥

abbrev pub IsEndpointOf : Checks → (id : ℕ) → Type 0
IsEndpointOf checks id = IsEndpoint (check_with checks.list id)

abbrev pub reported : (id checker : ℕ) → Bool → Report
reported id checker pass = record { check = id; checker = checker; pass = pass }

-- the valve by which the set in a slot is healthy, where there is one
abbrev pub IsValveOf : List Seat → (slot : ℕ) → Option ℕ → Type 0
IsValveOf seats slot None = set_seat seats slot ≡ 0
IsValveOf seats slot (Some valve) = set_seat seats slot ≡ suc valve
