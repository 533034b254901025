-- Commands by which the first evaluated alias comes that leads to a group, of whose sets each has a valve of its own or
-- nothing decides it, while the alias's own group has no valve: there are two valves more, one for that group, fed by
-- those of its sets, at which the others are counted, and behind it the alias's own, fed by that and by the valve of the
-- check that it names.
use Rattle.std.specs.Prelude.{◌≡◌, ◌≢◌, ◌≤◌, ◌<◌, ◌+◌, ◌++◌, ℕ, suc, true, false, List, [], ◌∷◌, map, All, length, Some}
use Rattle.std.specs.Option.{option_to_list}
use Rattle.health_standing.specs.Index.{Index}
use Rattle.health_standing.specs.Leading.{HasItsCheck}
use Rattle.health_standing.specs.Leaving.{HasNoValve}
use Rattle.health_planning.specs.Building.{TellsAll, TellsOn}
use Rattle.health_planning.specs.Changes.{ref_in}
use Rattle.health_planning.specs.Looking.{RefersTo}
use Rattle.health_planning.specs.SetRefRecord.{SetRef}
use Rattle.health_planning.specs.Telling.{evaluates, target_of}
use Rattle.health_planning.specs.Wired.{AreMembers, HasSlot, check_seat, group_seat, is_watched, plain_among, seat_of, set_seat, valve_with, valves_of}
use Rattle.health_planning.specs.Zones.{Zone}
use Rattle.health_planning.specs.declared.seats.Seat.{Seat}
use Rattle.health_valves.specs.Laying.{HasRoomFor}
use Rattle.health_valves.specs.Valves.{Condition, Net, ValvesStandFor, fed_condition, size_of, with_one_more, with_own}
use Rattle.health_valves.specs.declared.valves.Valves.{Valves}
use Rattle.rdata_layout.specs.declared.types.RType.{RType}
use Rattle.record_set.specs.declared.sets.RecordSet.{RecordSet}
use Rattle.zone_model.specs.Slotted.{IsHere, Slotted}

-- ---- which commands

-- Nothing decides the set, and the seat in its slot tells nothing.
abbrev pub IsPlainSet : List Seat → (slot : ℕ) → RecordSet → Type 0
IsPlainSet seats slot set =
    (is_watched set ≡ false) × ((set_seat seats slot ≡ 0) × (group_seat seats slot ≡ 0))

abbrev pub ArePlainSets : List Seat → List Slotted → Type 0
ArePlainSets seats members = (p : Slotted) → IsHere members p → IsPlainSet seats p.slot p.set

-- The target group of an alias has these sets, one at least, and all of them are so.
pub record HasPlainTarget (zones : List Zone) (seats : List Seat) (zone : ℕ) (set : RecordSet)
    (members : List Slotted) : Type 0 where
  pub name : List (List ℕ)
  pub rtype : RType
  pub target : target_of set ≡ Some (name, rtype)
  pub are : AreMembers zones zone name rtype members
  pub some : 1 ≤ length members
  pub bare : ArePlainSets seats members

-- The seat in a slot tells no valve but one of its set's own, and none for its group.
abbrev pub IsOwnSeat : List Seat → (slot : ℕ) → Type 0
IsOwnSeat seats slot = (set_seat seats slot ≡ seat_of seats slot) × (group_seat seats slot ≡ 0)

-- It is so in another slot than this.
abbrev pub IsOwnBeside : List Seat → (slot other : ℕ) → Type 0
IsOwnBeside seats slot other = (other ≢ slot) × IsOwnSeat seats other

abbrev pub AreOwnBeside : List Seat → (slot : ℕ) → List Slotted → Type 0
AreOwnBeside seats slot members = (p : Slotted) → IsHere members p → IsOwnBeside seats slot p.slot

-- The target group of an alias has these sets, one at least, the alias is none of them, and the seats of all are so.
pub record HasOwnTarget (zones : List Zone) (seats : List Seat) (ref : SetRef) (set : RecordSet)
    (members : List Slotted) : Type 0 where
  pub name : List (List ℕ)
  pub rtype : RType
  pub target : target_of set ≡ Some (name, rtype)
  pub are : AreMembers zones ref.zone name rtype members
  pub some : 1 ≤ length members
  pub own : AreOwnBeside seats ref.slot members

-- the valve of the check that a set names, if it names one
abbrev pub its_valves : (ids numbers : List ℕ) → RecordSet → List ℕ
its_valves ids numbers set = map (valve_with ids numbers) (option_to_list set.check)

-- An evaluated alias came, of a group without a valve, into a slot whose seat tells nothing. Nothing decides any of
-- the sets of its target group, and none of their seats tells anything. The check that it names has a valve. The
-- valves of 200 checks are there.
pub record ComesFirst (zones : List Zone) (ids numbers : List ℕ) (seats : List Seat) (valves : Valves)
    (ref : SetRef) (members : List Slotted) (feeders : List ℕ) : Type 0 where
  pub set : RecordSet
  pub names : RefersTo zones ref set
  pub on : evaluates set.body ≡ true
  pub bare : set_seat seats ref.slot ≡ 0
  pub none : group_seat seats ref.slot ≡ 0
  pub alone : HasNoValve zones seats ref.zone set.name set.rtype
  pub its_check : HasItsCheck ids set.check
  pub its_target : HasPlainTarget zones seats ref.zone set members
  pub are : feeders ≡ its_valves ids numbers set
  pub within : All (λ x. x < size_of valves) feeders
  pub many : 200 ≤ size_of valves

-- The same, where each set of the target group has a valve of its own, or none at all: no seat of them tells that of a
-- check.
pub record ComesFirstOwned (zones : List Zone) (ids numbers : List ℕ) (seats : List Seat) (valves : Valves)
    (ref : SetRef) (members : List Slotted) (feeders : List ℕ) : Type 0 where
  pub set : RecordSet
  pub names : RefersTo zones ref set
  pub on : evaluates set.body ≡ true
  pub bare : set_seat seats ref.slot ≡ 0
  pub none : group_seat seats ref.slot ≡ 0
  pub alone : HasNoValve zones seats ref.zone set.name set.rtype
  pub its_check : HasItsCheck ids set.check
  pub its_target : HasOwnTarget zones seats ref set members
  pub are : feeders ≡ its_valves ids numbers set
  pub within : All (λ x. x < size_of valves) feeders
  pub many : 200 ≤ size_of valves

-- ---- what changes

-- One of these that feed a valve has to be open, or one be counted at it.
abbrev pub group_condition : (fed : List ℕ) → Condition
group_condition fed = record { need = 1; inverted = false; feeders = fed }

-- There are two valves more, behind the others: one of which one has to be open that feeds it, or one be counted at it,
-- and one that others and that feed.
abbrev pub with_group : (fed feeders : List ℕ) → Net → Net
with_group fed feeders net =
    with_one_more (fed_condition (feeders ++ net.size ∷ [])) (with_one_more (group_condition fed) net)

-- the same where nothing feeds the first one
abbrev pub with_two_more : (feeders : List ℕ) → Net → Net
with_two_more feeders net = with_group [] feeders net

-- so many are counted from outside at the first of two valves more, and none at the second
abbrev pub with_two_counts : (sets size : ℕ) → (ℕ → ℕ) → ℕ → ℕ
with_two_counts sets size own = with_own (size + 1) 0 (with_own size sets own)

-- two valves more have room, with so many links and two
pub record HasRoomForTwo (valves : Valves) (fed : ℕ) : Type 0 where
  pub all : HasRoomFor valves (size_of valves + 2) (fed + 2)
  pub links : fed + 2 ≤ valves.feeds.room

-- The seat of each of some sets tells the valve of their group, which is given as one more. What seats tell of sets is as
-- it was, and so is what others tell.
pub record AreGroupedAt (members : List Slotted) (told : ℕ) (before after : List Seat) : Type 0 where
  pub sets : (slot : ℕ) → TellsOn before after slot
  pub group : (p : Slotted) → IsHere members p → group_seat after p.slot ≡ told
  pub others : (slot : ℕ) → (HasSlot members slot → ⊥) → group_seat after slot ≡ group_seat before slot

-- So it is of a group; and the seat in another slot tells the valve behind that one, of a set's own, and neither a
-- check nor the valve of a group.
pub record AreSeatedOwned (slot : ℕ) (members : List Slotted) (told : ℕ) (before after : List Seat) : Type 0 where
  pub own : set_seat after slot ≡ suc told
  pub check : check_seat after slot ≡ 0
  pub none : group_seat after slot ≡ 0
  pub sets : (other : ℕ) → other ≢ slot → TellsOn before after other
  pub group : (p : Slotted) → IsHere members p → p.slot ≢ slot → group_seat after p.slot ≡ told
  pub others : (other : ℕ) → other ≢ slot → (HasSlot members other → ⊥)
      → group_seat after other ≡ group_seat before other

-- The same, where the seats of the group's sets tell nothing else.
pub record AreSeatedFirst (slot : ℕ) (members : List Slotted) (told : ℕ) (before after : List Seat) : Type 0 where
  pub own : set_seat after slot ≡ suc told
  pub check : check_seat after slot ≡ 0
  pub none : group_seat after slot ≡ 0
  pub set : (p : Slotted) → IsHere members p → p.slot ≢ slot → set_seat after p.slot ≡ 0
  pub group : (p : Slotted) → IsHere members p → p.slot ≢ slot → group_seat after p.slot ≡ told
  pub others : (other : ℕ) → other ≢ slot → (HasSlot members other → ⊥) → TellsAll before after other

-- the references of some sets of a zone
abbrev pub refs_of : (zone : ℕ) → List Slotted → List SetRef
refs_of zone members = map (ref_in zone) members

-- There are two valves more, behind all: the first one counts the sets of a group from outside, one of which has to be
-- healthy, and the second one is open where that and these are. Seats tell them, the alias is listed, and the sets of
-- the group are noted. Nothing else changes.
pub record Founds (ref : SetRef) (members : List Slotted) (feeders : List ℕ) (before after : Index) : Type 0 where
  pub rest : after ≡ record before {
    seats = after.seats;
    refs = before.refs ++ ref ∷ [];
    members = before.members ++ refs_of ref.zone members;
    valves = after.valves;
  }
  pub seated : AreSeatedFirst ref.slot members (suc (size_of before.valves)) before.seats after.seats
  pub fed : (net : Net) (own : ℕ → ℕ) → ValvesStandFor net own before.valves
      → ValvesStandFor (with_two_more feeders net) (with_two_counts (length members) net.size own) after.valves

-- There are two valves more, behind all: the first one is that of a group, fed by the valves of its sets, and counts those
-- that have none, and the second one is open where that and these are. Seats tell them, the alias is listed, and the
-- sets of the group are noted. Nothing else changes.
pub record FoundsOwned (ref : SetRef) (members : List Slotted) (feeders : List ℕ) (before after : Index) : Type 0 where
  pub rest : after ≡ record before {
    seats = after.seats;
    refs = before.refs ++ ref ∷ [];
    members = before.members ++ refs_of ref.zone members;
    valves = after.valves;
  }
  pub seated : AreSeatedOwned ref.slot members (suc (size_of before.valves)) before.seats after.seats
  pub fed : (net : Net) (own : ℕ → ℕ) → ValvesStandFor net own before.valves
      → ValvesStandFor (with_group (valves_of before.seats members) feeders net)
      (with_two_counts (plain_among before.seats members) net.size own) after.valves
