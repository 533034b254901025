-- Commands by which one evaluated alias comes, of a group without a valve, while the group where it leads has one:
-- there is one valve more, fed by that of the group and that of the check that the alias names.
use Rattle.std.specs.Prelude.{◌≡◌, ◌≢◌, ◌≤◌, ◌<◌, ◌++◌, ℕ, zero, suc, true, List, [], ◌∷◌, map, All, Option, None, Some, slice_get, ⊤}
use Rattle.std.specs.Option.{option_to_list}
use Rattle.health_standing.specs.Index.{Index}
use Rattle.health_standing.specs.Leaving.{HasNoValve}
use Rattle.health_standing.specs.declared.alias_coming.AliasFeeders.{AliasFeeders}
use Rattle.health_planning.specs.Building.{TellsAll}
use Rattle.health_planning.specs.Looking.{RefersTo}
use Rattle.health_planning.specs.SetRefRecord.{SetRef}
use Rattle.health_planning.specs.Telling.{evaluates, target_of}
use Rattle.health_planning.specs.Wired.{AreMembers, IsGroupSeat, check_seat, group_seat, set_seat, valve_with}
use Rattle.health_planning.specs.Zones.{Zone}
use Rattle.health_planning.specs.declared.seats.Seat.{Seat}
use Rattle.health_valves.specs.Valves.{Net, ValvesStandFor, fed_condition, size_of, with_one_more, with_own}
use Rattle.health_valves.specs.declared.valves.Valves.{Valves}
use Rattle.rdata_layout.specs.declared.types.RType.{RType}
use Rattle.record_set.specs.declared.sets.RecordSet.{RecordSet}
use Rattle.zone_model.specs.Slotted.{Slotted}

-- ---- which commands

-- The target group of an alias has a valve: the one that the seat of its first set tells.
pub record HasTargetSeat (zones : List Zone) (seats : List Seat) (zone : ℕ) (set : RecordSet) (group : ℕ)
    : Type 0 where
  pub name : List (List ℕ)
  pub rtype : RType
  pub target : target_of set ≡ Some (name, rtype)
  pub members : List Slotted
  pub are : AreMembers zones zone name rtype members
  pub seat : IsGroupSeat seats members group

-- that valve, given as one more; 0 where it has none
abbrev pub IsTargetSeat : List Zone → List Seat → (zone : ℕ) → RecordSet → (told : ℕ) → Type 0
IsTargetSeat zones seats zone set zero = (group : ℕ) → HasTargetSeat zones seats zone set group → ⊥
IsTargetSeat zones seats zone set (suc group) = HasTargetSeat zones seats zone set group

-- The check that is named has one of these numbers, or none is named.
abbrev pub HasItsCheck : (ids : List ℕ) → Option ℕ → Type 0
HasItsCheck ids None = ⊤
HasItsCheck ids (Some id) = (place : ℕ) × (slice_get ids place ≡ Some id)

-- the valves of the check that is named, if one is, and of a group
abbrev pub feeders_with : (ids numbers : List ℕ) → Option ℕ → (group : ℕ) → List ℕ
feeders_with ids numbers check group = map (valve_with ids numbers) (option_to_list check) ++ group ∷ []

-- An evaluated alias came, of a group without a valve, into a slot whose seat tells nothing. The valves of 200
-- checks are there.
pub record ComesAlone (zones : List Zone) (seats : List Seat) (valves : Valves) (ref : SetRef) : Type 0 where
  pub set : RecordSet
  pub names : RefersTo zones ref set
  pub on : evaluates set.body ≡ true
  pub bare : set_seat seats ref.slot ≡ 0
  pub none : group_seat seats ref.slot ≡ 0
  pub alone : HasNoValve zones seats ref.zone set.name set.rtype
  pub many : 200 ≤ size_of valves

-- An evaluated alias came, of a group without a valve, into a slot whose seat tells nothing. Its target group
-- has a valve, and so has the check that it names: these are to feed its own. The valves of 200 checks are
-- there.
pub record ComesToLead (zones : List Zone) (ids numbers : List ℕ) (seats : List Seat) (valves : Valves)
    (ref : SetRef) (feeders : List ℕ) : Type 0 where
  pub set : RecordSet
  pub names : RefersTo zones ref set
  pub on : evaluates set.body ≡ true
  pub bare : set_seat seats ref.slot ≡ 0
  pub none : group_seat seats ref.slot ≡ 0
  pub alone : HasNoValve zones seats ref.zone set.name set.rtype
  pub its_check : HasItsCheck ids set.check
  pub group : ℕ
  pub its_target : HasTargetSeat zones seats ref.zone set group
  pub are : feeders ≡ feeders_with ids numbers set.check group
  pub within : All (λ x. x < size_of valves) feeders
  pub many : 200 ≤ size_of valves

-- ---- what changes

-- what the code tells of the valves that are to feed one
abbrev pub listed_in : AliasFeeders → List ℕ
listed_in its = option_to_list its.check ++ its.group ∷ []

-- The seat in a slot tells a valve of the set's own, given as one more, and neither a check nor the valve of a
-- group; all others tell what they told.
pub record IsSeatedOwn (slot told : ℕ) (before after : List Seat) : Type 0 where
  pub set : set_seat after slot ≡ told
  pub check : check_seat after slot ≡ 0
  pub group : group_seat after slot ≡ 0
  pub others : (other : ℕ) → other ≢ slot → TellsAll before after other

-- There is one valve more, behind all, which these feed: all of them have to be open for it. A seat tells it, and
-- the set is listed. Nothing else changes.
pub record GetsValve (ref : SetRef) (feeders : List ℕ) (before after : Index) : Type 0 where
  pub rest : after ≡ record before { seats = after.seats; refs = before.refs ++ ref ∷ []; valves = after.valves }
  pub seated : IsSeatedOwn ref.slot (suc (size_of before.valves)) before.seats after.seats
  pub fed : (net : Net) (own : ℕ → ℕ) → ValvesStandFor net own before.valves
      → ValvesStandFor (with_one_more (fed_condition feeders) net) (with_own net.size 0 own) after.valves
