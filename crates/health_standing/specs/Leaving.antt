-- What a command leaves of zones and checks, which sets it tells, and when surely no valve changes by
-- them.
use Rattle.std.specs.Prelude.{◌≡◌, ◌≢◌, ◌+◌, ◌⊎◌, ℕ, suc, false, true, List, Option, None, Some, length, slice_get, ⊤}
use Rattle.std.specs.Option.{option_to_list}
use Rattle.record_set.specs.Sets.{key_of}
use Rattle.health_planning.specs.Changes.{ref_in}
use Rattle.check_model.specs.Checks.{Checks}
use Rattle.rdata_layout.specs.declared.types.RType.{RType}
use Rattle.record_set.specs.declared.sets.RecordSet.{RecordSet}
use Rattle.health_planning.specs.Zones.{Zone, placed_in}
use Rattle.health_planning.specs.SetRefRecord.{SetRef}
use Rattle.health_valves.specs.Valves.{Feeds, Net, ValvesStandFor}
use Rattle.health_valves.specs.declared.valves.Valves.{Valves}
use Rattle.zone_model.specs.Slotted.{IsHere, Slotted}
use Rattle.health_planning.specs.Edits.{Edits, IsAllowed}
use Rattle.health_planning.specs.Looking.{RefersTo}
use Rattle.health_planning.specs.ZoneEditRecord.{ZoneEdit}
use Rattle.health_planning.specs.DeltaRecord.{Delta}
use Rattle.health_planning.specs.Building.{IsFree}
use Rattle.health_planning.specs.Later.{AreLater}
use Rattle.health_planning.specs.Telling.{evaluates, target_of}
use Rattle.health_planning.specs.Wired.{AreMembers, IsGroupSeat, check_seat, group_seat, is_watched, only_check, seat_of, set_seat, valve_with}
use Rattle.health_planning.specs.declared.seats.Seat.{Seat}
use Rattle.health_standing.specs.Index.{Needs}

-- A command on zones makes an edit that is allowed, tells which sets went and came by it, and leaves
-- the checks as they are. One on checks leaves the zones as they are, and tells of no zone.
abbrev pub AreLeft : (before : List Zone) (old : Checks) (after : List Zone) (new : Checks)
    → Delta → Type 0
AreLeft before old after new delta =
    ((made : ZoneEdit) × (IsAllowed before made × Edits before made after delta × (new ≡ old)))
    ⊎ ((after ≡ before) × AreLater old new × (delta.zone ≡ 0))

-- ---- sets by which surely no valve changes

-- one of some references is this one
abbrev pub IsOneOf : List SetRef → SetRef → Type 0
IsOneOf refs ref = (i : ℕ) × (slice_get refs i ≡ Some ref)

-- A set that isn't there any more is told as one that went, and a new one as one that came. What is
-- told to have gone was there, and a slot keeps its key.
pub record Moves (before after : List Zone) (removed added : List SetRef) : Type 0 where
  pub stays : (zone : ℕ) (p : Slotted) → IsHere (placed_in before zone) p
      → IsOneOf removed (ref_in zone p) ⊎ IsHere (placed_in after zone) p
  pub only : (zone : ℕ) (p : Slotted) → IsHere (placed_in after zone) p
      → IsHere (placed_in before zone) p ⊎ IsOneOf added (ref_in zone p)
  pub gone : (zone : ℕ) (q : Slotted) → IsOneOf removed (ref_in zone q)
      → (p : Slotted) × IsHere (placed_in before zone) p × (p.slot ≡ q.slot)
  pub keys : (zone : ℕ) (p q : Slotted) → IsHere (placed_in before zone) p
      → IsHere (placed_in after zone) q → p.slot ≡ q.slot → key_of p.set ≡ key_of q.set

-- the group of a name and type of a zone has no valve
abbrev pub HasNoValve : List Zone → List Seat → (zone : ℕ) → (name : List (List ℕ)) → RType
    → Type 0
HasNoValve zones seats zone name rtype = (p : Slotted) → IsHere (placed_in zones zone) p
    → name ≡ p.set.name → rtype ≡ p.set.rtype → group_seat seats p.slot ≡ 0

-- What decides a set is what its seat tells: nothing, or the same check alone.
abbrev pub IsAsTold : List Seat → (slot : ℕ) → RecordSet → Type 0
IsAsTold seats slot set =
    ((set_seat seats slot ≡ 0) × (is_watched set ≡ false))
    ⊎ ((set_seat seats slot ≢ 0) × (only_check set ≢ 0)
    × (check_seat seats slot ≡ only_check set))

-- One valve feeds another.
abbrev pub IsFed : Valves → (feeder valve : ℕ) → Type 0
IsFed valves feeder valve =
    (net : Net) (own : ℕ → ℕ) → ValvesStandFor net own valves → Feeds net feeder valve

-- The valve of a check feeds another, where a check is named.
abbrev pub IsFedByCheck : (ids numbers : List ℕ) → Valves → Option ℕ → (valve : ℕ) → Type 0
IsFedByCheck ids numbers valves None valve = ⊤
IsFedByCheck ids numbers valves (Some id) valve =
    ((place : ℕ) × (slice_get ids place ≡ Some id))
    × IsFed valves (valve_with ids numbers id) valve

-- The valve of the target group of an alias feeds another: the one that the seat of its first set tells.
pub record IsFedByTarget (zones : List Zone) (seats : List Seat) (valves : Valves) (zone : ℕ)
    (set : RecordSet) (valve : ℕ) : Type 0 where
  pub name : List (List ℕ)
  pub rtype : RType
  pub target : target_of set ≡ Some (name, rtype)
  pub members : List Slotted
  pub are : AreMembers zones zone name rtype members
  pub group : ℕ
  pub seat : IsGroupSeat seats members group
  pub fed : IsFed valves group valve

-- The set is an alias whose target's health counts; the valve of the check that it names and that of its
-- target group feed its valve, and as many have to be open. Where the index stands for anything no others
-- feed it.
pub record IsAsFed (zones : List Zone) (ids numbers : List ℕ) (seats : List Seat) (valves : Valves)
    (zone slot : ℕ) (set : RecordSet) : Type 0 where
  pub on : evaluates set.body ≡ true
  pub valve : ℕ
  pub seat : seat_of seats slot ≡ suc valve
  pub many : Needs valves valve (length (option_to_list set.check) + 1)
  pub its_check : IsFedByCheck ids numbers valves set.check valve
  pub its_target : IsFedByTarget zones seats valves zone set valve

-- What decides a set is what decided the one that was in its slot: its seat tells so, or what feeds its
-- valve does.
abbrev pub IsAsSeated : List Zone → (ids numbers : List ℕ) → List Seat → Valves → SetRef → RecordSet
    → Type 0
IsAsSeated zones ids numbers seats valves ref set =
    IsAsTold seats ref.slot set ⊎ IsAsFed zones ids numbers seats valves ref.zone ref.slot set

-- Another set came in the place of one that went; or neither that nor its group had a valve.
abbrev pub WentKeepsValves : List Seat → (added : List SetRef) → SetRef → Type 0
WentKeepsValves seats added ref =
    ((set_seat seats ref.slot ≡ 0) × (group_seat seats ref.slot ≡ 0)) ⊎ IsOneOf added ref

-- A set came in the place of another, or into a slot and a group without a valve; and what decides it
-- is what decided that.
pub record CameKeepsValves (zones : List Zone) (ids numbers : List ℕ) (seats : List Seat)
    (valves : Valves) (removed : List SetRef) (ref : SetRef) : Type 0 where
  pub set : RecordSet
  pub names : RefersTo zones ref set
  pub as_seated : IsAsSeated zones ids numbers seats valves ref set
  pub place : IsOneOf removed ref
      ⊎ ((set_seat seats ref.slot ≡ 0) × HasNoValve zones seats ref.zone set.name set.rtype)

abbrev pub AllWentKeepValves : List Seat → (added refs : List SetRef) → Type 0
AllWentKeepValves seats added refs =
    (i : ℕ) (ref : SetRef) → slice_get refs i ≡ Some ref → WentKeepsValves seats added ref

abbrev pub AllCameKeepValves : List Zone → (ids numbers : List ℕ) → List Seat → Valves
    → (removed refs : List SetRef) → Type 0
AllCameKeepValves zones ids numbers seats valves removed refs =
    (i : ℕ) (ref : SetRef) → slice_get refs i ≡ Some ref
    → CameKeepsValves zones ids numbers seats valves removed ref

-- By the sets that went from a zone, and by those that came, surely no valve changes.
pub record KeepsValves (zones : List Zone) (ids numbers : List ℕ) (seats : List Seat)
    (valves : Valves) (delta : Delta) : Type 0 where
  pub zone : delta.zone ≢ 0
  pub went : AllWentKeepValves seats delta.added delta.removed
  pub came : AllCameKeepValves zones ids numbers seats valves delta.removed delta.added

-- ---- sets by which no valve of a set's own changes

abbrev pub AllWentBeside : List Seat → (refs : List SetRef) → Type 0
AllWentBeside seats refs =
    (i : ℕ) (ref : SetRef) → slice_get refs i ≡ Some ref → IsFree seats ref.slot

-- A set came that is no evaluated alias, into a slot without a valve of its own and a group without a valve.
pub record CameBeside (zones : List Zone) (seats : List Seat) (ref : SetRef) : Type 0 where
  pub set : RecordSet
  pub names : RefersTo zones ref set
  pub off : evaluates set.body ≡ false
  pub own : seat_of seats ref.slot ≡ 0
  pub none : HasNoValve zones seats ref.zone set.name set.rtype

abbrev pub AllCameBeside : List Zone → List Seat → (refs : List SetRef) → Type 0
AllCameBeside zones seats refs =
    (i : ℕ) (ref : SetRef) → slice_get refs i ≡ Some ref → CameBeside zones seats ref

-- By the sets that went from a zone and those that came no valve changes, but which check alone decides a
-- set may: what went had none of its own, nor had its group, and none is wanted for what came.
pub record SparesValves (zones : List Zone) (seats : List Seat) (delta : Delta) : Type 0 where
  pub zone : delta.zone ≢ 0
  pub went : AllWentBeside seats delta.removed
  pub came : AllCameBeside zones seats delta.added
