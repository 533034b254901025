-- Commands by which one set that nothing decides comes into a group with a valve, or goes from one: how many
-- such sets that valve counts, and a seat, and nothing else.
use Rattle.std.specs.Prelude.{◌≡◌, ◌≢◌, ◌≤◌, ◌<◌, ◌+◌, ◌-◌, ◌^◌, ◌⊎◌, ◌++◌, ℕ, zero, suc, false, List, [], ◌∷◌, Option, None, Some}
use Rattle.health_standing.specs.Index.{Index}
use Rattle.health_standing.specs.Leaving.{HasNoValve}
use Rattle.health_planning.specs.Building.{TellsAll}
use Rattle.health_planning.specs.DeltaRecord.{Delta}
use Rattle.health_planning.specs.Looking.{RefersTo}
use Rattle.health_planning.specs.SetRefRecord.{SetRef}
use Rattle.health_planning.specs.Wired.{group_seat, is_watched, set_seat}
use Rattle.health_planning.specs.Zones.{Zone, placed_in}
use Rattle.health_planning.specs.declared.seats.Seat.{Seat}
use Rattle.health_valves.specs.Valves.{Net, ValvesStandFor, size_of, with_own}
use Rattle.health_valves.specs.declared.valves.Valves.{Valves}
use Rattle.rdata_layout.specs.declared.types.RType.{RType}
use Rattle.record_set.specs.declared.sets.RecordSet.{RecordSet}
use Rattle.zone_model.specs.Slotted.{IsHere, Slotted}

-- ---- which commands

-- one set went from a zone, and none came
pub record HasGone (delta : Delta) (ref : SetRef) : Type 0 where
  pub zone : delta.zone ≢ 0
  pub removed : delta.removed ≡ ref ∷ []
  pub added : delta.added ≡ []

-- one came, and none went
pub record HasCome (delta : Delta) (ref : SetRef) : Type 0 where
  pub zone : delta.zone ≢ 0
  pub removed : delta.removed ≡ []
  pub added : delta.added ≡ ref ∷ []

-- the one that went, or came, where it is such a command
abbrev pub IsGone : Delta → Option SetRef → Type 0
IsGone delta None = (ref : SetRef) → HasGone delta ref → ⊥
IsGone delta (Some ref) = HasGone delta ref

abbrev pub IsCome : Delta → Option SetRef → Type 0
IsCome delta None = (ref : SetRef) → HasCome delta ref → ⊥
IsCome delta (Some ref) = HasCome delta ref

-- What a set that isn't there any more left: a seat without a valve of its own, which tells that of its
-- group. There some are counted from outside.
pub record LeavesGroup (zones : List Zone) (seats : List Seat) (valves : Valves) (ref : SetRef)
    (valve : ℕ) : Type 0 where
  pub gone : (named : RecordSet) → RefersTo zones ref named → ⊥
  pub bare : set_seat seats ref.slot ≡ 0
  pub seat : group_seat seats ref.slot ≡ suc valve
  pub within : valve < size_of valves
  pub some : (net : Net) (own : ℕ → ℕ) → ValvesStandFor net own valves → 1 ≤ own valve

-- A set of the group of a name and type tells a valve for it.
pub record TellsValve (zones : List Zone) (seats : List Seat) (zone : ℕ) (name : List (List ℕ))
    (rtype : RType) (valve : ℕ) : Type 0 where
  pub member : Slotted
  pub here : IsHere (placed_in zones zone) member
  pub name_is : name ≡ member.set.name
  pub rtype_is : rtype ≡ member.set.rtype
  pub tells : group_seat seats member.slot ≡ suc valve

-- Each set of the group tells this valve, or none.
abbrev pub TellNoOther : List Zone → List Seat → (zone : ℕ) → (name : List (List ℕ)) → RType
    → (valve : ℕ) → Type 0
TellNoOther zones seats zone name rtype valve = (p : Slotted) → IsHere (placed_in zones zone) p
    → name ≡ p.set.name → rtype ≡ p.set.rtype
    → (group_seat seats p.slot ≡ 0) ⊎ (group_seat seats p.slot ≡ suc valve)

-- the valve that is told among some sets, or for a group, given as one more; 0 where none is
abbrev pub IsToldIn : List Seat → (members : List Slotted) → (told : ℕ) → Type 0
IsToldIn seats members zero = (p : Slotted) → IsHere members p → group_seat seats p.slot ≡ 0
IsToldIn seats members (suc valve) =
    (p : Slotted) × (IsHere members p × (group_seat seats p.slot ≡ suc valve))

abbrev pub IsToldFor : List Zone → List Seat → (zone : ℕ) → (name : List (List ℕ)) → RType
    → (told : ℕ) → Type 0
IsToldFor zones seats zone name rtype zero = HasNoValve zones seats zone name rtype
IsToldFor zones seats zone name rtype (suc valve) = TellsValve zones seats zone name rtype valve

-- A set that nothing decides came into a slot whose seat tells nothing. Its group has a valve, at which fewer
-- are counted from outside than can be.
pub record JoinsGroup (zones : List Zone) (seats : List Seat) (valves : Valves) (ref : SetRef)
    (valve : ℕ) : Type 0 where
  pub set : RecordSet
  pub names : RefersTo zones ref set
  pub off : is_watched set ≡ false
  pub bare : set_seat seats ref.slot ≡ 0
  pub none : group_seat seats ref.slot ≡ 0
  pub group : TellsValve zones seats ref.zone set.name set.rtype valve
  pub within : valve < size_of valves
  pub few : (net : Net) (own : ℕ → ℕ) → ValvesStandFor net own valves → own valve < 2 ^ 31

-- ---- what changes

-- The seat in a slot tells no valve but that of a group, given as one more, or none; all others tell what they
-- told.
pub record IsSeatedIn (slot group : ℕ) (before after : List Seat) : Type 0 where
  pub set : set_seat after slot ≡ 0
  pub group_is : group_seat after slot ≡ group
  pub others : (other : ℕ) → other ≢ slot → TellsAll before after other

-- At one valve other many are counted from outside. All conditions stay.
abbrev pub Recounts : (valve : ℕ) → (many : ℕ → ℕ) → (before after : Valves) → Type 0
Recounts valve many before after = (net : Net) (own : ℕ → ℕ) → ValvesStandFor net own before
    → ValvesStandFor net (with_own valve (many (own valve)) own) after

-- So many are counted at the valve of a group, one seat tells that valve or none, and so are those noted that
-- groups with valves have. Nothing else changes.
pub record Regroups (slot valve group : ℕ) (noted : List SetRef) (many : ℕ → ℕ)
    (before after : Index) : Type 0 where
  pub rest : after ≡ record before { seats = after.seats; members = noted; valves = after.valves }
  pub seated : IsSeatedIn slot group before.seats after.seats
  pub counts : Recounts valve many before.valves after.valves

-- one set fewer is counted, and its seat tells nothing
abbrev pub Leaves : SetRef → (valve : ℕ) → (before after : Index) → Type 0
Leaves ref valve before after =
    Regroups ref.slot valve 0 before.members (λ n. n - 1) before after

-- one more is, its seat tells the valve, and it is noted
abbrev pub Joins : SetRef → (valve : ℕ) → (before after : Index) → Type 0
Joins ref valve before after =
    Regroups ref.slot valve (suc valve) (before.members ++ ref ∷ []) (λ n. n + 1) before after
