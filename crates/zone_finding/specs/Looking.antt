-- What is found in a table of zones.
use Rattle.std.specs.Prelude.{◌≡◌, ◌≤◌, ◌+◌, ℕ, List, length, slice_get, Bool, true, false, Option, None}
use Rattle.std.specs.Prelude.{◌≢◌, ◌++◌, ◌∷◌, [], Some, drop, map, take}
use Rattle.std.specs.Borrow.{Bor}
use Rattle.zone_list.specs.Suffix.{EndsWith}
use Rattle.zone_list.specs.RTypeRecord.{RType}
use Rattle.zone_list.specs.RTypeRecord.TheVariants as rtype
use Rattle.zone_list.specs.RecordSetRecord.{RecordSet}
use Rattle.zone_list.specs.SetKeyRecord.{SetKey}
use Rattle.zone_list.specs.BoundRecord.{Bound}
use Rattle.zone_list.specs.BoundRecord.TheVariants as bound
use Rattle.zone_list.specs.WatchRecord.{Watch}
use Rattle.zone_list.specs.Telling.{target_of, watch_of}
use Rattle.zone_list.specs.FoundOfSetSearch.{IsCount, IsGroupAt}
use Rattle.zone_list.specs.Slotted.{Slotted, IsHere, IsSlotAt, sets_of}
use Rattle.zone_list.specs.Sets.{IsAmong}
use Rattle.zone_finding.specs.declared.refs.Group.{Group}
use Rattle.zone_list.specs.declared.refs.SetRef.{SetRef}
use Rattle.zone_list.specs.Zones.{Zone, IsOne, IsZoneId, placed_in}

-- A group of a zone: its sets of this name and type, which stand side by side in zone order.
pub record IsGroup (zones : List Zone) (id : ℕ) (name : List (List ℕ)) (rtype : RType)
    (group : Group) : Type 0 where
  pub zone : group.zone ≡ id
  pub sets : IsGroupAt (sets_of (placed_in zones id)) name rtype group.start group.length

-- the group of some name and type as it stands now
abbrev pub IsGroupNow : List Zone → Group → Type 0
IsGroupNow zones group = (name : List (List ℕ)) × (rtype : RType)
    × IsGroup zones group.zone name rtype group

-- the set at place i of a group
pub record IsSetOfGroup (zones : List Zone) (group : Group) (i : ℕ) (set : SetRef) : Type 0 where
  pub zone : set.zone ≡ group.zone
  pub slot : IsSlotAt (placed_in zones group.zone) (group.start + i) set.slot

-- the slots of the sets of a group, in zone order
abbrev pub slots_in : List Zone → Group → List ℕ
slots_in zones group =
    map (λ (p : Slotted). p.slot) (take group.length (drop group.start (placed_in zones group.zone)))

-- The slot of the set at place i, or none where there are no more sets than i.
abbrev pub SlotAt : List Slotted → (i : ℕ) → Option ℕ → Type 0
SlotAt placed i (Some slot) = IsSlotAt placed i slot
SlotAt placed i None = length placed ≤ i

-- The set at place i of a zone in its order, or none.
abbrev pub IsSetAt : List Zone → (zone i : ℕ) → Option SetRef → Type 0
IsSetAt zones zone i (Some set) = (set.zone ≡ zone)
    × SlotAt (placed_in zones zone) i (Some set.slot)
IsSetAt zones zone i None = SlotAt (placed_in zones zone) i None

-- there is a set at place i of a zone, and it has the name
abbrev pub HasNameAt : List Zone → (zone i : ℕ) → (name : List (List ℕ)) → Type 0
HasNameAt zones zone i name = (set : RecordSet)
    × (slice_get (sets_of (placed_in zones zone)) i ≡ Some set) × (set.name ≡ name)

-- a reference names this set
abbrev pub RefersTo : List Zone → SetRef → RecordSet → Type 0
RefersTo zones set named = IsHere (placed_in zones set.zone) (record { slot = set.slot; set = named })

-- The set that a reference names was loaded. Where it names none, what was held stays.
abbrev pub Loads : List Zone → SetRef → (held held_now : Option RecordSet) → Bool → Type 0
Loads zones set held held_now true = (named : RecordSet) × RefersTo zones set named
    × (held_now ≡ Some named)
Loads zones set held held_now false = ((named : RecordSet) → RefersTo zones set named → ⊥)
    × (held_now ≡ held)

-- What decides the health of the set that a reference names, or none where it names none.
abbrev pub Watches : List Zone → SetRef → Option Watch → Type 0
Watches zones set (Some watch) = (named : RecordSet) × RefersTo zones set named
    × (watch ≡ watch_of named)
Watches zones set None = (named : RecordSet) → RefersTo zones set named → ⊥

-- The target of the set that a reference names, or none where it names none or one that is no
-- alias.
abbrev pub Targets : List Zone → SetRef → Option (List (List ℕ) × RType) → Type 0
Targets zones set (Some target) = (named : RecordSet) × RefersTo zones set named
    × (target_of named ≡ Some target)
Targets zones set None = (named : RecordSet) → RefersTo zones set named → target_of named ≡ None

-- a search from the key on, or from what is behind it
abbrev pub bound_of : SetKey → (past : Bool) → Bound
bound_of key true = bound.Past key
bound_of key false = bound.From key

-- The slot of the first set behind the bound, or none where all sets stand before it.
abbrev pub SlotBehind : List Slotted → Bound → Option ℕ → Type 0
SlotBehind placed to (Some slot) = (at : ℕ) × IsCount (sets_of placed) to at
    × IsSlotAt placed at slot
SlotBehind placed to None = IsCount (sets_of placed) to (length placed)

-- The first set of the zone behind the bound, or none.
abbrev pub IsNextSet : List Zone → (zone : ℕ) → Bound → Option SetRef → Type 0
IsNextSet zones zone to (Some set) = (set.zone ≡ zone)
    × SlotBehind (placed_in zones zone) to (Some set.slot)
IsNextSet zones zone to None = SlotBehind (placed_in zones zone) to None

-- The zone that holds a name: of those at or above it that of the longest name (RFC 1034, 4.3.2).
pub record IsZoneFor (zones : List Zone) (name : List (List ℕ)) (id : ℕ) : Type 0 where
  pub zone : Zone
  pub there : IsOne zones zone
  pub its_id : zone.id ≡ id
  pub above : EndsWith name zone.apex
  pub longest : (other : Zone) → IsOne zones other → EndsWith name other.apex
      → length other.apex ≤ length zone.apex

abbrev pub IsZoneForOrNone : List Zone → (name : List (List ℕ)) → Option ℕ → Type 0
IsZoneForOrNone zones name (Some id) = IsZoneFor zones name id
IsZoneForOrNone zones name None = (zone : Zone) → IsOne zones zone → EndsWith name zone.apex → ⊥

-- the name of the zone with this number
abbrev pub IsApex : List Zone → ℕ → (name : List (List ℕ)) → Type 0
IsApex zones id name = (zone : Zone) × IsOne zones zone × (zone.id ≡ id) × (zone.apex ≡ name)

abbrev pub ApexOrNone : List Zone → ℕ → Option (List (List ℕ)) → Type 0
ApexOrNone zones id (Some name) = IsApex zones id name
ApexOrNone zones id None = IsZoneId zones id → ⊥

-- The zone that holds a name, with the name of its apex, or none.
abbrev pub HolderOrNone : List Zone → (name : List (List ℕ)) → Option (ℕ × Bor (List (List ℕ)))
    → Type 0
HolderOrNone zones name (Some (id, apex)) = IsZoneFor zones name id × IsApex zones id apex.now
HolderOrNone zones name None = IsZoneForOrNone zones name None

-- No set of the zone has a name with the label `*` (RFC 4592, 2.1.1).
abbrev pub HasNoStar : List Zone → (id : ℕ) → Type 0
HasNoStar zones id = (set : RecordSet) → IsAmong (sets_of (placed_in zones id)) set
    → (first rest : List (List ℕ)) → set.name ≢ first ++ (0x2A ∷ []) ∷ rest

-- No NS set of the zone has another name.
abbrev pub ServersAreAt : List Zone → (id : ℕ) → (name : List (List ℕ)) → Type 0
ServersAreAt zones id name = (set : RecordSet) → IsAmong (sets_of (placed_in zones id)) set
    → set.rtype ≡ rtype.Ns → set.name ≡ name
