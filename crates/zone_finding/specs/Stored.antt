-- How a zone that is found is stored.
use Rattle.std.specs.Prelude.{◌≡◌, ℕ, List, [], Bool, true, false, Option, None, Some}
use Rattle.std.specs.Borrow.{Bor}
use Rattle.zone_list.specs.RecordSetRecord.{RecordSet}
use Rattle.zone_list.specs.Stored.{IsKept, Kept}
use Rattle.zone_list.specs.Kept.{Listed, zones_in}
use Rattle.zone_list.specs.Zones.{IsZoneId, Zone, placed_in}
use Rattle.zone_list.specs.declared.refs.SetRef.{SetRef}
use Rattle.zone_list.specs.declared.hints.Hint.{Hint}
use Rattle.zone_finding.specs.Looking.{IsApex, RefersTo}
use Rattle.zone_list.specs.Slotted.{sets_of}
use Rattle.zone_list.specs.Sets.{IsRising}
use Rattle.zone_list.specs.Orders.{IsOrder, slotted_of}

-- The slots are those of the zone with this number.
pub record IsOrderIn (slots : List (Option Kept)) (list : List Listed) (id : ℕ)
    (order : List ℕ) : Type 0 where
  pub order_is : IsOrder slots id order
  pub placed : placed_in (zones_in slots list) id ≡ slotted_of slots id order
  pub there : IsZoneId (zones_in slots list) id

-- no zone has the number, and so no sets
abbrev pub IsNone : List Zone → ℕ → Type 0
IsNone zones id = (IsZoneId zones id → ⊥) × (placed_in zones id ≡ [])

abbrev pub GetsOrder : List (Option Kept) → List Listed → ℕ → Option (Bor (List ℕ)) → Type 0
GetsOrder slots list id (Some order) = IsOrderIn slots list id order.now
GetsOrder slots list id None = IsNone (zones_in slots list) id

-- the same with a hint, which may be wrong
abbrev pub GetsNear : List (Option Kept) → List Listed → ℕ
    → Option (Bor (List ℕ) × Option Hint) → Type 0
GetsNear slots list id (Some (order, hint)) = IsOrderIn slots list id order.now
GetsNear slots list id None = IsNone (zones_in slots list) id

-- the name of the zone with this number
abbrev pub GetsApex : List Zone → ℕ → Option (Bor (List (List ℕ))) → Type 0
GetsApex zones id (Some apex) = IsApex zones id apex.now
GetsApex zones id None = IsZoneId zones id → ⊥

-- the sets of the zone with this number, which are in zone order
abbrev pub GivesZoneSets : List Zone → ℕ → Option (List RecordSet) → Type 0
GivesZoneSets zones id (Some sets) = (sets ≡ sets_of (placed_in zones id)) × IsRising sets
    × IsZoneId zones id
GivesZoneSets zones id None = IsNone zones id

-- the same with a hint, which may be wrong
abbrev pub ViewsNear : List Zone → ℕ → Option (List RecordSet × Option ℕ) → Type 0
ViewsNear zones id (Some (sets, hint)) = GivesZoneSets zones id (Some sets)
ViewsNear zones id None = IsNone zones id

-- whether a reference names a set, which its slot holds then
abbrev pub IsReferredTo : List (Option Kept) → List Zone → SetRef → Bool → Type 0
IsReferredTo slots zones set true = (named : RecordSet) × RefersTo zones set named
    × IsKept slots set.slot (record { zone = set.zone; set = named })
IsReferredTo slots zones set false = (named : RecordSet) → RefersTo zones set named → ⊥
