-- The numbers and names of zones, in zone order.
use Rattle.std.specs.Prelude.{◌≡◌, ◌≢◌, ◌≤◌, ◌<◌, ◌↔◌, ℕ, List, [], ◌∷◌, length, slice_get, true}
use Rattle.std.specs.Prelude.{false, Option, None, Some, ⊤}
use Rattle.std.specs.List.{AllByRecursion}
use Rattle.std.specs.Ordering.{is_gt}
use Rattle.std.specs.declared.cmp.Ordering.TheVariants.{Less}
use Rattle.zone_changes.specs.Order.{zone_cmp}
use Rattle.zone_changes.specs.Suffix.{EndsWith}
use Rattle.zone_changes.specs.Existing.{IsAncestor}
use Rattle.zone_changes.specs.Zones.{IsAmong}
use Rattle.zone_list.specs.declared.apexes.NamedZone.{NamedZone}

-- Each name comes before all that stand behind it.
abbrev pub AreInOrder : List NamedZone → Type 0
AreInOrder [] = ⊤
AreInOrder (apex ∷ list) =
    AllByRecursion (λ other. zone_cmp apex.name other.name ≡ Less) list × AreInOrder list

-- The names before place `low` are this one or come before it, and those from `high` on come behind
-- it.
pub record IsParted (list : List NamedZone) (name : List (List ℕ)) (low high : ℕ) : Type 0 where
  pub order : low ≤ high
  pub within : high ≤ length list
  pub before : (k : ℕ) (x : NamedZone) → k < low → slice_get list k ≡ Some x
      → is_gt (zone_cmp x.name name) ≡ false
  pub behind : (k : ℕ) (x : NamedZone) → high ≤ k → slice_get list k ≡ Some x
      → is_gt (zone_cmp x.name name) ≡ true

-- The longest of the names at or above a name, by its number.
pub record IsLongestName (list : List NamedZone) (name : List (List ℕ)) (id : ℕ) : Type 0 where
  pub apex : NamedZone
  pub there : IsAmong list apex
  pub its_id : apex.id ≡ id
  pub above : EndsWith name apex.name
  pub longest : (other : NamedZone) → IsAmong list other → EndsWith name other.name
      → length other.name ≤ length apex.name

abbrev pub LongestName : List NamedZone → (name : List (List ℕ)) → Option ℕ → Type 0
LongestName list name (Some id) = IsLongestName list name id
LongestName list name None = (apex : NamedZone) → IsAmong list apex → EndsWith name apex.name → ⊥

-- The same, where None says no more than that the name itself isn't there.
abbrev pub LongestOrNot : List NamedZone → (name : List (List ℕ)) → Option ℕ → Type 0
LongestOrNot list name (Some id) = IsLongestName list name id
LongestOrNot list name None = (apex : NamedZone) → IsAmong list apex → apex.name ≢ name

-- All names at or above one are above another, at which a search has come.
pub record AreAllAbove (list : List NamedZone) (name rest : List (List ℕ)) : Type 0 where
  pub suffix : EndsWith name rest
  pub above : (apex : NamedZone) → IsAmong list apex → EndsWith name apex.name
      → IsAncestor rest apex.name

-- the zone of a number stands at a place, or no zone has it
abbrev pub FindsNumber : List NamedZone → (id : ℕ) → Option ℕ → Type 0
FindsNumber list id (Some place) =
    (apex : NamedZone) × (slice_get list place ≡ Some apex) × (apex.id ≡ id)
FindsNumber list id None = (apex : NamedZone) → IsAmong list apex → apex.id ≢ id

-- one more
abbrev pub IsWith : List NamedZone → NamedZone → (after : List NamedZone) → Type 0
IsWith before apex after = (other : NamedZone) → IsAmong after other ↔ IsAmong (apex ∷ before) other

-- all but that of a number
abbrev pub IsWithout : List NamedZone → (id : ℕ) → (after : List NamedZone) → Type 0
IsWithout before id after =
    (other : NamedZone) → IsAmong after other ↔ (IsAmong before other × (other.id ≢ id))

-- what is known, if anything is, once a zone came
abbrev pub Comes : Option (List NamedZone) → NamedZone → Option (List NamedZone) → Type 0
Comes before apex None = ⊤
Comes None apex (Some after) = ⊥
Comes (Some before) apex (Some after) = IsWith before apex after

-- and once the zone of a number went
abbrev pub Goes : Option (List NamedZone) → (id : ℕ) → Option (List NamedZone) → Type 0
Goes before id None = ⊤
Goes None id (Some after) = ⊥
Goes (Some before) id (Some after) = IsWithout before id after
