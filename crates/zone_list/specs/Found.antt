-- What is found in a list of zones by rising number.
use Rattle.std.specs.Prelude.{◌≡◌, ◌≤◌, ◌<◌, ℕ, List, [], ◌∷◌, ◌++◌, length, slice_get, Option}
use Rattle.std.specs.Prelude.{None, Some}
use Rattle.zone_changes.specs.Suffix.{EndsWith}
use Rattle.zone_list.specs.Zones.{Zone, IsOne, IsZoneId}

-- The zones before place `low` have smaller numbers, and those from `high` on don't.
pub record IsSplit (zones : List Zone) (id low high : ℕ) : Type 0 where
  pub order : low ≤ high
  pub within : high ≤ length zones
  pub before : (k : ℕ) (zone : Zone) → k < low → slice_get zones k ≡ Some zone → zone.id < id
  pub behind : (k : ℕ) (zone : Zone) → high ≤ k → slice_get zones k ≡ Some zone → id ≤ zone.id

-- The first n zones have no larger numbers, and the others do.
pub record IsPast (zones : List Zone) (id n : ℕ) : Type 0 where
  pub within : n ≤ length zones
  pub before : (k : ℕ) (zone : Zone) → k < n → slice_get zones k ≡ Some zone → zone.id ≤ id
  pub behind : (k : ℕ) (zone : Zone) → n ≤ k → slice_get zones k ≡ Some zone → id < zone.id

-- the zone of this number stands at place i
pub record IsAt (zones : List Zone) (id i : ℕ) : Type 0 where
  pub zone : Zone
  pub there : slice_get zones i ≡ Some zone
  pub its_id : zone.id ≡ id

abbrev pub FindsZone : List Zone → (id : ℕ) → Option ℕ → Type 0
FindsZone zones id (Some i) = IsAt zones id i
FindsZone zones id None = IsZoneId zones id → ⊥

-- The longest name of the zones at or above a name, and the number of that zone; none where no zone
-- holds the name.
pub record IsLongest (zones : List Zone) (name : List (List ℕ)) (id labels : ℕ) : Type 0 where
  pub zone : Zone
  pub there : IsOne zones zone
  pub its_id : zone.id ≡ id
  pub above : EndsWith name zone.apex
  pub as_long : length zone.apex ≡ labels
  pub longest : (other : Zone) → IsOne zones other → EndsWith name other.apex
      → length other.apex ≤ labels

abbrev pub LongestOrNone : List Zone → (name : List (List ℕ)) → Option (ℕ × ℕ) → Type 0
LongestOrNone zones name (Some (id, labels)) = IsLongest zones name id labels
LongestOrNone zones name None = (zone : Zone) → IsOne zones zone → EndsWith name zone.apex → ⊥

-- what is found with one more zone
abbrev pub IsLonger : Option (ℕ × ℕ) → Zone → (name : List (List ℕ)) → (found : Option (ℕ × ℕ))
    → Type 0
IsLonger before zone name found = (zones : List Zone) → LongestOrNone zones name before
    → LongestOrNone (zones ++ zone ∷ []) name found

-- a name with so many labels or more was found
abbrev pub IsAsLong : Option (ℕ × ℕ) → (labels : ℕ) → Type 0
IsAsLong None labels = ⊥
IsAsLong (Some (id, most)) labels = labels ≤ most

-- The next zone by number.
pub record IsNextZone (zones : List Zone) (id next : ℕ) : Type 0 where
  pub there : IsZoneId zones next
  pub above : id < next
  pub least : (zone : Zone) → IsOne zones zone → id < zone.id → next ≤ zone.id

abbrev pub NextZoneOrNone : List Zone → (id : ℕ) → Option ℕ → Type 0
NextZoneOrNone zones id (Some next) = IsNextZone zones id next
NextZoneOrNone zones id None = (zone : Zone) → IsOne zones zone → zone.id ≤ id
