-- Collections as a config holds them, each with its number.
use Rattle.std.specs.Prelude.{◌≡◌, ◌≢◌, ℕ, ◌<◌, ◌≤◌, List, [], ◌∷◌, length, Option, None, Some, Contains, slice_get, nat_eq, ⊤}
use Rattle.std.specs.List.{AllByRecursion}
use Rattle.std.specs.Map.{lookup}
use Rattle.cidr_changes.specs.IpAddressRecord.{IpAddress}
use Rattle.cidr_changes.specs.Location.{Locates}
use Rattle.cidr_changes.specs.RowsOfIpTable.{AreRows}
use Rattle.cidr_changes.specs.CollectionRecord.{Collection}
use Rattle.cidr_changes.specs.Places.{IsCollection, rows_of}

-- the collections, and the number that the next one gets
pub record Stored : Type 0 where
  pub next : ℕ
  pub list : List (ℕ × Collection)

-- Each number is below those behind it.
abbrev pub IdsRise : List (ℕ × Collection) → Type 0
IdsRise [] = ⊤
IdsRise (held ∷ list) = AllByRecursion (λ other. held.0 < other.0) list × IdsRise list

-- No two collections have one name.
abbrev pub NamesDiffer : List (ℕ × Collection) → Type 0
NamesDiffer [] = ⊤
NamesDiffer (held ∷ list) =
    AllByRecursion (λ other. other.1.name ≢ held.1.name) list × NamesDiffer list

-- There are at most 100 collections; their next number is 1 to 4,294,967,295; their numbers are at
-- least 1 and below it, and rise; their names differ.
pub record IsSound (stored : Stored) : Type 0 where
  pub few : length stored.list ≤ 100
  pub from : 1 ≤ stored.next
  pub to : stored.next ≤ 4294967295
  pub ids : AllByRecursion (λ held. (1 ≤ held.0) × (held.0 < stored.next)) stored.list
  pub rising : IdsRise stored.list
  pub names : NamesDiffer stored.list
  pub each : AllByRecursion (λ held. IsCollection held.1) stored.list

-- the collection of a number
abbrev pub collection_with : ℕ → List (ℕ × Collection) → Option Collection
collection_with id list = lookup (nat_eq id) list

-- A collection has the number.
abbrev pub IsId : List (ℕ × Collection) → ℕ → Type 0
IsId list id = (collection : Collection) × Contains list (id, collection)

-- the least number above the given one
pub record IsNextId (list : List (ℕ × Collection)) (id next : ℕ) : Type 0 where
  pub there : IsId list next
  pub above : id < next
  pub least : (other : ℕ) → IsId list other → id < other → next ≤ other

-- it, or that there is none
abbrev pub NextIdOrNone : List (ℕ × Collection) → (id : ℕ) → Option ℕ → Type 0
NextIdOrNone list id (Some next) = IsNextId list id next
NextIdOrNone list id None = (other : ℕ) → IsId list other → other ≤ id

-- The location of an address among the blocks of a collection, and the scope of that answer; no
-- location and 0 where the collection isn't there.
abbrev pub LocatesIn : Option Collection → IpAddress → Option (List ℕ) → (scope : ℕ) → Type 0
LocatesIn None client name scope = (name ≡ None) × (scope ≡ 0)
LocatesIn (Some collection) client name scope =
    Locates (rows_of collection.locations) client name scope

-- The blocks of a collection are rows of a table: prefixes, and none of them twice.
abbrev pub AreRowsIn : Option Collection → Type 0
AreRowsIn None = ⊤
AreRowsIn (Some collection) = AreRows (rows_of collection.locations)

-- where the collection of a number stands
abbrev pub PlaceOrNone : List (ℕ × Collection) → (id : ℕ) → Option ℕ → Type 0
PlaceOrNone list id None = collection_with id list ≡ None
PlaceOrNone list id (Some place) =
    (collection : Collection) × (slice_get list place ≡ Some (id, collection))
    × (collection_with id list ≡ Some collection)
