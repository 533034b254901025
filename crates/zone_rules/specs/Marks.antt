-- Marks of places: a number for each, so that two policies of one place, failover role, region or location have one mark.
use Rattle.std.specs.Prelude.{◌≡◌, ℕ, ◌+◌, ◌*◌, ◌%◌, ◌≤◌, ◌<◌, List, [], ◌∷◌, Bool, true, false, Option, None, Some, slice_get, slice_index_or}
use Rattle.routing.specs.declared.policies.Place.{Place}
use Rattle.routing.specs.declared.policies.Place.TheVariants as place
use Rattle.routing.specs.declared.policies.Routing.{Routing}
use Rattle.routing.specs.declared.policies.Routing.TheVariants as routing
use Rattle.batch_model.specs.RecordSetRecord.{RecordSet}
use Rattle.batch_model.specs.Rules.{AreRivals}

-- the mark of a text that goes on with this byte
abbrev pub next_hash : (mark byte : ℕ) → ℕ
next_hash mark byte = (mark * 31 + byte) % 256

-- the mark of a text that goes on with these bytes
abbrev pub text_hash : (mark : ℕ) → List ℕ → ℕ
text_hash mark [] = mark
text_hash mark (byte ∷ bytes) = text_hash (next_hash mark byte) bytes

-- the mark of a place; continents share one
abbrev pub place_hash : Place → ℕ
place_hash (place.Continent continent) = 0
place_hash (place.Country country) = text_hash 0 country
place_hash (place.Subdivision country part) = text_hash (text_hash 0 country) part
place_hash place.Anywhere = 0

-- the mark of a place, failover role, region or location; other policies have none
abbrev pub hash_of : Routing → Option ℕ
hash_of routing.Simple = None
hash_of (routing.Weighted ident weight) = None
hash_of (routing.Failover ident role) = Some 0
hash_of (routing.Geolocation ident place) = Some (place_hash place)
hash_of (routing.Latency ident region) = Some (text_hash 0 region)
hash_of (routing.Multivalue ident) = None
hash_of (routing.Cidr ident collection location) = Some (text_hash 0 location)

-- there is a mark, and it was made
abbrev pub IsMarked : (marks : List Bool) → Option ℕ → Type 0
IsMarked marks None = ⊥
IsMarked marks (Some mark) = slice_index_or marks mark false ≡ true

-- The sets from place start to before place i have made their marks: that of each policy of one place with one of them was made.
abbrev pub AreMarked : List RecordSet → (marks : List Bool) → (start i : ℕ) → Type 0
AreMarked sets marks start i =
    (j : ℕ) (set : RecordSet) (other : Routing) → start ≤ j → j < i → slice_get sets j ≡ Some set → AreRivals set.routing other → IsMarked marks (hash_of other)
