-- How a scratch keeps a set: its octets, and where its parts stand among them.
use Rattle.std.specs.Prelude.{◌≡◌, ℕ, ◌+◌, ◌≤◌, List, [], ◌∷◌, length, take, Option, None, Some, ⊤}
use Rattle.set_parts.specs.Labels.{wire}
use Rattle.set_parts.specs.Datum.{Datum}
use Rattle.set_parts.specs.RecordSetRecord.{RecordSet}
use Rattle.set_parts.specs.Octets.{body_octets, head_octets, most_octets, set_octets}
use Rattle.set_scratch.specs.Bodies.{values_of}
use Rattle.set_scratch.specs.Spelling.{Spells, held_of}
use Rattle.set_scratch.specs.declared.places.Places.{Places}

-- The most values of a set, since each has two octets at least.
abbrev pub most_values : ℕ
most_values = 32768

-- values of which the first begins at this place, each with two octets of its length in front
abbrev pub starts_of : ℕ → List Datum → List ℕ
starts_of at [] = []
starts_of at (value ∷ rest) = at ∷ starts_of (at + (length value.wire + 2)) rest

-- Where the parts of a set stand among its octets. The values stand behind seven octets of the body: its
-- kind, four of the time to live, two of their number.
pub record AreAt (set : RecordSet) (places : Places) (starts : List ℕ) : Type 0 where
  pub len : places.len ≡ length (set_octets set)
  pub name : places.name ≡ length (wire set.name)
  pub body : places.body ≡ length (head_octets set)
  pub check : places.check ≡ places.body + length (body_octets set.body)
  pub values : starts ≡ starts_of (places.body + 7) (values_of set.body)

-- the octets and the places are those of the set that is held
abbrev pub AreOf : List ℕ → Places → List ℕ → Option RecordSet → Type 0
AreOf octets places starts None = ⊤
AreOf octets places starts (Some set) = Spells (take places.len octets) set × AreAt set places starts

-- The buffer and the places of values have room for any set, and hold the set that is held.
pub record IsIntact (octets : List ℕ) (places : Places) (starts : List ℕ) (room : ℕ) : Type 0 where
  pub size : length octets ≡ most_octets
  pub room_for_all : most_values ≤ room
  pub used : places.len ≤ length octets
  pub of_set : AreOf octets places starts (held_of octets places.len)
