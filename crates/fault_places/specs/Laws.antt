-- Where the first fault of the octets of a set stands.
use Rattle.std.specs.Prelude.{◌≡◌, ℕ, ◌+◌, ◌<◌, ◌≤◌, ◌⊎◌, ◌↔◌, List, ◌++◌, length, Err}
use Rattle.std.specs.List.{AllByRecursion}
use Rattle.set_fields.specs.NamesOfDnsName.{AreOctets}
use Rattle.set_fields.specs.RecordSetRecord.{RecordSet}
use Rattle.set_fields.specs.Octets.{set_octets}
use Rattle.set_reading.specs.Reading.{read}
use Rattle.fault_places.specs.Fields.{Field, spelling, StopsIn}
use Rattle.fault_places.specs.Sets.{fields_of_set, IsInGrammar, BeginsWithLongSet}

-- The octets of a set are its fields, one behind another.
abbrev pub SetsAreFields : Type 0
SetsAreFields = (set : RecordSet) → set_octets set ≡ spelling (fields_of_set set)

-- Each field of a set has an octet at least.
abbrev pub NoFieldIsEmpty : Type 0
NoFieldIsEmpty = (set : RecordSet) → IsInGrammar set
    → AllByRecursion (λ (field : Field). 0 < length field.octets) (fields_of_set set)

-- Octets stop at this place on their way to a set.
pub record SetStopsAt (octets : List ℕ) (place : ℕ) : Type 0 where
  pub left : ℕ
  pub behind : place + left ≡ length octets
  pub stops : StopsIn IsInGrammar fields_of_set octets left

-- octets that are the first of a set's, however long the set
abbrev pub GoesOn : List ℕ → Type 0
GoesOn octets =
    (set : RecordSet) × (more : List ℕ) × IsInGrammar set × (octets ++ more ≡ set_octets set)

-- octets with which no set's agree as far as both go
abbrev pub CanBeNoSet : List ℕ → Type 0
CanBeNoSet octets =
    (set : RecordSet) (more rest : List ℕ) → IsInGrammar set
    → octets ++ more ≡ set_octets set ++ rest → ⊥

-- Up to the field where octets stop they could go on to a set. There they end; or with what stands
-- there they can't.
abbrev pub FaultsStandFirst : Type 0
FaultsStandFirst =
    (octets : List ℕ) (place : ℕ) (stops : SetStopsAt octets place)
    → GoesOn stops.stops.before × (length stops.stops.before ≤ place)
    × ((place ≡ length octets) ⊎ CanBeNoSet octets)

-- Where octets stop on their way to a set; for a set that is longer than sets may be, and has its
-- fields in the grammar, the first octet.
abbrev pub HasFaultAt : (octets : List ℕ) (place : ℕ) → Type 0
HasFaultAt octets place =
    SetStopsAt octets place ⊎ ((place ≡ 0) × BeginsWithLongSet octets)

-- Reading tells this place exactly where octets have their fault at it.
abbrev pub SetFaultsAsTold : Type 0
SetFaultsAsTold =
    (octets : List ℕ) (place : ℕ) → AreOctets octets
    → (read octets ≡ Err place) ↔ HasFaultAt octets place

-- Octets have one fault at most.
abbrev pub OneFaultOfOctets : Type 0
OneFaultOfOctets =
    (octets : List ℕ) (place other : ℕ) → HasFaultAt octets place → HasFaultAt octets other
    → place ≡ other
