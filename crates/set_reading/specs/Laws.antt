-- Laws over the definitions of this crate.
use Rattle.std.specs.Prelude.{◌≡◌, ◌≤◌, ℕ, List, ◌++◌, length, Result, Ok, Err, ⊤}
use Rattle.set_fields.specs.NamesOfDnsName.{AreOctets}
use Rattle.set_fields.specs.Rules.{IsReadAs}
use Rattle.set_fields.specs.RecordSetRecord.{RecordSet}
use Rattle.set_fields.specs.Octets.{check_octets, routing_octets, set_octets, HasSpelling, IsSpelledRouting}
use Rattle.set_reading.specs.Reading.{check_at, read, routing_at}
use Rattle.set_reading.specs.Sets.{IsRouting, IsSet, BeginsWithSet}

-- One set has one spelling, and no spelling begins another: octets begin with the spelling of one set at most.
abbrev pub OneSpelling : Type 0
OneSpelling =
    (set other : RecordSet) (rest others : List ℕ) → IsSet set → IsSet other → HasSpelling set → HasSpelling other
    → set_octets set ++ rest ≡ set_octets other ++ others → (set ≡ other) × (rest ≡ others)

-- What is written is read again, whatever follows it.
abbrev pub WrittenReadsBack : Type 0
WrittenReadsBack =
    (set : RecordSet) (rest : List ℕ) → IsSet set → HasSpelling set → read (set_octets set ++ rest) ≡ Ok (set, length (set_octets set))

-- What reading tells: the set that octets begin with; or a place among them, or behind the last, where they begin with
-- none.
abbrev pub TellsSet : List ℕ → Result (RecordSet × ℕ) ℕ → Type 0
TellsSet octets (Ok x) = BeginsWithSet octets x.0 x.1
TellsSet octets (Err place) = (place ≤ length octets) × ((set : RecordSet) (n : ℕ) → BeginsWithSet octets set n → ⊥)

abbrev pub SetsAreTold : Type 0
SetsAreTold = (octets : List ℕ) → AreOctets octets → TellsSet octets (read octets)

-- A policy and a check are read as they are written.
pub record PartsAreRead : Type 0 where
  pub routings : IsReadAs (λ policy. IsRouting policy × IsSpelledRouting policy) routing_octets routing_at
  pub checks : IsReadAs (λ check. ⊤) check_octets check_at
