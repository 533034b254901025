-- Where the policy of a set stands among its octets, and pieces of these.
use Rattle.std.specs.Prelude.{◌≡◌, ℕ, ◌+◌, ◌-◌, ◌%◌, List, drop, length, take}
use Rattle.set_scratch.specs.Octets.{set_octets}
use Rattle.set_search.specs.Labels.{wire}
use Rattle.set_search.specs.RecordSetRecord.{RecordSet}

-- The policy stands at this place, behind the name and the two octets of the type.
abbrev pub PolicyIsAt : RecordSet → (place : ℕ) → Type 0
PolicyIsAt set place = length (wire set.name) + 2 ≡ place

-- the octets of a set from a place on, up to the end of the 32 among which the place is
abbrev pub set_piece : RecordSet → (place : ℕ) → List ℕ
set_piece set place = take (32 - place % 32) (drop place (set_octets set))

-- the same up to the end of the 32 behind those
abbrev pub set_pieces : RecordSet → (place : ℕ) → List ℕ
set_pieces set place = take (64 - place % 32) (drop place (set_octets set))
