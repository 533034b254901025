-- Laws over the definitions of this crate.
use Rattle.std.specs.Prelude.{◌≡◌, ◌≤◌, ℕ, List, ◌++◌, length}
use Rattle.set_reading.specs.RecordSetRecord.{RecordSet}
use Rattle.set_reading.specs.Octets.{set_octets}
use Rattle.set_parts.specs.Heads.{key_octets}
use Rattle.set_reading.specs.Sets.{IsSet}

-- the most octets by which a key is told: a name of 255, a type, and an identifier of 128 behind
-- its kind and its length
abbrev pub most_key_octets : ℕ
most_key_octets = 387

-- The octets of a set begin with those that tell its key, which are few.
pub record KeyIsInFront (set : RecordSet) : Type 0 where
  pub rest : List ℕ
  pub in_front : set_octets set ≡ key_octets set ++ rest
  pub few : length (key_octets set) ≤ most_key_octets

abbrev pub KeysAreInFront : Type 0
KeysAreInFront = (set : RecordSet) → IsSet set → KeyIsInFront set
