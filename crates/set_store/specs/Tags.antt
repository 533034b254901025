-- What the octets of a name tell in five bits: those of two equal names tell the same.
use Rattle.std.specs.Prelude.{◌≡◌, ℕ, ◌+◌, ◌%◌, List, if◌then◌else◌, length, nat_lt}
use Rattle.octets.specs.Numbers.{long_at}
use Rattle.set_search.specs.Labels.{wire}
use Rattle.set_search.specs.RecordSetRecord.{RecordSet}
use Rattle.set_scratch.specs.Spelling.{Spells}

-- the sum of two numbers of four octets each, from a place on
abbrev pub pair_at : List ℕ → ℕ → ℕ
pair_at octets at = long_at octets at + long_at octets (at + 4)

-- by the first 24 octets, or the first 16 or 8 where there are no more
abbrev pub tag_told : List ℕ → ℕ
tag_told octets =
    if nat_lt (length octets) 8 then 0
    else if nat_lt (length octets) 16 then pair_at octets 0 % 31
    else if nat_lt (length octets) 24 then (pair_at octets 0 + pair_at octets 8) % 31
    else (pair_at octets 0 + pair_at octets 8 + pair_at octets 16) % 31

unfoldable pub tag_of : List ℕ → ℕ
tag_of octets = tag_told octets

-- it is the tag of the name of the set that these octets spell
abbrev pub IsTagged : (tag : ℕ) → (octets : List ℕ) → Type 0
IsTagged tag octets = (set : RecordSet) → Spells octets set → tag ≡ tag_of (wire set.name)
