-- The set of a key.
use Rattle.std.specs.Prelude.{◌≡◌, ℕ, List, length, slice_get, Bool, true, false, Option, None, Some}
use Rattle.batch_model.specs.RecordSetRecord.{RecordSet}
use Rattle.zone_table.specs.BoundRecord.TheVariants as bound
use Rattle.zone_table.specs.Found.{IsCount}
use Rattle.zone_table.specs.Octets.{HasSpelling}
use Rattle.zone_table.specs.Placing.{IsSetOf, IsThere}
use Rattle.zone_table.specs.SetKeyRecord.{SetKey}

-- the set of a key, or none where there is none of the key
abbrev pub IsSetOfOrNone : List RecordSet → SetKey → Option RecordSet → Type 0
IsSetOfOrNone sets key (Some set) = IsSetOf sets key set
IsSetOfOrNone sets key None = IsThere sets key → ⊥

-- Whether there is a set that doesn't stand before a key. A scratch holds the first one then.
abbrev pub HoldsFrom : List RecordSet → SetKey → Bool → (held : Option RecordSet) → Type 0
HoldsFrom sets key true held =
    (at : ℕ) × IsCount sets (bound.From key) at
    × ((set : RecordSet) × (slice_get sets at ≡ Some set) × (held ≡ Some set) × HasSpelling set)
HoldsFrom sets key false held = IsCount sets (bound.From key) (length sets)
