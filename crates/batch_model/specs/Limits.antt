-- The limits of a batch (API Reference, ChangeResourceRecordSets, "Limits on Change Batch Requests").
use Rattle.std.specs.Prelude.{◌≡◌, ℕ, ◌*◌, ◌<◌, List, length, slice_get, Some}
use Rattle.std.specs.List.{sum_by}
use Rattle.zone_model.specs.BodyRecord.{Body}
use Rattle.zone_model.specs.BodyRecord.TheVariants as body
use Rattle.set_octets.specs.Octets.{set_octets, most_octets}
use Rattle.batch_model.specs.declared.batches.Action.{Action}
use Rattle.batch_model.specs.declared.batches.Action.TheVariants as action
use Rattle.batch_model.specs.declared.batches.Change.{Change}

-- "The value of an UPSERT is counted twice."
abbrev pub counted : Action → ℕ → ℕ
counted action.Create n = n
counted action.Delete n = n
counted action.Upsert n = 2 * n

-- the ResourceRecord elements of a set; an alias is one
abbrev pub elements_in : Body → ℕ
elements_in (body.Values ttl values) = length values
elements_in (body.Alias target evaluate) = 1

abbrev pub elements_of : Change → ℕ
elements_of change = counted change.action (elements_in change.set.body)

abbrev pub characters_of : Change → ℕ
characters_of change = counted change.action change.characters

-- more than 1,000 ResourceRecord elements
abbrev pub HasTooManyValues : List Change → Type 0
HasTooManyValues changes = 1000 < sum_by elements_of changes

-- more than 32,000 characters in all Value elements
abbrev pub HasTooManyCharacters : List Change → Type 0
HasTooManyCharacters changes = 32000 < sum_by characters_of changes

-- some set has more octets than a set may have (own)
abbrev pub HasLongSet : List Change → Type 0
HasLongSet changes =
    (i : ℕ) × (change : Change) × (slice_get changes i ≡ Some change) × (most_octets < length (set_octets change.set))
