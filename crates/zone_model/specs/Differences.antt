-- What goes and what comes between two lists of sets.
use Rattle.std.specs.Prelude.{◌≡◌, ◌⊎◌, List, [], ◌∷◌, map}
use Rattle.record_set.specs.declared.sets.RecordSet.{RecordSet}
use Rattle.record_set.specs.declared.sets.SetKey.{SetKey}
use Rattle.record_set.specs.Sets.{key_of}
use Rattle.zone_model.specs.Zones.{IsAmong}

-- Those of the sets that aren't among others, in their order.
abbrev pub AreMissing : (sets others found : List RecordSet) → Type 0
AreMissing [] others found = found ≡ []
AreMissing (set ∷ sets) others found =
    (IsAmong others set × AreMissing sets others found)
    ⊎ ((IsAmong others set → ⊥)
    × ((rest : List RecordSet) × (found ≡ set ∷ rest) × AreMissing sets others rest))

-- The keys of these, in their order.
abbrev pub AreMissingKeys : (sets others : List RecordSet) → (keys : List SetKey) → Type 0
AreMissingKeys sets others keys =
    (gone : List RecordSet) × AreMissing sets others gone × (keys ≡ map key_of gone)

-- What goes are the keys of the sets that aren't there afterwards, and what comes are the sets that
-- weren't there before, both in the order of the sets. A set that stays as it is does neither.
pub record IsDifference (before after : List RecordSet) (remove : List SetKey)
    (add : List RecordSet) : Type 0 where
  pub goes : AreMissingKeys before after remove
  pub comes : AreMissing after before add
