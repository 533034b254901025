-- What an edit of zones makes of the zones that definitions see, which have no slots.
use Rattle.std.specs.Prelude.{◌≡◌, ◌<◌, ◌++◌, ℕ, List, [], ◌∷◌, map}
use Rattle.config_model.specs.RecordSetRecord.{RecordSet}
use Rattle.config_model.specs.SetKeyRecord.{SetKey}
use Rattle.zone_table.specs.Changes.{with_all, without_all}
use Rattle.zone_table.specs.Zones.{AreZones, IsOne, IsZoneId, Zone, hosted, placed_in}
use Rattle.config_model.specs.Hosted.{HostedZone}
use Rattle.config_model.specs.Slotted.{sets_of}
use Rattle.config_model.specs.Zones.{IsRising}
use Rattle.zone_table.specs.Edits.{Edits}
use Rattle.zone_table.specs.declared.edits.ZoneEdit.TheVariants.{Change, End, Begin}
use Rattle.zone_table.specs.declared.refs.Delta.{Delta}
use Rattle.config_model.specs.Configs.{with_sets, without_zone}

-- the zones as definitions see them
abbrev pub hosted_in : List Zone → List HostedZone
hosted_in zones = map hosted zones

-- the sets of a zone once those of some keys are taken away and others are placed among them
abbrev pub changed_in : List Zone → (id : ℕ) → (remove : List SetKey) → (add : List RecordSet)
    → List RecordSet
changed_in zones id remove add = with_all add (without_all remove (sets_of (placed_in zones id)))

pub record EditsAreTold : Type 0 where
  -- a zone that is changed has other sets, and the others are as they were
  pub changed : (before after : List Zone) (id : ℕ) (remove : List SetKey) (add : List RecordSet)
      (told : Delta) → AreZones before → AreZones after → IsZoneId before id
      → Edits before (Change id remove add) after told
      → hosted_in after ≡ with_sets (hosted_in before) id (changed_in before id remove add)
  -- a zone that is opened with sets in zone order stands behind those of lower numbers
  pub opened : (before after : List Zone) (id : ℕ) (name : List (List ℕ)) (sets : List RecordSet)
      (told : Delta) → AreZones before → AreZones after
      → ((zone : Zone) → IsOne before zone → zone.id < id) → IsRising sets
      → Edits before (Begin id name sets) after told
      → hosted_in after
      ≡ hosted_in before ++ record { id = id; apex = name; sets = sets } ∷ []
  -- and one that is closed is gone
  pub closed : (before after : List Zone) (id : ℕ) (told : Delta) → AreZones before
      → AreZones after → Edits before (End id) after told
      → hosted_in after ≡ without_zone (hosted_in before) id
