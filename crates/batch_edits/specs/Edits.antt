-- The edit of a zone that a batch makes.
use Rattle.std.specs.Prelude.{◌≡◌, ℕ, List, Result, Ok, Err}
use Rattle.record_set.specs.declared.sets.RecordSet.{RecordSet}
use Rattle.record_set.specs.declared.sets.SetKey.{SetKey}
use Rattle.record_set.specs.Sets.{key_of}
use Rattle.change_batch.specs.ChangeRecord.{Change}
use Rattle.change_batch.specs.BatchRefusalRecord.{BatchRefusal}
use Rattle.change_batch.specs.Batches.{Prepares}
use Rattle.change_batch.specs.Rules.{MeetsAll, rules}
use Rattle.batch_names.specs.Changes.{IsKeyOf, with_all, without_all}
use Rattle.batch_names.specs.AllZones.{Zone, placed_in}
use Rattle.config_model.specs.Slotted.{sets_of}
use Rattle.config_model.specs.Zones.{IsAmong}
use Rattle.batch_names.specs.ZoneEditRecord.TheVariants.{Change as ChangeZone}
use Rattle.batch_names.specs.Edits.{IsAllowed}
use Rattle.batch_names.specs.Looking.{IsApex}
use Rattle.config_model.specs.Differences.{IsDifference}
use Rattle.batch_edits.specs.declared.editing.Edit.{Edit}

-- the sets of a zone once the edit is made
abbrev pub after_edit : Edit → List RecordSet → List RecordSet
after_edit edit sets = with_all edit.add (without_all edit.remove sets)

-- Each key that goes is that of a change, and each set that comes is a change's.
pub record AreOfChanges (changes : List Change) (edit : Edit) : Type 0 where
  pub keys : (key : SetKey) → IsKeyOf edit.remove key
      → (change : Change) × IsAmong changes change × (key_of change.set ≡ key)
  pub sets : (set : RecordSet) → IsAmong edit.add set
      → (change : Change) × IsAmong changes change × (change.set ≡ set)

-- The edit of a zone by changes, of which these are the sets before it.
pub record IsEditOf (sets : List RecordSet) (apex : List (List ℕ)) (changes : List Change)
    (edit : Edit) : Type 0 where
  pub after : Prepares sets apex changes (Ok (after_edit edit sets))
  pub difference : IsDifference sets (after_edit edit sets) edit.remove edit.add
  pub named : AreOfChanges changes edit

-- The edit that a batch makes of a zone, which is allowed, or the first refusal of the batch.
abbrev pub EditsOrNot : (zones : List Zone) → (zone : ℕ) → (apex : List (List ℕ)) → List Change
    → Result Edit BatchRefusal → Type 0
EditsOrNot zones zone apex changes (Ok edit) =
    IsEditOf (sets_of (placed_in zones zone)) apex changes edit
    × IsAllowed zones (ChangeZone zone edit.remove edit.add)
EditsOrNot zones zone apex changes (Err why) =
    Prepares (sets_of (placed_in zones zone)) apex changes (Err why)

-- the zone of this number meets the rules for groups and names
abbrev pub MeetsRules : List Zone → (zone : ℕ) → Type 0
MeetsRules zones zone = (apex : List (List ℕ)) → IsApex zones zone apex
    → MeetsAll rules (sets_of (placed_in zones zone)) apex
