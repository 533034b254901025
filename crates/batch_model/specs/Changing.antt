-- One change to the sets of a zone (API Reference, ChangeResourceRecordSets).
use Rattle.std.specs.Prelude.{◌≡◌, ℕ, List, Result, Ok, Err, ⊤}
use Rattle.zone_model.specs.Suffix.{EndsWith}
use Rattle.zone_model.specs.RecordSetRecord.{RecordSet}
use Rattle.zone_model.specs.Reasons.{IsOfZone}
use Rattle.zone_model.specs.Sameness.{Same}
use Rattle.zone_model.specs.Sets.{key_of}
use Rattle.zone_model.specs.Placing.{placed, without, IsSetOf, IsThere}
use Rattle.batch_model.specs.declared.batches.Action.{Action}
use Rattle.batch_model.specs.declared.batches.Action.TheVariants as action
use Rattle.batch_model.specs.declared.batches.Change.{Change}
use Rattle.batch_model.specs.declared.refusals.ChangeRefusal.{ChangeRefusal}
use Rattle.batch_model.specs.declared.refusals.ChangeRefusal.TheVariants as refusal

-- a set of this key is there, and it is equal to the one that is given
abbrev pub IsThereAsGiven : List RecordSet → (given : RecordSet) → Type 0
IsThereAsGiven sets given = (kept : RecordSet) × IsSetOf sets (key_of given) kept × Same kept given

-- The NS and SOA sets at the apex can't be deleted.
abbrev pub IsProtected : RecordSet → (apex : List (List ℕ)) → Type 0
IsProtected set apex = (set.name ≡ apex) × IsOfZone set.rtype

-- What a change makes of the sets, where it is allowed.
abbrev pub Makes : Action → (given : RecordSet) → (sets : List RecordSet) → (apex : List (List ℕ)) → (after : List RecordSet) → Type 0
-- CREATE needs that no set of the key is there.
Makes action.Create given sets apex after = (IsThere sets (key_of given) → ⊥) × (after ≡ placed given sets)
-- DELETE needs that the set is there as it is given, and isn't protected.
Makes action.Delete given sets apex after =
    IsThereAsGiven sets given × (IsProtected given apex → ⊥) × (after ≡ without (key_of given) sets)
-- UPSERT replaces the set of the key, or creates it.
Makes action.Upsert given sets apex after = after ≡ placed given sets

-- One change: the sets after it, or why it is refused. Memory may be wanted at any point.
abbrev pub Applies : List RecordSet → (apex : List (List ℕ)) → Change → Result (List RecordSet) ChangeRefusal → Type 0
Applies sets apex change (Ok after) =
    EndsWith change.set.name apex × Makes change.action change.set sets apex after
Applies sets apex change (Err refusal.NotInZone) =
    EndsWith change.set.name apex → ⊥
Applies sets apex change (Err refusal.AlreadyExists) =
    EndsWith change.set.name apex × (change.action ≡ action.Create) × IsThere sets (key_of change.set)
Applies sets apex change (Err refusal.NotFound) =
    EndsWith change.set.name apex × (change.action ≡ action.Delete) × (IsThere sets (key_of change.set) → ⊥)
Applies sets apex change (Err refusal.ValuesDiffer) =
    EndsWith change.set.name apex × (change.action ≡ action.Delete) × IsThere sets (key_of change.set)
    × (IsThereAsGiven sets change.set → ⊥)
Applies sets apex change (Err refusal.ApexProtected) =
    EndsWith change.set.name apex × (change.action ≡ action.Delete) × IsThereAsGiven sets change.set
    × IsProtected change.set apex
Applies sets apex change (Err refusal.OutOfMemory) = ⊤
