-- What a batch meets by itself.
use Rattle.std.specs.Prelude.{◌≡◌, ◌⊎◌, ℕ, List, [], length, Option, None, Some}
use Rattle.batch_model.specs.ReasonRecord.{Reason}
use Rattle.batch_model.specs.declared.batches.Change.{Change}
use Rattle.batch_model.specs.declared.refusals.BatchRefusal.{BatchRefusal}
use Rattle.batch_model.specs.declared.refusals.BatchRefusal.TheVariants as batch
use Rattle.batch_model.specs.Batches.{AreValidBefore, IsFirstInvalid, IsValid, IsWithinLimits}
use Rattle.batch_model.specs.Limits.{HasTooManyValues, HasTooManyCharacters, HasLongSet}

-- the first change whose set is refused by itself, or none
abbrev pub IsFirstInvalidOrNone : List Change → (apex : List (List ℕ)) → Option (ℕ × Reason) → Type 0
IsFirstInvalidOrNone changes apex None = AreValidBefore changes apex (length changes)
IsFirstInvalidOrNone changes apex (Some (i, reason)) = IsFirstInvalid changes apex i reason

-- the first of the refusals that come before any change is applied
abbrev pub TellsLimits : List Change → (apex : List (List ℕ)) → Option BatchRefusal → Type 0
TellsLimits changes apex None = IsWithinLimits changes apex
TellsLimits changes apex (Some batch.EmptyBatch) = changes ≡ []
TellsLimits changes apex (Some (batch.InvalidInput i reason)) = IsFirstInvalid changes apex i reason
TellsLimits changes apex (Some batch.TooManyValues) = IsValid changes apex × HasTooManyValues changes
TellsLimits changes apex (Some batch.TooManyCharacters) =
    IsValid changes apex × (HasTooManyValues changes → ⊥) × (HasTooManyCharacters changes ⊎ HasLongSet changes)
TellsLimits changes apex (Some (batch.NotInZone i)) = ⊥
TellsLimits changes apex (Some (batch.AlreadyExists i)) = ⊥
TellsLimits changes apex (Some (batch.NotFound i)) = ⊥
TellsLimits changes apex (Some (batch.ValuesDiffer i)) = ⊥
TellsLimits changes apex (Some (batch.ApexProtected i)) = ⊥
TellsLimits changes apex (Some (batch.MixedPolicies key)) = ⊥
TellsLimits changes apex (Some (batch.CnameConflict name)) = ⊥
TellsLimits changes apex (Some (batch.SamePlace key)) = ⊥
TellsLimits changes apex (Some (batch.GroupFull name rtype)) = ⊥
TellsLimits changes apex (Some batch.OutOfMemory) = ⊥
