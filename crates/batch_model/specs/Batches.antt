-- A batch: the sets after it, or its first refusal (API Reference, ChangeResourceRecordSets).
use Rattle.std.specs.Prelude.{◌≡◌, ◌≢◌, ◌<◌, ◌⊎◌, ℕ, List, [], ◌∷◌, take, slice_get, Some, None, Result, Ok, Err, ⊤}
use Rattle.zone_model.specs.ReasonRecord.{Reason}
use Rattle.zone_model.specs.RecordSetRecord.{RecordSet}
use Rattle.zone_model.specs.Reasons.{IsFirst}
use Rattle.zone_model.specs.Sets.{key_of}
use Rattle.batch_model.specs.declared.batches.Change.{Change}
use Rattle.batch_model.specs.declared.refusals.BatchRefusal.{BatchRefusal}
use Rattle.batch_model.specs.declared.refusals.BatchRefusal.TheVariants as batch
use Rattle.batch_model.specs.declared.refusals.ChangeRefusal.{ChangeRefusal}
use Rattle.batch_model.specs.declared.refusals.ChangeRefusal.TheVariants as refusal
use Rattle.batch_model.specs.Changing.{Applies}
use Rattle.batch_model.specs.Limits.{HasTooManyValues, HasTooManyCharacters, HasLongSet}
use Rattle.batch_model.specs.Rules.{Rule, OnePolicy, CnameAlone, OwnPlace, GroupSize, MeetsAll, IsFirstBreak, rules}

-- The sets of the changes before place n are allowed by themselves.
abbrev pub AreValidBefore : List Change → (apex : List (List ℕ)) → ℕ → Type 0
AreValidBefore changes apex n =
    (i : ℕ) (change : Change) → i < n → slice_get changes i ≡ Some change → IsFirst None change.set apex

-- The change at place i is the first whose set is refused by itself, for this reason.
pub record IsFirstInvalid (changes : List Change) (apex : List (List ℕ)) (i : ℕ) (reason : Reason) : Type 0 where
  pub change : Change
  pub there : slice_get changes i ≡ Some change
  pub refused : IsFirst (Some reason) change.set apex
  pub first : AreValidBefore changes apex i

-- the batch has changes, and each set is allowed by itself
pub record IsValid (changes : List Change) (apex : List (List ℕ)) : Type 0 where
  pub filled : changes ≢ []
  pub each : (i : ℕ) (change : Change) → slice_get changes i ≡ Some change → IsFirst None change.set apex

-- it is also within the limits
pub record IsWithinLimits (changes : List Change) (apex : List (List ℕ)) : Type 0 where
  pub valid : IsValid changes apex
  pub values : HasTooManyValues changes → ⊥
  pub characters : HasTooManyCharacters changes → ⊥
  pub octets : HasLongSet changes → ⊥

-- The sets after these changes, each applied to what the one before it left.
abbrev pub Leaves : List RecordSet → (apex : List (List ℕ)) → List Change → (after : List RecordSet) → Type 0
Leaves sets apex [] after = after ≡ sets
Leaves sets apex (change ∷ changes) after =
    (middle : List RecordSet) × Applies sets apex change (Ok middle) × Leaves middle apex changes after

-- The change at place i is the first that is refused, and why.
pub record IsRefusedAt (sets : List RecordSet) (apex : List (List ℕ)) (changes : List Change) (i : ℕ) (why : ChangeRefusal) : Type 0 where
  pub limits : IsWithinLimits changes apex
  pub change : Change
  pub there : slice_get changes i ≡ Some change
  pub before : List RecordSet
  pub applied : Leaves sets apex (take i changes) before
  pub refused : Applies before apex change (Err why)

-- The set is the first one that breaks this rule after the last change.
pub record BreaksAfter (sets : List RecordSet) (apex : List (List ℕ)) (changes : List Change) (rule : Rule) (set : RecordSet) : Type 0 where
  pub limits : IsWithinLimits changes apex
  pub after : List RecordSet
  pub applied : Leaves sets apex changes after
  pub first : IsFirstBreak rule after apex set

-- A batch is made whole, or refused for the first of these. Memory may be wanted at any point.
abbrev pub Prepares : List RecordSet → (apex : List (List ℕ)) → List Change → Result (List RecordSet) BatchRefusal → Type 0
Prepares sets apex changes (Ok after) =
    IsWithinLimits changes apex × Leaves sets apex changes after × MeetsAll rules after apex
Prepares sets apex changes (Err batch.EmptyBatch) = changes ≡ []
Prepares sets apex changes (Err (batch.InvalidInput i reason)) = IsFirstInvalid changes apex i reason
Prepares sets apex changes (Err batch.TooManyValues) = IsValid changes apex × HasTooManyValues changes
Prepares sets apex changes (Err batch.TooManyCharacters) =
    IsValid changes apex × (HasTooManyValues changes → ⊥) × (HasTooManyCharacters changes ⊎ HasLongSet changes)
Prepares sets apex changes (Err (batch.NotInZone i)) = IsRefusedAt sets apex changes i refusal.NotInZone
Prepares sets apex changes (Err (batch.AlreadyExists i)) = IsRefusedAt sets apex changes i refusal.AlreadyExists
Prepares sets apex changes (Err (batch.NotFound i)) = IsRefusedAt sets apex changes i refusal.NotFound
Prepares sets apex changes (Err (batch.ValuesDiffer i)) = IsRefusedAt sets apex changes i refusal.ValuesDiffer
Prepares sets apex changes (Err (batch.ApexProtected i)) = IsRefusedAt sets apex changes i refusal.ApexProtected
Prepares sets apex changes (Err (batch.MixedPolicies key)) =
    (set : RecordSet) × BreaksAfter sets apex changes OnePolicy set × (key ≡ key_of set)
Prepares sets apex changes (Err (batch.CnameConflict name)) =
    (set : RecordSet) × BreaksAfter sets apex changes CnameAlone set × (name ≡ set.name)
Prepares sets apex changes (Err (batch.SamePlace key)) =
    (set : RecordSet) × BreaksAfter sets apex changes OwnPlace set × (key ≡ key_of set)
Prepares sets apex changes (Err (batch.GroupFull name rtype)) =
    (set : RecordSet) × BreaksAfter sets apex changes GroupSize set × (name ≡ set.name) × (rtype ≡ set.rtype)
Prepares sets apex changes (Err batch.OutOfMemory) = ⊤
