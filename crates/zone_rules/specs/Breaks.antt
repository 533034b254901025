-- The first rule that is broken, and where.
use Rattle.std.specs.Prelude.{◌≡◌, ◌<◌, ℕ, List, [], length, slice_get, Option, None, Some}
use Rattle.batch_model.specs.RecordSetRecord.{RecordSet}
use Rattle.batch_model.specs.Sets.{key_of}
use Rattle.batch_model.specs.declared.refusals.BatchRefusal.{BatchRefusal}
use Rattle.batch_model.specs.declared.refusals.BatchRefusal.TheVariants as batch
use Rattle.batch_model.specs.Rules.{Rule, OnePolicy, CnameAlone, OwnPlace, GroupSize, rules, BreaksAt, NoneBreaksBefore, MeetsAll, IsFirstBreak}
use Rattle.zone_rules.specs.Groups.{NoneFarBefore}

-- the place of the first set that breaks a rule, or none
abbrev pub IsFirstPlace : Rule → List RecordSet → (apex : List (List ℕ)) → Option ℕ → Type 0
IsFirstPlace rule sets apex None = NoneBreaksBefore rule sets apex (length sets)
IsFirstPlace rule sets apex (Some i) = (i < length sets) × BreaksAt rule sets apex i × NoneBreaksBefore rule sets apex i

-- the place of the first set before place n that breaks a rule on groups, or none
abbrev pub IsFirstBefore : Rule → List RecordSet → (n : ℕ) → Option ℕ → Type 0
IsFirstBefore rule sets n None = NoneBreaksBefore rule sets [] n
IsFirstBefore rule sets n (Some i) = (i < n) × BreaksAt rule sets [] i × NoneBreaksBefore rule sets [] i

-- where the first group begins that has more than 100 sets before place n, or none
abbrev pub IsFullBefore : List RecordSet → (n : ℕ) → Option ℕ → Type 0
IsFullBefore sets n None = NoneFarBefore sets n
IsFullBefore sets n (Some start) = IsFirstPlace GroupSize sets [] (Some start)

-- the name of the first set that breaks a rule, or none
abbrev pub IsFirstName : Rule → List RecordSet → (apex : List (List ℕ)) → Option (List (List ℕ)) → Type 0
IsFirstName rule sets apex None = NoneBreaksBefore rule sets apex (length sets)
IsFirstName rule sets apex (Some name) =
    (i : ℕ) × (set : RecordSet) × (slice_get sets i ≡ Some set) × (name ≡ set.name) × BreaksAt rule sets apex i × NoneBreaksBefore rule sets apex i

-- Of the rules in their order, the first that is broken, with what is told of the first set that breaks it.
abbrev pub TellsBreak : List RecordSet → (apex : List (List ℕ)) → Option BatchRefusal → Type 0
TellsBreak sets apex None = MeetsAll rules sets apex
TellsBreak sets apex (Some (batch.MixedPolicies key)) =
    (set : RecordSet) × IsFirstBreak OnePolicy sets apex set × (key ≡ key_of set)
TellsBreak sets apex (Some (batch.CnameConflict name)) =
    (set : RecordSet) × IsFirstBreak CnameAlone sets apex set × (name ≡ set.name)
TellsBreak sets apex (Some (batch.SamePlace key)) =
    (set : RecordSet) × IsFirstBreak OwnPlace sets apex set × (key ≡ key_of set)
TellsBreak sets apex (Some (batch.GroupFull name rtype)) =
    (set : RecordSet) × IsFirstBreak GroupSize sets apex set × (name ≡ set.name) × (rtype ≡ set.rtype)
TellsBreak sets apex (Some batch.EmptyBatch) = ⊥
TellsBreak sets apex (Some (batch.InvalidInput i reason)) = ⊥
TellsBreak sets apex (Some batch.TooManyValues) = ⊥
TellsBreak sets apex (Some batch.TooManyCharacters) = ⊥
TellsBreak sets apex (Some (batch.NotInZone i)) = ⊥
TellsBreak sets apex (Some (batch.AlreadyExists i)) = ⊥
TellsBreak sets apex (Some (batch.NotFound i)) = ⊥
TellsBreak sets apex (Some (batch.ValuesDiffer i)) = ⊥
TellsBreak sets apex (Some (batch.ApexProtected i)) = ⊥
TellsBreak sets apex (Some batch.OutOfMemory) = ⊥
