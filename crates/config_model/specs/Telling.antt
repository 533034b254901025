-- Refusals of parts of a command, as those of the command; and the first of several.
use Rattle.std.specs.Prelude.{Bool, List, [], ◌∷◌, if◌then◌else◌, Option, None, Some, Result}
use Rattle.std.specs.Prelude.{Ok, Err}
use Rattle.command_octets.specs.BatchRefusalRecord.{BatchRefusal}
use Rattle.command_octets.specs.BatchRefusalRecord.TheVariants as batch
use Rattle.check_model.specs.declared.refusals.CheckRefusal.{CheckRefusal}
use Rattle.check_model.specs.declared.refusals.CheckRefusal.TheVariants as check
use Rattle.command_octets.specs.CidrFaultRecord.{CidrFault}
use Rattle.command_octets.specs.CidrFaultRecord.TheVariants as fault
use Rattle.config_model.specs.declared.refusals.InputReason.{InputReason}
use Rattle.config_model.specs.declared.refusals.InputReason.TheVariants as reason
use Rattle.config_model.specs.declared.refusals.Refusal.{Refusal}
use Rattle.config_model.specs.declared.refusals.Refusal.TheVariants as refusal

-- ---- the first of several

-- a refusal, where a rule holds
abbrev pub refuse_if : Bool → Refusal → Option Refusal
refuse_if holds why = if holds then Some why else None

-- the first of several rules that refuses
abbrev pub first_of : List (Option Refusal) → Option Refusal
first_of [] = None
first_of (None ∷ rules) = first_of rules
first_of (Some why ∷ rules) = Some why

-- what is answered, unless something is refused
abbrev pub unless : {X : Type 0} → Option Refusal → X → Result X Refusal
unless None answer = Ok answer
unless (Some why) answer = Err why

-- ---- refusals of parts

-- what is wrong, but not with the set of a change
abbrev pub invalid : InputReason → Refusal
invalid why = refusal.InvalidInput None why

abbrev pub of_batch : BatchRefusal → Refusal
of_batch batch.EmptyBatch = invalid reason.EmptyBatch
of_batch (batch.InvalidInput i why) = refusal.InvalidInput (Some i) (reason.Set why)
of_batch batch.TooManyValues = refusal.TooManyValues
of_batch batch.TooManyCharacters = refusal.TooManyCharacters
of_batch (batch.NotInZone i) = refusal.NotInZone i
of_batch (batch.AlreadyExists i) = refusal.AlreadyExists i
of_batch (batch.NotFound i) = refusal.NotFound i
of_batch (batch.ValuesDiffer i) = refusal.ValuesDiffer i
of_batch (batch.ApexProtected i) = refusal.ApexProtected i
of_batch (batch.MixedPolicies key) = refusal.MixedPolicies key
of_batch (batch.CnameConflict name) = refusal.CnameConflict name
of_batch (batch.SamePlace key) = refusal.SamePlace key
of_batch (batch.GroupFull name rtype) = refusal.GroupFull name rtype
of_batch batch.OutOfMemory = refusal.OutOfMemory

abbrev pub of_check : CheckRefusal → Refusal
of_check check.ChildRepeated = invalid reason.ChildRepeated
of_check check.ChildTooDeep = invalid reason.ChildTooDeep
of_check check.WrongMember = invalid reason.WrongMember
of_check (check.NoSuchHealthCheck id) = refusal.NoSuchHealthCheck id
of_check (check.HealthCheckInUse id) = refusal.HealthCheckInUse id
of_check check.TooManyHealthChecks = refusal.TooManyHealthChecks
of_check check.IdsEnded = refusal.IdsEnded

abbrev pub of_fault : CidrFault → Refusal
of_fault fault.CollectionExists = invalid reason.CollectionExists
of_fault fault.BlockLength = invalid reason.BlockLength
of_fault fault.IdsEnded = refusal.IdsEnded
of_fault fault.TooManyCidrCollections = refusal.TooManyCidrCollections
of_fault (fault.NoSuchCidrCollection id) = refusal.NoSuchCidrCollection id
of_fault fault.CidrBlockInUse = refusal.CidrBlockInUse
of_fault fault.TooManyCidrBlocks = refusal.TooManyCidrBlocks
of_fault fault.CidrCollectionInUse = refusal.CidrCollectionInUse
of_fault (fault.CidrLocationInUse location) = refusal.CidrLocationInUse location
of_fault fault.OutOfMemory = refusal.OutOfMemory
