-- The numbers of outcomes have at most 64 bits.
use Rattle.std.specs.Prelude.{ℕ, ◌^◌, ◌<◌, Option, None, Some, ⊤}
use Rattle.config_model.specs.declared.refusals.Refusal.{Refusal}
use Rattle.config_model.specs.declared.refusals.Refusal.TheVariants as refusal
use Rattle.line_faults.specs.declared.fault.LineFault.{LineFault}
use Rattle.line_faults.specs.declared.fault.LineFault.TheVariants as line
use Rattle.reply_model.specs.declared.outcomes.Outcome.{Outcome}
use Rattle.reply_model.specs.declared.outcomes.Outcome.TheVariants as outcome

abbrev pub Is64Bits : ℕ → Type 0
Is64Bits n = n < 2 ^ 64

abbrev pub IfCount : Option ℕ → Type 0
IfCount None = ⊤
IfCount (Some n) = Is64Bits n

abbrev pub RefusalCounts : Refusal → Type 0
RefusalCounts refusal.NoSuchHostedZone = ⊤
RefusalCounts (refusal.InvalidInput change why) = IfCount change
RefusalCounts refusal.TooManyValues = ⊤
RefusalCounts refusal.TooManyCharacters = ⊤
RefusalCounts (refusal.NotInZone n) = Is64Bits n
RefusalCounts (refusal.AlreadyExists n) = Is64Bits n
RefusalCounts (refusal.NotFound n) = Is64Bits n
RefusalCounts (refusal.ValuesDiffer n) = Is64Bits n
RefusalCounts (refusal.ApexProtected n) = Is64Bits n
RefusalCounts (refusal.MixedPolicies key) = ⊤
RefusalCounts (refusal.CnameConflict name) = ⊤
RefusalCounts (refusal.SamePlace key) = ⊤
RefusalCounts (refusal.GroupFull name rtype) = ⊤
RefusalCounts (refusal.NoSuchHealthCheck id) = ⊤
RefusalCounts (refusal.AliasTargetMissing key) = ⊤
RefusalCounts (refusal.AliasTooDeep key) = ⊤
RefusalCounts refusal.ZoneFull = ⊤
RefusalCounts refusal.StoreFull = ⊤
RefusalCounts (refusal.JournalFull n) = Is64Bits n
RefusalCounts refusal.OutOfMemory = ⊤
RefusalCounts refusal.DiskFault = ⊤
RefusalCounts refusal.HostedZoneNotEmpty = ⊤
RefusalCounts (refusal.HealthCheckInUse id) = ⊤
RefusalCounts refusal.TooManyHealthChecks = ⊤
RefusalCounts refusal.TooManyHostedZones = ⊤
RefusalCounts refusal.IdsEnded = ⊤
RefusalCounts refusal.TooManyCidrCollections = ⊤
RefusalCounts (refusal.NoSuchCidrCollection id) = ⊤
RefusalCounts refusal.CidrBlockInUse = ⊤
RefusalCounts refusal.TooManyCidrBlocks = ⊤
RefusalCounts refusal.CidrCollectionInUse = ⊤
RefusalCounts (refusal.CidrLocationInUse location) = ⊤
RefusalCounts (refusal.NoSuchCidrLocation location) = ⊤

abbrev pub FaultCounts : LineFault → Type 0
FaultCounts (line.BadLine why member change) = IfCount change
FaultCounts (line.Unsupported member change) = IfCount change
FaultCounts line.OutOfMemory = ⊤

abbrev pub HasCounts : Outcome → Type 0
HasCounts (outcome.Done what) = ⊤
HasCounts (outcome.ZoneMade id name) = ⊤
HasCounts (outcome.CheckMade id) = ⊤
HasCounts (outcome.CollectionMade id) = ⊤
HasCounts (outcome.Status healthy passing) = Is64Bits passing
HasCounts (outcome.Bound ports) = Is64Bits ports.queries × Is64Bits ports.reports
HasCounts (outcome.Served turns) =
    Is64Bits turns.answered × Is64Bits turns.quiet × Is64Bits turns.reports × Is64Bits turns.silent
    × Is64Bits turns.turns × Is64Bits turns.unknown
HasCounts (outcome.Left octets) = Is64Bits octets
HasCounts (outcome.Compacted generation) = Is64Bits generation
HasCounts (outcome.Refused why) = RefusalCounts why
HasCounts (outcome.NotRead why) = FaultCounts why
HasCounts outcome.LineTooLong = ⊤
HasCounts outcome.BadChecker = ⊤
HasCounts outcome.NotBound = ⊤
HasCounts outcome.AlreadyBound = ⊤
HasCounts outcome.GenerationsEnded = ⊤
