-- Each reply is a value as they are read back.
use Rattle.std.proofs.Common.{◌≤◌, ℕ, List, Option, None, Some, arith, rules}
use Rattle.rdata_layout.specs.declared.types.RType.{RType}
use Rattle.config_model.specs.declared.refusals.Refusal.{Refusal}
use Rattle.config_model.specs.declared.refusals.Refusal.TheVariants as refusal
use Rattle.json_round_trip.specs.Told.{IsTold}
use Rattle.line_faults.specs.declared.fault.LineFault.{LineFault}
use Rattle.line_faults.specs.declared.fault.LineFault.TheVariants as line
use Rattle.reply_model.specs.Errors.{line_error, refusal_error}
use Rattle.reply_model.specs.Outcomes.{reply_of}
use Rattle.reply_model.specs.declared.outcomes.Outcome.{Outcome}
use Rattle.reply_model.specs.declared.outcomes.Outcome.TheVariants as outcome
use Rattle.reply_reading.specs.Counts.{FaultCounts, HasCounts, RefusalCounts}
use Rattle.serde_json.specs.Data.{Data, depth}
use Rattle.serde_json.specs.Read.{max_depth}

abbrev IsReply : Data → Type 0
IsReply d = IsTold d × (depth d ≤ max_depth)

mixed_policies_told : (name : List (List ℕ)) (rtype : RType) (ident : Option (List ℕ))
    → IsReply (refusal_error (refusal.MixedPolicies (record { name = name; rtype = rtype; ident = ident })))
mixed_policies_told name rtype None = (search (rules, arith), search (rules, arith))
mixed_policies_told name rtype (Some ident) = (search (rules, arith), search (rules, arith))

same_place_told : (name : List (List ℕ)) (rtype : RType) (ident : Option (List ℕ))
    → IsReply (refusal_error (refusal.SamePlace (record { name = name; rtype = rtype; ident = ident })))
same_place_told name rtype None = (search (rules, arith), search (rules, arith))
same_place_told name rtype (Some ident) = (search (rules, arith), search (rules, arith))

alias_target_missing_told : (name : List (List ℕ)) (rtype : RType) (ident : Option (List ℕ))
    → IsReply (refusal_error (refusal.AliasTargetMissing (record { name = name; rtype = rtype; ident = ident })))
alias_target_missing_told name rtype None = (search (rules, arith), search (rules, arith))
alias_target_missing_told name rtype (Some ident) = (search (rules, arith), search (rules, arith))

alias_too_deep_told : (name : List (List ℕ)) (rtype : RType) (ident : Option (List ℕ))
    → IsReply (refusal_error (refusal.AliasTooDeep (record { name = name; rtype = rtype; ident = ident })))
alias_too_deep_told name rtype None = (search (rules, arith), search (rules, arith))
alias_too_deep_told name rtype (Some ident) = (search (rules, arith), search (rules, arith))

refusal_told : (why : Refusal) → RefusalCounts why → IsReply (refusal_error why)
refusal_told refusal.NoSuchHostedZone counts = (search (rules, arith), search (rules, arith))
refusal_told (refusal.InvalidInput None why) counts = (search (rules, arith), search (rules, arith))
refusal_told (refusal.InvalidInput (Some i) why) counts = (search (rules, arith), search (rules, arith))
refusal_told refusal.TooManyValues counts = (search (rules, arith), search (rules, arith))
refusal_told refusal.TooManyCharacters counts = (search (rules, arith), search (rules, arith))
refusal_told (refusal.NotInZone n) counts = (search (rules, arith), search (rules, arith))
refusal_told (refusal.AlreadyExists n) counts = (search (rules, arith), search (rules, arith))
refusal_told (refusal.NotFound n) counts = (search (rules, arith), search (rules, arith))
refusal_told (refusal.ValuesDiffer n) counts = (search (rules, arith), search (rules, arith))
refusal_told (refusal.ApexProtected n) counts = (search (rules, arith), search (rules, arith))
refusal_told (refusal.MixedPolicies key) counts = mixed_policies_told key.name key.rtype key.ident
refusal_told (refusal.CnameConflict name) counts = (search (rules, arith), search (rules, arith))
refusal_told (refusal.SamePlace key) counts = same_place_told key.name key.rtype key.ident
refusal_told (refusal.GroupFull name rtype) counts = (search (rules, arith), search (rules, arith))
refusal_told (refusal.NoSuchHealthCheck id) counts = (search (rules, arith), search (rules, arith))
refusal_told (refusal.AliasTargetMissing key) counts = alias_target_missing_told key.name key.rtype key.ident
refusal_told (refusal.AliasTooDeep key) counts = alias_too_deep_told key.name key.rtype key.ident
refusal_told refusal.ZoneFull counts = (search (rules, arith), search (rules, arith))
refusal_told refusal.StoreFull counts = (search (rules, arith), search (rules, arith))
refusal_told (refusal.JournalFull n) counts = (search (rules, arith), search (rules, arith))
refusal_told refusal.OutOfMemory counts = (search (rules, arith), search (rules, arith))
refusal_told refusal.DiskFault counts = (search (rules, arith), search (rules, arith))
refusal_told refusal.HostedZoneNotEmpty counts = (search (rules, arith), search (rules, arith))
refusal_told (refusal.HealthCheckInUse id) counts = (search (rules, arith), search (rules, arith))
refusal_told refusal.TooManyHealthChecks counts = (search (rules, arith), search (rules, arith))
refusal_told refusal.TooManyHostedZones counts = (search (rules, arith), search (rules, arith))
refusal_told refusal.IdsEnded counts = (search (rules, arith), search (rules, arith))
refusal_told refusal.TooManyCidrCollections counts = (search (rules, arith), search (rules, arith))
refusal_told (refusal.NoSuchCidrCollection id) counts = (search (rules, arith), search (rules, arith))
refusal_told refusal.CidrBlockInUse counts = (search (rules, arith), search (rules, arith))
refusal_told refusal.TooManyCidrBlocks counts = (search (rules, arith), search (rules, arith))
refusal_told refusal.CidrCollectionInUse counts = (search (rules, arith), search (rules, arith))
refusal_told (refusal.CidrLocationInUse location) counts = (search (rules, arith), search (rules, arith))
refusal_told (refusal.NoSuchCidrLocation location) counts = (search (rules, arith), search (rules, arith))

fault_told : (why : LineFault) → FaultCounts why → IsReply (line_error why)
fault_told (line.BadLine why member None) counts = (search (rules, arith), search (rules, arith))
fault_told (line.BadLine why member (Some i)) counts = (search (rules, arith), search (rules, arith))
fault_told (line.Unsupported member None) counts = (search (rules, arith), search (rules, arith))
fault_told (line.Unsupported member (Some i)) counts = (search (rules, arith), search (rules, arith))
fault_told line.OutOfMemory counts = (search (rules, arith), search (rules, arith))

pub reply_told : (o : Outcome) → HasCounts o → IsReply (reply_of o)
unfolding reply_of
reply_told (outcome.Done what) counts = (search (rules, arith), search (rules, arith))
reply_told (outcome.ZoneMade id name) counts = (search (rules, arith), search (rules, arith))
reply_told (outcome.CheckMade id) counts = (search (rules, arith), search (rules, arith))
reply_told (outcome.CollectionMade id) counts = (search (rules, arith), search (rules, arith))
reply_told (outcome.Status healthy passing) counts = (search (rules, arith), search (rules, arith))
reply_told (outcome.Bound ports) counts = (search (rules, arith), search (rules, arith))
reply_told (outcome.Served turns) counts = (search (rules, arith), search (rules, arith))
reply_told (outcome.Left octets) counts = (search (rules, arith), search (rules, arith))
reply_told (outcome.Compacted generation) counts = (search (rules, arith), search (rules, arith))
reply_told (outcome.Refused why) counts = refusal_told why counts
reply_told (outcome.NotRead why) counts = fault_told why counts
reply_told outcome.LineTooLong counts = (search (rules, arith), search (rules, arith))
reply_told outcome.BadChecker counts = (search (rules, arith), search (rules, arith))
reply_told outcome.NotBound counts = (search (rules, arith), search (rules, arith))
reply_told outcome.AlreadyBound counts = (search (rules, arith), search (rules, arith))
reply_told outcome.GenerationsEnded counts = (search (rules, arith), search (rules, arith))
