-- Errors: a name, a number, and what else is told of each (FORMATS, Replies).
use Rattle.std.specs.Prelude.{ℕ, List, [], ◌∷◌, ◌++◌, codes, Option, None, Some}
use Rattle.serde_json.specs.Data.{Data, string}
use Rattle.config_model.specs.declared.refusals.InputReason.{InputReason}
use Rattle.config_model.specs.declared.refusals.InputReason.TheVariants as input
use Rattle.config_model.specs.declared.refusals.Refusal.{Refusal}
use Rattle.config_model.specs.declared.refusals.Refusal.TheVariants as refusal
use Rattle.line_faults.specs.Texts.{reason_text, text_of}
use Rattle.line_faults.specs.declared.fault.LineFault.{LineFault}
use Rattle.line_faults.specs.declared.fault.LineFault.TheVariants as line
use Rattle.line_faults.specs.declared.member.Member.TheVariants as m
use Rattle.config_model.specs.ReasonRecord.{Reason}
use Rattle.config_model.specs.ReasonRecord.TheVariants as reason
use Rattle.config_model.specs.SetKeyRecord.{SetKey}
use Rattle.reply_model.specs.Json.{NamedValue, check_text, collection_text, count, field, name_text}
use Rattle.reply_model.specs.Json.{object_of, type_text}
use Rattle.reply_model.specs.Sets.{ident_fields}

abbrev pub error : (name : List ℕ) → (number : ℕ) → List NamedValue → Data
error name number fields =
    object_of ((codes "Error", string name) ∷ (codes "Number", count number) ∷ fields)

-- ---- what is told

abbrev pub in_change : ℕ → List NamedValue
in_change i = (codes "Change", count i) ∷ []

abbrev pub if_in_change : Option ℕ → List NamedValue
if_in_change None = []
if_in_change (Some i) = in_change i

abbrev pub told_name : (name : List (List ℕ)) → List NamedValue
told_name name = field m.Name (name_text name) ∷ []

abbrev pub told_key : SetKey → List NamedValue
told_key key =
    field m.Name (name_text key.name) ∷ field m.«Type» (type_text key.rtype)
    ∷ ident_fields key.ident

abbrev pub told_check : ℕ → List NamedValue
told_check id = field m.HealthCheckId (check_text id) ∷ []

abbrev pub told_location : (name : List ℕ) → List NamedValue
told_location name = field m.LocationName (string name) ∷ []

abbrev pub told_reason : List ℕ → List NamedValue
told_reason why = (codes "Reason", string why) ∷ []

-- ---- reasons

abbrev pub set_reason : Reason → List ℕ
set_reason reason.NoValues = codes "NoValues"
set_reason reason.TooManyValuesInSet = codes "TooManyValuesInSet"
set_reason reason.RepeatedValue = codes "RepeatedValue"
set_reason reason.OneValueOnly = codes "OneValueOnly"
set_reason reason.SoaNotAtApex = codes "SoaNotAtApex"
set_reason reason.PolicyNotAllowed = codes "PolicyNotAllowed"
set_reason reason.WildcardNs = codes "WildcardNs"

abbrev pub input_reason : InputReason → List ℕ
input_reason input.EmptyBatch = codes "EmptyBatch"
input_reason (input.Set why) = set_reason why
input_reason input.BadZoneName = codes "BadZoneName"
input_reason input.RepeatedValue = codes "RepeatedValue"
input_reason input.ZoneExists = codes "ZoneExists"
input_reason input.ChildRepeated = codes "ChildRepeated"
input_reason input.ChildTooDeep = codes "ChildTooDeep"
input_reason input.WrongMember = codes "WrongMember"
input_reason input.CollectionExists = codes "CollectionExists"
input_reason input.BlockLength = codes "BlockLength"

-- ---- refusals of commands

-- Number 21 is never written: a fault of a device ends the run.
abbrev pub refusal_error : Refusal → Data
refusal_error refusal.NoSuchHostedZone = error (codes "NoSuchHostedZone") 1 []
refusal_error (refusal.InvalidInput change why) =
    error (codes "InvalidInput") 2 (told_reason (input_reason why) ++ if_in_change change)
refusal_error refusal.TooManyValues = error (codes "TooManyValues") 3 []
refusal_error refusal.TooManyCharacters = error (codes "TooManyCharacters") 4 []
refusal_error (refusal.NotInZone i) = error (codes "NotInZone") 5 (in_change i)
refusal_error (refusal.AlreadyExists i) = error (codes "AlreadyExists") 6 (in_change i)
refusal_error (refusal.NotFound i) = error (codes "NotFound") 7 (in_change i)
refusal_error (refusal.ValuesDiffer i) = error (codes "ValuesDiffer") 8 (in_change i)
refusal_error (refusal.ApexProtected i) = error (codes "ApexProtected") 9 (in_change i)
refusal_error (refusal.MixedPolicies key) = error (codes "MixedPolicies") 10 (told_key key)
refusal_error (refusal.CnameConflict name) = error (codes "CnameConflict") 11 (told_name name)
refusal_error (refusal.SamePlace key) = error (codes "SamePlace") 12 (told_key key)
refusal_error (refusal.GroupFull name rtype) =
    error (codes "GroupFull") 13 (told_key (record { name = name; rtype = rtype; ident = None }))
refusal_error (refusal.NoSuchHealthCheck id) =
    error (codes "NoSuchHealthCheck") 14 (told_check id)
refusal_error (refusal.AliasTargetMissing key) =
    error (codes "AliasTargetMissing") 15 (told_key key)
refusal_error (refusal.AliasTooDeep key) = error (codes "AliasTooDeep") 16 (told_key key)
refusal_error refusal.ZoneFull = error (codes "ZoneFull") 17 []
refusal_error refusal.StoreFull = error (codes "StoreFull") 18 []
refusal_error (refusal.JournalFull length) =
    error (codes "JournalFull") 19 ((codes "Length", count length) ∷ [])
refusal_error refusal.OutOfMemory = error (codes "OutOfMemory") 20 []
refusal_error refusal.DiskFault = error (codes "DiskFault") 21 []
refusal_error refusal.HostedZoneNotEmpty = error (codes "HostedZoneNotEmpty") 22 []
refusal_error (refusal.HealthCheckInUse id) =
    error (codes "HealthCheckInUse") 23 (told_check id)
refusal_error refusal.TooManyHealthChecks = error (codes "TooManyHealthChecks") 24 []
refusal_error refusal.TooManyHostedZones = error (codes "TooManyHostedZones") 25 []
refusal_error refusal.IdsEnded = error (codes "IdsEnded") 26 []
refusal_error refusal.TooManyCidrCollections = error (codes "TooManyCidrCollections") 42 []
refusal_error (refusal.NoSuchCidrCollection id) =
    error (codes "NoSuchCidrCollection") 43 (field m.CollectionId (collection_text id) ∷ [])
refusal_error refusal.CidrBlockInUse = error (codes "CidrBlockInUse") 44 []
refusal_error refusal.TooManyCidrBlocks = error (codes "TooManyCidrBlocks") 45 []
refusal_error refusal.CidrCollectionInUse = error (codes "CidrCollectionInUse") 46 []
refusal_error (refusal.CidrLocationInUse location) =
    error (codes "CidrLocationInUse") 47 (told_location location)
refusal_error (refusal.NoSuchCidrLocation location) =
    error (codes "NoSuchCidrLocation") 48 (told_location location)

-- ---- lines that were not read

abbrev pub line_error : LineFault → Data
line_error (line.BadLine why member change) =
    error (codes "BadLine") 30
    ((codes "Member", string (text_of member)) ∷ (told_reason (reason_text why)
    ++ if_in_change change))
line_error (line.Unsupported member change) =
    error (codes "Unsupported") 31 ((codes "Member", string (text_of member)) ∷ if_in_change change)
line_error line.OutOfMemory = error (codes "OutOfMemory") 20 []
