-- Each error, byte by byte, as docs/FORMATS.md tells it.
use Rattle.std.proofs.Common.{◌≡◌, ℕ, List, [], ◌∷◌, ◌++◌, None, Some, refl}
use Rattle.std.specs.Prelude.{codes}
use Rattle.std.specs.Fmt.{digits}
use Rattle.json.specs.Print.{escape_byte}
use Rattle.config_model.specs.declared.refusals.InputReason.TheVariants as input
use Rattle.config_model.specs.declared.refusals.Refusal.{Refusal}
use Rattle.config_model.specs.declared.refusals.Refusal.TheVariants as refusal
use Rattle.config_model.specs.RTypeRecord.TheVariants.{A}
use Rattle.config_model.specs.ReasonRecord.TheVariants as reason
use Rattle.config_model.specs.SetKeyRecord.{SetKey}
use Rattle.reply_model.specs.Json.{line_of}
use Rattle.reply_model.specs.Outcomes.{reply_of, text_of}
use Rattle.reply_model.specs.declared.outcomes.Outcome.TheVariants as outcome

abbrev www : List (List ℕ)
www = codes "www" ∷ codes "example" ∷ codes "com" ∷ []

abbrev key : SetKey
key = record { name = www; rtype = A; ident = Some (codes "a") }

-- the key of a set without an identifier
abbrev bare_key : SetKey
bare_key = record { name = www; rtype = A; ident = None }

abbrev told : Refusal → List ℕ
told why = text_of (outcome.Refused why)

pub no_zone : told refusal.NoSuchHostedZone
    ≡ codes "{\"Error\":\"NoSuchHostedZone\",\"Number\":1}\n"
unfolding line_of reply_of escape_byte digits
no_zone = refl

pub no_values : told (refusal.InvalidInput (Some 3) (input.Set reason.NoValues))
    ≡ (codes "{\"Change\":3,\"Error\":\"InvalidInput\",\"Number\":2,\"Reason\":"
    ++ codes "\"NoValues\"}\n")
unfolding line_of reply_of escape_byte digits
no_values = refl

pub too_many_in_set : told (refusal.InvalidInput (Some 3) (input.Set reason.TooManyValuesInSet))
    ≡ (codes "{\"Change\":3,\"Error\":\"InvalidInput\",\"Number\":2,\"Reason\":"
    ++ codes "\"TooManyValuesInSet\"}\n")
unfolding line_of reply_of escape_byte digits
too_many_in_set = refl

pub repeated_in_set : told (refusal.InvalidInput (Some 3) (input.Set reason.RepeatedValue))
    ≡ (codes "{\"Change\":3,\"Error\":\"InvalidInput\",\"Number\":2,\"Reason\":"
    ++ codes "\"RepeatedValue\"}\n")
unfolding line_of reply_of escape_byte digits
repeated_in_set = refl

pub one_only : told (refusal.InvalidInput (Some 3) (input.Set reason.OneValueOnly))
    ≡ (codes "{\"Change\":3,\"Error\":\"InvalidInput\",\"Number\":2,\"Reason\":"
    ++ codes "\"OneValueOnly\"}\n")
unfolding line_of reply_of escape_byte digits
one_only = refl

pub soa_off_apex : told (refusal.InvalidInput (Some 3) (input.Set reason.SoaNotAtApex))
    ≡ (codes "{\"Change\":3,\"Error\":\"InvalidInput\",\"Number\":2,\"Reason\":"
    ++ codes "\"SoaNotAtApex\"}\n")
unfolding line_of reply_of escape_byte digits
soa_off_apex = refl

pub no_policy : told (refusal.InvalidInput (Some 3) (input.Set reason.PolicyNotAllowed))
    ≡ (codes "{\"Change\":3,\"Error\":\"InvalidInput\",\"Number\":2,\"Reason\":"
    ++ codes "\"PolicyNotAllowed\"}\n")
unfolding line_of reply_of escape_byte digits
no_policy = refl

pub wildcard_ns : told (refusal.InvalidInput (Some 3) (input.Set reason.WildcardNs))
    ≡ (codes "{\"Change\":3,\"Error\":\"InvalidInput\",\"Number\":2,\"Reason\":"
    ++ codes "\"WildcardNs\"}\n")
unfolding line_of reply_of escape_byte digits
wildcard_ns = refl

pub empty_batch : told (refusal.InvalidInput None input.EmptyBatch)
    ≡ (codes "{\"Error\":\"InvalidInput\",\"Number\":2,\"Reason\":\"EmptyBatch\""
    ++ codes "}\n")
unfolding line_of reply_of escape_byte digits
empty_batch = refl

pub bad_zone_name : told (refusal.InvalidInput None input.BadZoneName)
    ≡ (codes "{\"Error\":\"InvalidInput\",\"Number\":2,\"Reason\":\"BadZoneName"
    ++ codes "\"}\n")
unfolding line_of reply_of escape_byte digits
bad_zone_name = refl

pub repeated_server : told (refusal.InvalidInput None input.RepeatedValue)
    ≡ (codes "{\"Error\":\"InvalidInput\",\"Number\":2,\"Reason\":\"RepeatedValu"
    ++ codes "e\"}\n")
unfolding line_of reply_of escape_byte digits
repeated_server = refl

pub zone_there : told (refusal.InvalidInput None input.ZoneExists)
    ≡ (codes "{\"Error\":\"InvalidInput\",\"Number\":2,\"Reason\":\"ZoneExists\""
    ++ codes "}\n")
unfolding line_of reply_of escape_byte digits
zone_there = refl

pub child_repeated : told (refusal.InvalidInput None input.ChildRepeated)
    ≡ (codes "{\"Error\":\"InvalidInput\",\"Number\":2,\"Reason\":\"ChildRepeate"
    ++ codes "d\"}\n")
unfolding line_of reply_of escape_byte digits
child_repeated = refl

pub child_too_deep : told (refusal.InvalidInput None input.ChildTooDeep)
    ≡ (codes "{\"Error\":\"InvalidInput\",\"Number\":2,\"Reason\":\"ChildTooDeep"
    ++ codes "\"}\n")
unfolding line_of reply_of escape_byte digits
child_too_deep = refl

pub wrong_member : told (refusal.InvalidInput None input.WrongMember)
    ≡ (codes "{\"Error\":\"InvalidInput\",\"Number\":2,\"Reason\":\"WrongMember"
    ++ codes "\"}\n")
unfolding line_of reply_of escape_byte digits
wrong_member = refl

pub collection_there : told (refusal.InvalidInput None input.CollectionExists)
    ≡ (codes "{\"Error\":\"InvalidInput\",\"Number\":2,\"Reason\":\"CollectionEx"
    ++ codes "ists\"}\n")
unfolding line_of reply_of escape_byte digits
collection_there = refl

pub block_length : told (refusal.InvalidInput None input.BlockLength)
    ≡ (codes "{\"Error\":\"InvalidInput\",\"Number\":2,\"Reason\":\"BlockLength"
    ++ codes "\"}\n")
unfolding line_of reply_of escape_byte digits
block_length = refl

pub too_many_values : told refusal.TooManyValues
    ≡ codes "{\"Error\":\"TooManyValues\",\"Number\":3}\n"
unfolding line_of reply_of escape_byte digits
too_many_values = refl

pub too_many_characters : told refusal.TooManyCharacters
    ≡ codes "{\"Error\":\"TooManyCharacters\",\"Number\":4}\n"
unfolding line_of reply_of escape_byte digits
too_many_characters = refl

pub not_in_zone : told (refusal.NotInZone 2)
    ≡ codes "{\"Change\":2,\"Error\":\"NotInZone\",\"Number\":5}\n"
unfolding line_of reply_of escape_byte digits
not_in_zone = refl

pub already_there : told (refusal.AlreadyExists 2)
    ≡ codes "{\"Change\":2,\"Error\":\"AlreadyExists\",\"Number\":6}\n"
unfolding line_of reply_of escape_byte digits
already_there = refl

pub not_there : told (refusal.NotFound 2)
    ≡ codes "{\"Change\":2,\"Error\":\"NotFound\",\"Number\":7}\n"
unfolding line_of reply_of escape_byte digits
not_there = refl

pub differ : told (refusal.ValuesDiffer 2)
    ≡ codes "{\"Change\":2,\"Error\":\"ValuesDiffer\",\"Number\":8}\n"
unfolding line_of reply_of escape_byte digits
differ = refl

pub protected : told (refusal.ApexProtected 2)
    ≡ codes "{\"Change\":2,\"Error\":\"ApexProtected\",\"Number\":9}\n"
unfolding line_of reply_of escape_byte digits
protected = refl

pub mixed : told (refusal.MixedPolicies key)
    ≡ (codes "{\"Error\":\"MixedPolicies\",\"Name\":\"www.example.com.\",\"Numbe"
    ++ codes "r\":10,\"SetIdentifier\":\"a\",\"Type\":\"A\"}\n")
unfolding line_of reply_of escape_byte digits
mixed = refl

pub mixed_bare : told (refusal.MixedPolicies bare_key)
    ≡ (codes "{\"Error\":\"MixedPolicies\",\"Name\":\"www.example.com.\",\"Numbe"
    ++ codes "r\":10,\"Type\":\"A\"}\n")
unfolding line_of reply_of escape_byte digits
mixed_bare = refl

pub same_place : told (refusal.SamePlace key)
    ≡ (codes "{\"Error\":\"SamePlace\",\"Name\":\"www.example.com.\",\"Number\":"
    ++ codes "12,\"SetIdentifier\":\"a\",\"Type\":\"A\"}\n")
unfolding line_of reply_of escape_byte digits
same_place = refl

pub same_place_bare : told (refusal.SamePlace bare_key)
    ≡ (codes "{\"Error\":\"SamePlace\",\"Name\":\"www.example.com.\",\"Number\":"
    ++ codes "12,\"Type\":\"A\"}\n")
unfolding line_of reply_of escape_byte digits
same_place_bare = refl

pub no_target : told (refusal.AliasTargetMissing key)
    ≡ (codes "{\"Error\":\"AliasTargetMissing\",\"Name\":\"www.example.com.\",\""
    ++ codes "Number\":15,\"SetIdentifier\":\"a\",\"Type\":\"A\"}\n")
unfolding line_of reply_of escape_byte digits
no_target = refl

pub no_target_bare : told (refusal.AliasTargetMissing bare_key)
    ≡ (codes "{\"Error\":\"AliasTargetMissing\",\"Name\":\"www.example.com.\",\""
    ++ codes "Number\":15,\"Type\":\"A\"}\n")
unfolding line_of reply_of escape_byte digits
no_target_bare = refl

pub too_deep : told (refusal.AliasTooDeep key)
    ≡ (codes "{\"Error\":\"AliasTooDeep\",\"Name\":\"www.example.com.\",\"Number"
    ++ codes "\":16,\"SetIdentifier\":\"a\",\"Type\":\"A\"}\n")
unfolding line_of reply_of escape_byte digits
too_deep = refl

pub too_deep_bare : told (refusal.AliasTooDeep bare_key)
    ≡ (codes "{\"Error\":\"AliasTooDeep\",\"Name\":\"www.example.com.\",\"Number"
    ++ codes "\":16,\"Type\":\"A\"}\n")
unfolding line_of reply_of escape_byte digits
too_deep_bare = refl

pub cname : told (refusal.CnameConflict www)
    ≡ (codes "{\"Error\":\"CnameConflict\",\"Name\":\"www.example.com.\",\"Numbe"
    ++ codes "r\":11}\n")
unfolding line_of reply_of escape_byte digits
cname = refl

pub group_full : told (refusal.GroupFull www A)
    ≡ (codes "{\"Error\":\"GroupFull\",\"Name\":\"www.example.com.\",\"Number\":"
    ++ codes "13,\"Type\":\"A\"}\n")
unfolding line_of reply_of escape_byte digits
group_full = refl

pub no_check : told (refusal.NoSuchHealthCheck 7)
    ≡ (codes "{\"Error\":\"NoSuchHealthCheck\",\"HealthCheckId\":\"h7\",\"Number"
    ++ codes "\":14}\n")
unfolding line_of reply_of escape_byte digits
no_check = refl

pub zone_full : told refusal.ZoneFull
    ≡ codes "{\"Error\":\"ZoneFull\",\"Number\":17}\n"
unfolding line_of reply_of escape_byte digits
zone_full = refl

pub store_full : told refusal.StoreFull
    ≡ codes "{\"Error\":\"StoreFull\",\"Number\":18}\n"
unfolding line_of reply_of escape_byte digits
store_full = refl

pub journal_full : told (refusal.JournalFull 1073741824)
    ≡ codes "{\"Error\":\"JournalFull\",\"Length\":1073741824,\"Number\":19}\n"
unfolding line_of reply_of escape_byte digits
journal_full = refl

pub no_memory : told refusal.OutOfMemory
    ≡ codes "{\"Error\":\"OutOfMemory\",\"Number\":20}\n"
unfolding line_of reply_of escape_byte digits
no_memory = refl

pub not_empty : told refusal.HostedZoneNotEmpty
    ≡ codes "{\"Error\":\"HostedZoneNotEmpty\",\"Number\":22}\n"
unfolding line_of reply_of escape_byte digits
not_empty = refl

pub check_in_use : told (refusal.HealthCheckInUse 7)
    ≡ (codes "{\"Error\":\"HealthCheckInUse\",\"HealthCheckId\":\"h7\",\"Number"
    ++ codes "\":23}\n")
unfolding line_of reply_of escape_byte digits
check_in_use = refl

pub many_checks : told refusal.TooManyHealthChecks
    ≡ codes "{\"Error\":\"TooManyHealthChecks\",\"Number\":24}\n"
unfolding line_of reply_of escape_byte digits
many_checks = refl

pub many_zones : told refusal.TooManyHostedZones
    ≡ codes "{\"Error\":\"TooManyHostedZones\",\"Number\":25}\n"
unfolding line_of reply_of escape_byte digits
many_zones = refl

pub ids_ended : told refusal.IdsEnded
    ≡ codes "{\"Error\":\"IdsEnded\",\"Number\":26}\n"
unfolding line_of reply_of escape_byte digits
ids_ended = refl

pub many_collections : told refusal.TooManyCidrCollections
    ≡ codes "{\"Error\":\"TooManyCidrCollections\",\"Number\":42}\n"
unfolding line_of reply_of escape_byte digits
many_collections = refl

pub no_collection : told (refusal.NoSuchCidrCollection 4)
    ≡ (codes "{\"CollectionId\":\"c4\",\"Error\":\"NoSuchCidrCollection\",\"Numb"
    ++ codes "er\":43}\n")
unfolding line_of reply_of escape_byte digits
no_collection = refl

pub block_in_use : told refusal.CidrBlockInUse
    ≡ codes "{\"Error\":\"CidrBlockInUse\",\"Number\":44}\n"
unfolding line_of reply_of escape_byte digits
block_in_use = refl

pub many_blocks : told refusal.TooManyCidrBlocks
    ≡ codes "{\"Error\":\"TooManyCidrBlocks\",\"Number\":45}\n"
unfolding line_of reply_of escape_byte digits
many_blocks = refl

pub collection_in_use : told refusal.CidrCollectionInUse
    ≡ codes "{\"Error\":\"CidrCollectionInUse\",\"Number\":46}\n"
unfolding line_of reply_of escape_byte digits
collection_in_use = refl

pub location_in_use : told (refusal.CidrLocationInUse (codes "office"))
    ≡ (codes "{\"Error\":\"CidrLocationInUse\",\"LocationName\":\"office\",\"Num"
    ++ codes "ber\":47}\n")
unfolding line_of reply_of escape_byte digits
location_in_use = refl

pub no_location : told (refusal.NoSuchCidrLocation (codes "office"))
    ≡ (codes "{\"Error\":\"NoSuchCidrLocation\",\"LocationName\":\"office\",\"Nu"
    ++ codes "mber\":48}\n")
unfolding line_of reply_of escape_byte digits
no_location = refl

pub bad_checker : text_of outcome.BadChecker
    ≡ codes "{\"Error\":\"BadChecker\",\"Number\":33}\n"
unfolding line_of reply_of escape_byte digits
bad_checker = refl

pub not_bound : text_of outcome.NotBound
    ≡ codes "{\"Error\":\"NotBound\",\"Number\":34}\n"
unfolding line_of reply_of escape_byte digits
not_bound = refl

pub already_bound : text_of outcome.AlreadyBound
    ≡ codes "{\"Error\":\"AlreadyBound\",\"Number\":35}\n"
unfolding line_of reply_of escape_byte digits
already_bound = refl
