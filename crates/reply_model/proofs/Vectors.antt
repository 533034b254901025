-- Reply lines, byte by byte, as docs/FORMATS.md tells them.
use Rattle.std.proofs.Common.{◌≡◌, ℕ, List, [], ◌∷◌, ◌++◌, true, false, None, Some, refl}
use Rattle.std.specs.Prelude.{codes}
use Rattle.std.specs.Fmt.{digits}
use Rattle.json.specs.Print.{escape_byte}
use Rattle.config_model.specs.declared.refusals.InputReason.TheVariants.{ChildTooDeep}
use Rattle.config_model.specs.declared.refusals.Refusal.TheVariants as refusal
use Rattle.line_faults.specs.declared.fault.LineFault.TheVariants.{BadLine, Unsupported}
use Rattle.line_faults.specs.declared.fault.LineReason.TheVariants.{UnknownLine}
use Rattle.line_faults.specs.declared.member.Member.TheVariants as m
use Rattle.config_model.specs.RTypeRecord.TheVariants.{A}
use Rattle.config_model.specs.BodyRecord.TheVariants.{Alias}
use Rattle.config_model.specs.RecordSetRecord.{RecordSet}
use Rattle.routing.specs.declared.policies.Place.TheVariants.{Subdivision}
use Rattle.routing.specs.declared.policies.Routing.TheVariants.{Geolocation}
use Rattle.reply_model.specs.Json.{line_of}
use Rattle.reply_model.specs.Lists.{list_reply, query_reply}
use Rattle.reply_model.specs.Outcomes.{reply_of, text_of}
use Rattle.reply_model.specs.declared.outcomes.Outcome.TheVariants as outcome

abbrev example : List (List ℕ)
example = codes "example" ∷ codes "com" ∷ []

pub zone_made : text_of (outcome.ZoneMade 1 example)
    ≡ (codes "{\"HostedZone\":{\"Id\":\"Z1\",\"Name\":\"example.com.\"},\"Ok\":\"Cre"
    ++ codes "ateHostedZone\"}\n")
unfolding line_of reply_of escape_byte digits
zone_made = refl

pub done : text_of (outcome.Done m.ChangeResourceRecordSets)
    ≡ codes "{\"Ok\":\"ChangeResourceRecordSets\"}\n"
unfolding line_of reply_of escape_byte digits
done = refl

pub check_made : text_of (outcome.CheckMade 1)
    ≡ codes "{\"HealthCheck\":{\"Id\":\"h1\"},\"Ok\":\"CreateHealthCheck\"}\n"
unfolding line_of reply_of escape_byte digits
check_made = refl

pub collection_made : text_of (outcome.CollectionMade 1)
    ≡ codes "{\"Collection\":{\"Id\":\"c1\"},\"Ok\":\"CreateCidrCollection\"}\n"
unfolding line_of reply_of escape_byte digits
collection_made = refl

pub healthy : text_of (outcome.Status true 10)
    ≡ codes "{\"Healthy\":true,\"Ok\":\"GetHealthCheckStatus\",\"Passing\":10}\n"
unfolding line_of reply_of escape_byte digits
healthy = refl

pub bound : text_of (outcome.Bound (record { queries = 53; reports = 54 }))
    ≡ codes "{\"Ok\":\"Bind\",\"QueryPort\":53,\"ReportPort\":54}\n"
unfolding line_of reply_of escape_byte digits
bound = refl

pub served : text_of (outcome.Served (record {
  turns = 3;
  answered = 1;
  silent = 0;
  reports = 1;
  unknown = 1;
  quiet = 0;
}))
    ≡ (codes "{\"Answered\":1,\"Ok\":\"Serve\",\"Quiet\":0,\"Reports\":1,\"Silent\":"
    ++ codes "0,\"Turns\":3,\"Unknown\":1}\n")
unfolding line_of reply_of escape_byte digits
served = refl

pub left : text_of (outcome.Left 34)
    ≡ codes "{\"Left\":34,\"Ok\":\"Compact\"}\n"
unfolding line_of reply_of escape_byte digits
left = refl

pub compacted : text_of (outcome.Compacted 2)
    ≡ codes "{\"Generation\":2,\"Ok\":\"Compact\"}\n"
unfolding line_of reply_of escape_byte digits
compacted = refl

pub exists : text_of (outcome.Refused (refusal.AlreadyExists 2))
    ≡ codes "{\"Change\":2,\"Error\":\"AlreadyExists\",\"Number\":6}\n"
unfolding line_of reply_of escape_byte digits
exists = refl

pub too_many : text_of (outcome.Refused refusal.TooManyValues)
    ≡ codes "{\"Error\":\"TooManyValues\",\"Number\":3}\n"
unfolding line_of reply_of escape_byte digits
too_many = refl

pub in_use : text_of (outcome.Refused (refusal.HealthCheckInUse 1))
    ≡ codes "{\"Error\":\"HealthCheckInUse\",\"HealthCheckId\":\"h1\",\"Number\":23}\n"
unfolding line_of reply_of escape_byte digits
in_use = refl

pub too_deep : text_of (outcome.Refused (refusal.AliasTooDeep
    (record { name = codes "c17" ∷ example; rtype = A; ident = None })))
    ≡ (codes "{\"Error\":\"AliasTooDeep\",\"Name\":\"c17.example.com.\",\"Number\":1"
    ++ codes "6,\"Type\":\"A\"}\n")
unfolding line_of reply_of escape_byte digits
too_deep = refl

pub nested : text_of (outcome.Refused (refusal.InvalidInput None ChildTooDeep))
    ≡ codes "{\"Error\":\"InvalidInput\",\"Number\":2,\"Reason\":\"ChildTooDeep\"}\n"
unfolding line_of reply_of escape_byte digits
nested = refl

pub location_in_use : text_of (outcome.Refused (refusal.CidrLocationInUse (codes "office")))
    ≡ codes "{\"Error\":\"CidrLocationInUse\",\"LocationName\":\"office\",\"Number\":47}\n"
unfolding line_of reply_of escape_byte digits
location_in_use = refl

pub unknown_line : text_of (outcome.NotRead (BadLine UnknownLine m.Line None))
    ≡ codes "{\"Error\":\"BadLine\",\"Member\":\"\",\"Number\":30,\"Reason\":\"UnknownLine\"}\n"
unfolding line_of reply_of escape_byte digits
unknown_line = refl

pub unsupported : text_of (outcome.NotRead (Unsupported m.«Type» (Some 0)))
    ≡ codes "{\"Change\":0,\"Error\":\"Unsupported\",\"Member\":\"Type\",\"Number\":31}\n"
unfolding line_of reply_of escape_byte digits
unsupported = refl

pub too_long : text_of outcome.LineTooLong
    ≡ codes "{\"Error\":\"LineTooLong\",\"Number\":32}\n"
unfolding line_of reply_of escape_byte digits
too_long = refl

pub ended : text_of outcome.GenerationsEnded
    ≡ codes "{\"Error\":\"GenerationsEnded\",\"Number\":36}\n"
unfolding line_of reply_of escape_byte digits
ended = refl

-- A packet that gets no reply.
pub silent : line_of (query_reply None) ≡ codes "{\"Ok\":\"Query\",\"Reply\":null}\n"
unfolding line_of query_reply escape_byte
silent = refl

-- A list of one set, which is not the last of its zone.
abbrev alias : RecordSet
alias = record {
  name = codes "*" ∷ example;
  rtype = A;
  routing = Geolocation (codes "a b") (Subdivision (codes "US") (codes "TX"));
  body = Alias (codes "t" ∷ example) false;
  check = Some 7;
}

pub listed : line_of (list_reply 1 (alias ∷ []) (Some alias))
    ≡ (codes "{\"IsTruncated\":true,\"NextRecordIdentifier\":\"a b\","
    ++ codes "\"NextRecordName\":\"\\\\052.example.com.\",\"NextRecordType\":\"A\","
    ++ codes "\"Ok\":\"ListResourceRecordSets\",\"ResourceRecordSets\":["
    ++ codes "{\"AliasTarget\":{\"DNSName\":\"t.example.com.\",\"EvaluateTargetHealth\":false,"
    ++ codes "\"HostedZoneId\":\"Z1\"},"
    ++ codes "\"GeoLocation\":{\"CountryCode\":\"US\",\"SubdivisionCode\":\"TX\"},"
    ++ codes "\"HealthCheckId\":\"h7\",\"Name\":\"\\\\052.example.com.\","
    ++ codes "\"SetIdentifier\":\"a b\",\"Type\":\"A\"}]}\n")
unfolding line_of list_reply escape_byte digits
listed = refl
