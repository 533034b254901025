-- Lists of sets, and replies to packets.
use Rattle.std.specs.Prelude.{ℕ, List, [], ◌∷◌, map, true, false, codes, Option, None}
use Rattle.std.specs.Prelude.{Some}
use Rattle.hex.specs.Hex.{encode_lower}
use Rattle.serde_json.specs.Data.{Data, boolean, null, string}
use Rattle.line_faults.specs.declared.member.Member.TheVariants as m
use Rattle.config_model.specs.Sets.{ident_of}
use Rattle.config_model.specs.RecordSetRecord.{RecordSet}
use Rattle.reply_model.specs.Json.{NamedValue, done, list_of, name_text, type_text}
use Rattle.reply_model.specs.Sets.{set_object}

-- the identifier of the next set, where it has one
abbrev pub next_ident : Option (List ℕ) → List NamedValue
next_ident None = []
next_ident (Some ident) = (codes "NextRecordIdentifier", string ident) ∷ []

-- whether the list was cut, and where it would go on
abbrev pub next_fields : Option RecordSet → List NamedValue
next_fields None = (codes "IsTruncated", boolean false) ∷ []
next_fields (Some next) =
    (codes "IsTruncated", boolean true)
    ∷ (codes "NextRecordName", name_text next.name)
    ∷ (codes "NextRecordType", type_text next.rtype)
    ∷ next_ident (ident_of next.routing)

-- The reply to ListResourceRecordSets: these sets of a zone, and the one that comes next.
unfoldable pub list_reply : (zone : ℕ) → List RecordSet → (next : Option RecordSet) → Data
list_reply zone sets next =
    done m.ListResourceRecordSets
    ((codes "ResourceRecordSets", list_of (map (set_object zone) sets)) ∷ next_fields next)

-- octets in hexadecimal digits, or null where there is no reply
abbrev pub packet_text : Option (List ℕ) → Data
packet_text None = null
packet_text (Some octets) = string (encode_lower octets)

-- The reply to Query.
unfoldable pub query_reply : (answer : Option (List ℕ)) → Data
query_reply answer = done m.Query ((codes "Reply", packet_text answer) ∷ [])
