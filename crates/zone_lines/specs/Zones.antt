-- The lines on hosted zones: CreateHostedZone, DeleteHostedZone and ListResourceRecordSets.
use Rattle.std.specs.Prelude.{ℕ, ◌+◌, ◌*◌, ◌-◌, List, [], ◌∷◌, codes, ◌&&◌, nat_le, nat_lt}
use Rattle.std.specs.Prelude.{is_some, not, if◌then◌else◌, Option, None, Some, unwrap_or, Result, Ok, ⊤}
use Rattle.serde_json.specs.Data.{Data}
use Rattle.serde_json.specs.Find.{as_str}
use Rattle.line_reading.specs.Reading.{◌>>=◌, object, required, optional, each, unsupported}
use Rattle.line_reading.specs.Reading.{holds_or_bad}
use Rattle.line_reading.specs.Kinds.{name, flag, list, number, one_of_texts, zone_id}
use Rattle.line_words.specs.Words.{ident_of_text, record_type}
use Rattle.line_faults.specs.declared.member.Member.{Member}
use Rattle.line_faults.specs.declared.member.Member.TheVariants as m
use Rattle.line_faults.specs.declared.fault.LineFault.{LineFault}
use Rattle.line_faults.specs.declared.fault.LineReason.TheVariants.{Missing}
use Rattle.zone_lines.specs.declared.zones.NewZone.{NewZone}
use Rattle.zone_lines.specs.declared.lists.ListOfSets.{ListOfSets}

-- exactly four names
unfoldable pub four_names : Member → Data → Result (List (List (List ℕ))) LineFault
four_names h d = list 4 4 h d >>= each (λ _. name h) 0

-- the servers of a zone that are not given (own)
abbrev pub default_server : List ℕ → List (List ℕ)
default_server host = host ∷ codes "r53" ∷ codes "invalid" ∷ []

abbrev pub default_servers : List (List (List ℕ))
default_servers = default_server (codes "ns1") ∷ default_server (codes "ns2")
    ∷ default_server (codes "ns3") ∷ default_server (codes "ns4") ∷ []

-- a zone that is private is not offered
unfoldable pub not_private : Member → Data → Result ⊤ LineFault
not_private h d = flag h d >>= λ private. if private then unsupported h else Ok tt

unfoldable pub hosted_zone_config : Member → Data → Result (Option ⊤) LineFault
hosted_zone_config h o = do
  _ ← object h [] (m.Comment ∷ m.PrivateZone ∷ []) o
  optional m.PrivateZone not_private o

unfoldable pub create_hosted_zone : Data → Result NewZone LineFault
create_hosted_zone o = do
  _ ← object m.CreateHostedZone (m.DelegationSetId ∷ m.Vpc ∷ [])
      (m.Name ∷ m.CallerReference ∷ m.NameServers ∷ m.HostedZoneConfig ∷ []) o
  zone ← required m.Name name o
  servers ← optional m.NameServers four_names o
  _ ← optional m.HostedZoneConfig hosted_zone_config o
  Ok (record { name = zone; servers = unwrap_or servers default_servers })

unfoldable pub delete_hosted_zone : Data → Result ℕ LineFault
delete_hosted_zone o = do
  _ ← object m.DeleteHostedZone [] (m.Id ∷ []) o
  required m.Id zone_id o

-- the number that a text of digits spells behind those before it; above 300 it is out of range
abbrev pub number_of_text : ℕ → List ℕ → Option ℕ
number_of_text n [] = Some n
number_of_text n (d ∷ ds) =
    if nat_le 48 d && nat_le d 57 && nat_le (n * 10 + (d - 48)) 300
    then number_of_text (n * 10 + (d - 48)) ds else None

-- A text of digits is 1 to 300; leading zeros are let through.
abbrev pub items_of : List ℕ → Option ℕ
items_of s = at_least_one (number_of_text 0 s)
  where
    at_least_one : Option ℕ → Option ℕ
    at_least_one None = None
    at_least_one (Some n) = if nat_lt 0 n then Some n else None

-- a number, or a text of digits
abbrev pub items_if_text : Member → Data → Option (List ℕ) → Result ℕ LineFault
items_if_text h d None = number 1 300 h d
items_if_text h d (Some s) = one_of_texts items_of h d

unfoldable pub max_items : Member → Data → Result ℕ LineFault
max_items h d = items_if_text h d (as_str d)

unfoldable pub list_sets : Data → Result ListOfSets LineFault
list_sets o = do
  _ ← object m.ListResourceRecordSets []
      (m.HostedZoneId ∷ m.StartRecordName ∷ m.StartRecordType ∷ m.StartRecordIdentifier
      ∷ m.MaxItems ∷ []) o
  zone ← required m.HostedZoneId zone_id o
  owner ← optional m.StartRecordName name o
  type ← optional m.StartRecordType record_type o
  id ← optional m.StartRecordIdentifier (one_of_texts ident_of_text) o
  items ← optional m.MaxItems max_items o
  _ ← holds_or_bad (not (is_some type && not (is_some owner))) Missing m.StartRecordName
  _ ← holds_or_bad (not (is_some id && not (is_some type))) Missing m.StartRecordType
  Ok (record { zone = zone; name = owner; rtype = type; ident = id; items = unwrap_or items 300 })
