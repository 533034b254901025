-- From a name to the sections of the answer, step by step.
use Rattle.std.specs.Prelude.{◌≡◌, ◌<◌, ℕ, List, Bool, Option, None, Some, ⊤}
use Rattle.std.specs.Prelude.{slice_get}
use Rattle.address_text.specs.declared.address.IpAddress.{IpAddress}
use Rattle.cidr_blocks.specs.declared.places.Collection.{Collection}
use Rattle.dns_message.specs.declared.query.Query.{Query}
use Rattle.dns_wire.specs.Draft.{Draft}
use Rattle.dns_wire.specs.Message.{Message}
use Rattle.geo_latency.specs.declared.tables.Tables.{Tables}
use Rattle.rdata_layout.specs.declared.types.RType.TheVariants as rtype
use Rattle.record_set.specs.declared.sets.RecordSet.{RecordSet}
use Rattle.record_set.specs.declared.sets.SetKey.{SetKey}
use Rattle.zone_lookup.specs.ZonesOfZoneList.{Zone}
use Rattle.zone_lookup.specs.UsedRecord.{Used}
use Rattle.zone_lookup.specs.Clients.{client_with}
use Rattle.zone_lookup.specs.Descent.{Choices}
use Rattle.zone_lookup.specs.Records.{data_of}
use Rattle.zone_lookup.specs.Reply.{Asker, Served, zone_reply}
use Rattle.zone_lookup.specs.Sections.{Lookup, Sections, NameOutcome}
use Rattle.zone_lookup.specs.Sections.NameOutcome.{Ends, Follows}
use Rattle.zone_lookup.specs.Served.{hosted_of, zone_of}
use Rattle.query_engine.specs.Adding.{WritesAll}
use Rattle.query_engine.specs.declared.asking.Asked.{Asked}
use Rattle.query_engine.specs.declared.asking.End.{End}
use Rattle.query_engine.specs.declared.asking.Next.{Next}
use Rattle.query_engine.specs.declared.asking.Next.TheVariants as next
use Rattle.query_engine.specs.declared.asking.Progress.{Progress}

-- what queries are answered from
abbrev pub served_by : List Zone → List (ℕ × Collection) → (healthy : (zone : ℕ) → SetKey → Bool)
    → Tables → Served
served_by zones collections healthy tables = record {
  zones = hosted_of zones;
  collections = collections;
  healthy = healthy;
  tables = tables;
}

-- how the names of a query are looked up
abbrev pub asked_of : List Zone → List (ℕ × Collection) → (healthy : (zone : ℕ) → SetKey → Bool)
    → Tables → Asked → Lookup
asked_of zones collections healthy tables asked = record {
  zones = hosted_of zones;
  zone = zone_of zones asked.zone asked.apex.now;
  means = record {
    healthy = healthy asked.zone;
    client = client_with tables collections asked.client;
    words = asked.words.now;
  };
  qtype = asked.qtype;
}

-- the choices so far
abbrev pub choices_of : Progress → Choices
choices_of progress = record { count = progress.count; used = progress.used }

-- The sections are written, and the answer ends as they say.
pub record EndsAs (s : Sections) (old new : Draft) (end : End) (used : Used) : Type 0 where
  pub adds : WritesAll s old new
  pub aa : end.aa ≡ s.aa
  pub rcode : end.rcode ≡ s.rcode
  pub uses : used ≡ s.used

-- The step is the end of the answer, and is written.
pub record IsEnd (step : NameOutcome) (old new : Draft) (end : End) (used : Used) : Type 0 where
  pub sections : Sections
  pub ends : step ≡ Ends sections
  pub leaves : EndsAs sections old new end used

-- The step is a CNAME record, which isn't written yet: its data are the first value of the set that
-- is held.
pub record IsCname (step : NameOutcome) (name : List (List ℕ)) (held : Option RecordSet) (ttl : ℕ)
    (made : Choices) : Type 0 where
  pub set : RecordSet
  pub is_held : held ≡ Some set
  pub typed : set.rtype ≡ rtype.Cname
  pub rdata : List ℕ
  pub first : slice_get (data_of set.body) 0 ≡ Some rdata
  pub follows : step
      ≡ Follows (record { owner = name; rtype = rtype.Cname; ttl = ttl; rdata = rdata }) made

-- what a name comes to
abbrev pub ComesTo : NameOutcome → (name : List (List ℕ)) → (old new : Draft) → (held : Option RecordSet)
    → Progress → Next → Type 0
ComesTo step name old new held progress (next.Ends end) = IsEnd step old new end progress.used
ComesTo step name old new held progress (next.Follows ttl) =
    IsCname step name held ttl (choices_of progress) × (new ≡ old)

-- A set is held whose type is CNAME, and which has a value.
pub record IsCnameSet (set : RecordSet) : Type 0 where
  pub typed : set.rtype ≡ rtype.Cname
  pub rdata : List ℕ
  pub first : slice_get (data_of set.body) 0 ≡ Some rdata

abbrev pub HoldsCname : (held : Option RecordSet) → Type 0
HoldsCname held = (set : RecordSet) × (held ≡ Some set) × IsCnameSet set

-- So it is where a CNAME record is followed.
abbrev pub HoldsNext : (held : Option RecordSet) → Next → Type 0
HoldsNext held (next.Ends end) = ⊤
HoldsNext held (next.Follows ttl) = HoldsCname held

-- RCODE of an end has four bits.
abbrev pub EndsWell : Next → Type 0
EndsWell (next.Ends end) = end.rcode < 16
EndsWell (next.Follows ttl) = ⊤

-- ---- the reply

-- who asks
abbrev pub asker_of : (peer : IpAddress) → (words : List ℕ) → Asker
asker_of peer words = record { peer = peer; words = words }

-- the octets that the reply holds, where something is answered
abbrev pub answer_of : Option ℕ → Draft → Option (List ℕ)
answer_of None reply = None
answer_of (Some n) reply = Some reply.bytes

-- the reply from the zone of this number and name
abbrev pub zone_reply_of : Served → Asker → Query → List Zone → (zone : ℕ)
    → (apex : List (List ℕ)) → Message
zone_reply_of served asker query zones zone apex =
    zone_reply served asker query (Some (zone_of zones zone apex))
