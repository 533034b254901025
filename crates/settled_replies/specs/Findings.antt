-- Queries of which the reply is the same whoever asks, and what is found of them.
use Rattle.std.specs.Prelude.{◌≡◌, ℕ, List, [], ◌∷◌, Bool, true, false, Option, Some, slice_get, ⊤}
use Rattle.address_text.specs.declared.address.IpAddress.{IpAddress}
use Rattle.dns_message.specs.Whole.{subnet_of}
use Rattle.dns_message.specs.declared.query.Query.{Query}
use Rattle.dns_wire.specs.Draft.{opt_of, reply_to}
use Rattle.dns_wire.specs.Message.{Message}
use Rattle.record_set.specs.declared.sets.RecordSet.{RecordSet}
use Rattle.query_engine.specs.Reply.{Asker, Served, client_of, lookup_of, query_reply, told_scope}
use Rattle.query_engine.specs.Sections.{Sections, ends, no_data, nxdomain, referral, sections}
use Rattle.reply_records.specs.Groups.{sets_in}
use Rattle.reply_records.specs.Holding.{IsHolding}
use Rattle.zone_lookup.specs.Cuts.{IsCut}
use Rattle.zone_lookup.specs.Descent.{unused}
use Rattle.zone_lookup.specs.Records.{answer_records}
use Rattle.zone_lookup.specs.UsedRecord.{Used}
use Rattle.zone_lookup.specs.ZonesOfZoneList.{Zone}
use Rattle.zone_model.specs.Hosted.{HostedZone}
use Rattle.settled_replies.specs.declared.findings.Finding.{Finding}
use Rattle.settled_replies.specs.declared.findings.Finding.TheVariants as finding

-- A query has this reply whoever asks: from whichever address it comes, and whatever is drawn for it.
abbrev pub RepliesToAll : Served → Query → Message → Type 0
RepliesToAll served query reply = (asker : Asker) → query_reply served asker query ≡ reply

-- From a zone it is answered with these sections whoever asks, but for what choices used, and each is told this scope.
abbrev pub RepliesToAllFrom : Served → HostedZone → Query → Sections → (scope : ℕ) → Type 0
RepliesToAllFrom served zone query found scope = (peer : IpAddress) (words : List ℕ) → (used : Used)
    × (sections (lookup_of served words query (client_of served peer query) zone) query.name
    ≡ record found { used = used })
    × (told_scope (subnet_of query.edns) (client_of served peer query) used ≡ scope)

-- the reply with these sections and this scope
abbrev pub reply_with : Query → Sections → (scope : ℕ) → Message
reply_with query found scope = record (reply_to query) {
  aa = found.aa;
  rcode = found.rcode;
  answers = found.answers;
  authorities = found.authorities;
  additionals = found.additionals;
  opt = opt_of query.edns scope;
}

-- The sections of what is found: the records of the set that is held, no data, NXDOMAIN, or the referral of a cut.
abbrev pub HasSections : List Zone → HostedZone → (name : List (List ℕ)) → (held : Option RecordSet) → Finding → Sections
    → Type 0
HasSections zones zone name held (finding.Set scope) found = (set : RecordSet) × (held ≡ Some set)
    × (found ≡ record (ends unused) { answers = answer_records name (set ∷ []) })
HasSections zones zone name held finding.NoData found = found ≡ no_data zone unused
HasSections zones zone name held finding.NoName found = found ≡ nxdomain zone unused
HasSections zones zone name held (finding.Referral cut) found = (set : RecordSet)
    × (slice_get (sets_in zones cut) 0 ≡ Some set) × (found ≡ referral zone.sets set unused)

-- What is written of it is at hand: the set is held, or the cut is one.
abbrev pub CanBeWritten : List Zone → HostedZone → (name : List (List ℕ)) → (held : Option RecordSet) → Finding → Type 0
CanBeWritten zones zone name held (finding.Set scope) = IsHolding held
CanBeWritten zones zone name held (finding.Referral cut) = IsCut zones zone name cut
CanBeWritten zones zone name held other = ⊤

-- A referral isn't authoritative (RFC 1034, 4.3.2, step 3b).
abbrev pub aa_of : Finding → Bool
aa_of (finding.Referral cut) = false
aa_of other = true

-- NXDOMAIN (RFC 1035, 4.1.1)
abbrev pub rcode_of : Finding → ℕ
rcode_of finding.NoName = 3
rcode_of other = 0

-- where a set answers, its scope
abbrev pub scope_with : Finding → ℕ
scope_with (finding.Set scope) = scope
scope_with other = 0
