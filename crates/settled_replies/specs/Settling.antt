-- Which packets are settled, of all those to which the reply is the same whoever asks.
use Rattle.std.specs.Prelude.{◌≡◌, ◌≢◌, ℕ, List, [], ◌∷◌, false, Option, None, Some, ⊤}
use Rattle.dns_message.specs.Judge.{Judges}
use Rattle.dns_message.specs.Whole.{subnet_of}
use Rattle.dns_message.specs.declared.query.Query.{Query}
use Rattle.dns_message.specs.declared.query.QueryRead.TheVariants as read
use Rattle.ecs_option.specs.declared.subnet.ClientSubnet.{ClientSubnet}
use Rattle.query_engine.specs.Reply.{Asker, Served, client_of, is_refused, lookup_of}
use Rattle.query_engine.specs.Sections.{asked_group, cut_above}
use Rattle.rdata_layout.specs.declared.types.RType.TheVariants as rtype
use Rattle.record_set.specs.declared.sets.RecordSet.{RecordSet}
use Rattle.routing.specs.declared.policies.Routing.{Routing}
use Rattle.routing.specs.declared.policies.Routing.TheVariants as routing
use Rattle.zone_lookup.specs.Descent.{Means, descend, no_choices}
use Rattle.zone_lookup.specs.Names.{source}
use Rattle.zone_lookup.specs.Zones.{zone_for}
use Rattle.zone_model.specs.Hosted.{HostedZone}
use Rattle.zone_model.specs.Zones.{group}

-- The query tells its client's address: a subnet of a source length above 0 (RFC 7871, 7.2.1).
abbrev pub TellsClient : Option ClientSubnet → Type 0
TellsClient None = ⊥
TellsClient (Some subnet) = subnet.source ≢ 0

-- By this policy no word decides, nor an address, unless the query tells its client's.
abbrev pub IsSureBy : Routing → Option ClientSubnet → Type 0
IsSureBy routing.Simple subnet = ⊤
IsSureBy (routing.Weighted ident weight) subnet = ⊥
IsSureBy (routing.Failover ident role) subnet = ⊤
IsSureBy (routing.Geolocation ident place) subnet = TellsClient subnet
IsSureBy (routing.Latency ident region) subnet = TellsClient subnet
IsSureBy (routing.Multivalue ident) subnet = ⊥
IsSureBy (routing.Cidr ident collection location) subnet = TellsClient subnet

-- One choice from a group ends with one set: it isn't empty, and no alias leads on.
abbrev pub EndsWithOne : Means → (zone group : List RecordSet) → Type 0
EndsWithOne by zone group = (set : RecordSet) × ((descend by zone group no_choices).sets ≡ set ∷ [])
    × ((descend by zone group no_choices).choices.count ≡ 1)

-- So it does for each asker of a query, from a group of a zone by the policy of its first set.
abbrev pub IsSureFor : Served → Query → HostedZone → (first : RecordSet) → (group : List RecordSet) → Type 0
IsSureFor served query zone first group = IsSureBy first.routing (subnet_of query.edns)
    × ((asker : Asker) → EndsWithOne
    (lookup_of served asker.words query (client_of served asker.peer query) zone).means zone.sets group)

-- One set of QTYPE is sure; or there is none, nor a CNAME set: no data.
abbrev pub CanSettleSets : Served → Query → HostedZone → (typed cnames : List RecordSet) → Type 0
CanSettleSets served query zone [] cnames = cnames ≡ []
CanSettleSets served query zone (first ∷ others) cnames = IsSureFor served query zone first (first ∷ others)

-- The same of the sets that are taken for the name; or it doesn't exist: NXDOMAIN.
abbrev pub CanSettleFrom : Served → Query → HostedZone → (from : Option (List (List ℕ))) → Type 0
CanSettleFrom served query zone None = ⊤
CanSettleFrom served query zone (Some from) = CanSettleSets served query zone (asked_group zone.sets from query.qtype)
    (group zone.sets from rtype.Cname)

-- The same of a name below no zone cut; or it is at one or below one: a referral.
abbrev pub CanSettleBelow : Served → Query → HostedZone → (cut : Option RecordSet) → Type 0
CanSettleBelow served query zone (Some cut) = ⊤
CanSettleBelow served query zone None = CanSettleFrom served query zone (source zone.sets query.name)

-- The same in a zone: the name is in one.
abbrev pub CanSettleIn : Served → Query → Option HostedZone → Type 0
CanSettleIn served query None = ⊥
CanSettleIn served query (Some zone) = CanSettleBelow served query zone (cut_above zone query.name)

-- The same of a query of class IN for a type that is answered.
abbrev pub CanSettleQuery : Served → Query → Type 0
CanSettleQuery served query =
    (is_refused query ≡ false) × CanSettleIn served query (zone_for served.zones query.name)

-- The packet is such a query.
abbrev pub CanSettle : Served → (packet : List ℕ) → Type 0
CanSettle served packet = (query : Query) × Judges packet (read.Query query) × CanSettleQuery served query
