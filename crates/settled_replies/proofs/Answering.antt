-- What a name comes to, whoever asks, and the reply.
use Rattle.std.proofs.Common.{sym, subst, ◌≡◌, ℕ, Bool, true, false, List, [], ◌∷◌, Option, None, Some, refl, ap, ◌∙◌}
use Rattle.std.specs.Prelude.{cond, ◌==◌}
use Rattle.dns_message.specs.declared.query.Query.{Query}
use Rattle.dns_wire.specs.Draft.{Draft, opt_of}
use Rattle.dns_wire.specs.Limit.{refusal_of}
use Rattle.dns_wire.specs.Message.{Message}
use Rattle.ecs_option.specs.declared.subnet.ClientSubnet.{ClientSubnet}
use Rattle.rdata_layout.specs.declared.types.RType.TheVariants as rtype
use Rattle.record_set.specs.declared.sets.RecordSet.{RecordSet}
use Rattle.zone_model.specs.Hosted.{HostedZone}
use Rattle.zone_model.specs.Zones.{group}
use Rattle.zone_lookup.specs.Clients.{Client}
use Rattle.zone_lookup.specs.Descent.{descend, no_choices, unused}
use Rattle.zone_lookup.specs.Names.{source}
use Rattle.zone_lookup.specs.Records.{answer_records, soa_records}
use Rattle.zone_lookup.specs.Reply.{Asker, Served, client_of, is_refused, query_reply, scope_of, told_scope, with_sections, zone_reply}
use Rattle.zone_lookup.specs.Sections.{Lookup, Sections, asked, asked_group, canonical, cut_above, ends, followed, look_up, no_data, nxdomain, referral, sections, step_below, step_from, step_of}
use Rattle.zone_lookup.specs.UsedRecord.{Used}
use Rattle.zone_lookup.specs.Zones.{zone_for}
use Rattle.zone_lookup.specs.ZonesOfZoneList.{Zone}
use Rattle.dns_wire.specs.declared.reply.Section.TheVariants.{Answer, Authority}
use Rattle.query_engine.proofs.Added.{answers_alone, authorities_alone, authorities_and_more}
use Rattle.query_engine.specs.Adding.{WritesAll}
use Rattle.reply_records.specs.Delegating.{Delegates}
use Rattle.reply_records.specs.Writing.{Writes}
use Rattle.settled_replies.specs.Findings.{HasSections, RepliesToAll, RepliesToAllFrom, aa_of, rcode_of, reply_with}
use Rattle.settled_replies.specs.declared.findings.Finding.{Finding}
use Rattle.settled_replies.specs.declared.findings.Finding.TheVariants as finding
use Rattle.settled_replies.specs.Alone.{ComesTo}

-- ---- sections by what the name is in the zone

module _ (lookup : Lookup) (name : List (List ℕ)) where
  -- at or below a zone cut
  pub below : (cut : RecordSet) → cut_above lookup.zone name ≡ Some cut
      → sections lookup name ≡ referral lookup.zone.sets cut unused
  unfolding sections
  below cut is =
      ap (λ (o : Option RecordSet). followed lookup (look_up 7 lookup) (step_below lookup name o no_choices)) is

  module _ (uncut : cut_above lookup.zone name ≡ None) where
    by_source : (from : Option (List (List ℕ))) → source lookup.zone.sets name ≡ from
        → sections lookup name ≡ followed lookup (look_up 7 lookup) (step_from lookup name from no_choices)
    unfolding sections
    by_source from is =
        ap (λ (o : Option RecordSet). followed lookup (look_up 7 lookup) (step_below lookup name o no_choices)) uncut
        ∙ ap (λ (o : Option (List (List ℕ))). followed lookup (look_up 7 lookup) (step_from lookup name o no_choices)) is

    pub absent : source lookup.zone.sets name ≡ None → sections lookup name ≡ nxdomain lookup.zone unused
    absent is = by_source None is

    module _ (from : List (List ℕ)) (taken : source lookup.zone.sets name ≡ Some from) where
      -- of no sets none is chosen
      nothing : canonical lookup name (descend lookup.means lookup.zone.sets [] no_choices)
          ≡ asked lookup name (descend lookup.means lookup.zone.sets [] no_choices)
      unfolding descend
      nothing = refl

      by_sets : (typed cnames : List RecordSet) → asked_group lookup.zone.sets from lookup.qtype ≡ typed
          → group lookup.zone.sets from rtype.Cname ≡ cnames
          → sections lookup name
          ≡ followed lookup (look_up 7 lookup) (step_of lookup name typed cnames no_choices)
      by_sets typed cnames typed_are cnames_are =
          by_source (Some from) taken
          ∙ (ap (λ (sets : List RecordSet). followed lookup (look_up 7 lookup) (step_of lookup name sets
          (group lookup.zone.sets from rtype.Cname) no_choices)) typed_are
          ∙ ap (λ (sets : List RecordSet). followed lookup (look_up 7 lookup) (step_of lookup name typed
          sets no_choices)) cnames_are)

      pub empty : asked_group lookup.zone.sets from lookup.qtype ≡ []
          → group lookup.zone.sets from rtype.Cname ≡ []
          → sections lookup name ≡ no_data lookup.zone unused
      unfolding descend
      empty typed cnames = by_sets [] [] typed cnames

      pub alone : (first : RecordSet) (others : List RecordSet) (set : RecordSet) (used : Used)
          → asked_group lookup.zone.sets from lookup.qtype ≡ first ∷ others
          → ComesTo lookup.means.healthy lookup.means.client lookup.zone.sets (first ∷ others) set used
          → sections lookup name ≡ record (ends used) { answers = answer_records name (set ∷ []) }
      alone first others set used typed comes =
          by_sets (first ∷ others) (group lookup.zone.sets from rtype.Cname) typed refl
          ∙ ap (λ d. followed lookup (look_up 7 lookup) (asked lookup name d)) (comes lookup.means.words)

-- no scope is told where nothing was used
pub no_scope : (subnet : Option ClientSubnet) (client : Client) → told_scope subnet client unused ≡ 0
no_scope None client = refl
no_scope (Some subnet) client = by (subnet.source == 0)
  where
    by : (b : Bool) → cond b 0 (scope_of client unused) ≡ 0
    by true = refl
    by false = refl

-- ---- what is found

-- its AA and RCODE
pub has_aa : (zones : List Zone) (zone : HostedZone) (name : List (List ℕ)) (held : Option RecordSet) (its : Finding)
    (found : Sections) → HasSections zones zone name held its found → aa_of its ≡ found.aa
has_aa zones zone name held (finding.Set scope) found (set, held_so, are) = sym (ap (λ (s : Sections). s.aa) are)
has_aa zones zone name held finding.NoData found are = sym (ap (λ (s : Sections). s.aa) are)
has_aa zones zone name held finding.NoName found are = sym (ap (λ (s : Sections). s.aa) are)
has_aa zones zone name held (finding.Referral cut) found (set, held_so, are) = sym (ap (λ (s : Sections). s.aa) are)

pub has_rcode : (zones : List Zone) (zone : HostedZone) (name : List (List ℕ)) (held : Option RecordSet) (its : Finding)
    (found : Sections) → HasSections zones zone name held its found → rcode_of its ≡ found.rcode
has_rcode zones zone name held (finding.Set scope) found (set, held_so, are) = sym (ap (λ (s : Sections). s.rcode) are)
has_rcode zones zone name held finding.NoData found are = sym (ap (λ (s : Sections). s.rcode) are)
has_rcode zones zone name held finding.NoName found are = sym (ap (λ (s : Sections). s.rcode) are)
has_rcode zones zone name held (finding.Referral cut) found (set, held_so, are) = sym (ap (λ (s : Sections). s.rcode) are)

-- its records
module _ (old new : Draft) where
  pub writes_set : (name : List (List ℕ)) (set : RecordSet) (found : Sections)
      → found ≡ record (ends unused) { answers = answer_records name (set ∷ []) }
      → Writes Answer (answer_records name (set ∷ [])) old new → WritesAll found old new
  writes_set name set found are wrote =
      subst (λ (s : Sections). WritesAll s old new) (sym are)
      (answers_alone (record (ends unused) { answers = answer_records name (set ∷ []) }) old new refl refl wrote)

  pub writes_no_data : (zone : HostedZone) (found : Sections) → found ≡ no_data zone unused
      → Writes Authority (soa_records zone) old new → WritesAll found old new
  writes_no_data zone found are wrote =
      subst (λ (s : Sections). WritesAll s old new) (sym are)
      (authorities_alone (no_data zone unused) old new refl refl wrote)

  pub writes_no_name : (zone : HostedZone) (found : Sections) → found ≡ nxdomain zone unused
      → Writes Authority (soa_records zone) old new → WritesAll found old new
  writes_no_name zone found are wrote =
      subst (λ (s : Sections). WritesAll s old new) (sym are)
      (authorities_alone (nxdomain zone unused) old new refl refl wrote)

  pub writes_referral : (sets : List RecordSet) (set : RecordSet) (found : Sections)
      → found ≡ referral sets set unused → Delegates sets set old new → WritesAll found old new
  writes_referral sets set found are wrote =
      subst (λ (s : Sections). WritesAll s old new) (sym are)
      (authorities_and_more (referral sets set unused) old wrote.middle new refl wrote.servers wrote.glue)

-- ---- the reply

-- From the zone that holds the name a query has its reply.
pub from_zone : (served : Served) (query : Query) (zone : HostedZone) (found : Sections) (scope : ℕ)
    → is_refused query ≡ false → zone_for served.zones query.name ≡ Some zone
    → RepliesToAllFrom served zone query found scope → RepliesToAll served query (reply_with query found scope)
from_zone served query zone found scope heard holds all asker =
    let client = client_of served asker.peer query in
    let its = all asker.peer asker.words in
    ap (λ b. cond b (refusal_of query) (zone_reply served asker query (zone_for served.zones query.name))) heard
    ∙ (ap (zone_reply served asker query) holds
    ∙ (ap (with_sections query client) its.1
    ∙ ap (λ (told : ℕ). record (reply_with query found scope) { opt = opt_of query.edns told }) its.2))

-- The reply with another ID.
with_own_id : (served : Served) (asker : Asker) (query : Query) (id : ℕ)
    → query_reply served asker (record query { id = id }) ≡ record (query_reply served asker query) { id = id }
with_own_id served asker query id = by (is_refused query) (zone_for served.zones query.name)
  where
    by : (b : Bool) (zone : Option HostedZone)
        → cond b (refusal_of (record query { id = id })) (zone_reply served asker (record query { id = id }) zone)
        ≡ record (cond b (refusal_of query) (zone_reply served asker query zone)) { id = id }
    by true _ = refl
    by false None = refl
    by false (Some its) = refl

pub with_each_id : (served : Served) (query : Query) (reply : Message) (id : ℕ) → RepliesToAll served query reply
    → RepliesToAll served (record query { id = id }) (record reply { id = id })
with_each_id served query reply id all asker =
    with_own_id served asker query id ∙ ap (λ (m : Message). record m { id = id }) (all asker)
