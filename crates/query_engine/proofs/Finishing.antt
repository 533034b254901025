-- The reply that is finished.
use Rattle.std.proofs.Common.{◌≡◌, ℕ, Bool, false, List, Option, Some, sym, ap, ◌∙◌, subst}
use Rattle.dns_message.specs.declared.query.Edns.{Edns}
use Rattle.dns_message.specs.declared.query.Query.{Query}
use Rattle.dns_name.specs.Suffix.{EndsWith}
use Rattle.dns_wire.specs.Draft.{opt_of, reply_to}
use Rattle.dns_wire.specs.Limit.{refusal_of}
use Rattle.dns_wire.specs.Message.{octets_within}
use Rattle.std.specs.Prelude.{cond}
use Rattle.zone_lookup.specs.ZonesOfZoneList.{Zone}
use Rattle.zone_lookup.specs.Laws.{ZoneOrNone, ZonesAreLongest}
use Rattle.zone_lookup.specs.Reply.{Asker, Served, is_refused, query_reply, zone_reply}
use Rattle.zone_lookup.specs.Sections.{Sections}
use Rattle.zone_lookup.specs.Zones.{zone_for}
use Rattle.zone_lookup.specs.Served.{IsFound, hosted_of, zone_of}
use Rattle.query_engine.specs.Adding.{with_sections}
use Rattle.query_engine.specs.Asking.{zone_reply_of}

-- a name is inside the zone that holds it
pub found_inside : ZonesAreLongest → (zones : List Zone) (name : List (List ℕ)) (id : ℕ)
    (apex : List (List ℕ)) → IsFound zones name id apex → EndsWith name apex
found_inside longest zones name id apex found =
    (subst (ZoneOrNone (hosted_of zones) name) found.zone (longest (hosted_of zones) name)).above

pub finished : (query : Query) (s : Sections) (aa : Bool) (rcode : ℕ) (edns : Option Edns)
    (scope told limit most : ℕ) → aa ≡ s.aa → rcode ≡ s.rcode → edns ≡ query.edns → scope ≡ told
    → limit ≡ most
    → octets_within (record (with_sections s (reply_to query)) {
      aa = aa;
      rcode = rcode;
      opt = opt_of edns scope;
    }) limit
    ≡ octets_within (record (with_sections s (reply_to query)) {
      aa = s.aa;
      rcode = s.rcode;
      opt = opt_of query.edns told;
    }) most
finished query s aa rcode edns scope told limit most ea er ee es el =
    ap (λ (x : Bool). octets_within (record (with_sections s (reply_to query)) {
      aa = x;
      rcode = rcode;
      opt = opt_of edns scope;
    }) limit) ea
    ∙ (ap (λ (x : ℕ). octets_within (record (with_sections s (reply_to query)) {
      aa = s.aa;
      rcode = x;
      opt = opt_of edns scope;
    }) limit) er
    ∙ (ap (λ (x : Option Edns). octets_within (record (with_sections s (reply_to query)) {
      aa = s.aa;
      rcode = s.rcode;
      opt = opt_of x scope;
    }) limit) ee
    ∙ (ap (λ (x : ℕ). octets_within (record (with_sections s (reply_to query)) {
      aa = s.aa;
      rcode = s.rcode;
      opt = opt_of query.edns x;
    }) limit) es
    ∙ ap (λ (x : ℕ). octets_within (record (with_sections s (reply_to query)) {
      aa = s.aa;
      rcode = s.rcode;
      opt = opt_of query.edns told;
    }) x) el)))

-- a query that isn't refused is answered from the zone that holds its name
pub reply_from_zone : (served : Served) (asker : Asker) (query : Query) (zones : List Zone)
    (zone : ℕ) (apex : List (List ℕ)) → is_refused query ≡ false
    → zone_for served.zones query.name ≡ Some (zone_of zones zone apex)
    → zone_reply_of served asker query zones zone apex ≡ query_reply served asker query
reply_from_zone served asker query zones zone apex heard found =
    sym (ap (λ b. cond b (refusal_of query)
    (zone_reply served asker query (zone_for served.zones query.name))) heard
    ∙ ap (zone_reply served asker query) found)
