-- The object of a set, member by member, and the pieces in which it is written.
use Rattle.std.proofs.Common.{◌≡◌, ℕ, List, [], ◌∷◌, ◌++◌, Bool, true, false, None, Some, Option}
use Rattle.std.proofs.Common.{append_assoc, ap, sym, ◌∙◌, refl, codes, map}
use Rattle.std.specs.List.{AllByRecursion}
use Rattle.json.specs.Print.{escape_byte, quoted}
use Rattle.dns_name.specs.Written as names
use Rattle.line_faults.specs.Texts.{text_of}
use Rattle.line_faults.specs.declared.member.Member.TheVariants as m
use Rattle.rdata.specs.Datum.{Datum}
use Rattle.rdata_layout.specs.Types as types
use Rattle.rdata_layout.specs.declared.types.RType.{RType}
use Rattle.record_set.specs.Sets.{ident_of}
use Rattle.record_set.specs.declared.sets.Body.{Body}
use Rattle.record_set.specs.declared.sets.Body.TheVariants as body
use Rattle.record_set.specs.declared.sets.RecordSet.{RecordSet}
use Rattle.reply_words.specs.Json.{items_of, list_of, name_text, type_text}
use Rattle.reply_words.specs.Sets.{set_object, value_object}
use Rattle.list_writing.specs.Pieces.{alias_data, check_data, cidr_data}
use Rattle.list_writing.specs.Pieces.{failover_data, front_text, ident_data, led, list_closing}
use Rattle.list_writing.specs.Pieces.{list_opening, multivalue_data, place_data, region_data}
use Rattle.list_writing.specs.Pieces.{rest_text, set_pieces, trailed}
use Rattle.list_writing.specs.Pieces.{ttl_data, value_piece, value_pieces, weight_data}
use Rattle.routing.specs.declared.policies.Routing.{Routing}
use Rattle.routing.specs.declared.policies.Routing.TheVariants as routing
use Rattle.serde_json.specs.Data.{Data, Members, member, no_members, object}
use Rattle.serde_json.specs.Written.{comma_if, compact_text, items_text, members_text}
use Rattle.set_octets.specs.Octets.{AreOfType}
use Rattle.set_scratch.specs.Bodies.{alias_of, ttl_of, wires_of}

-- ---- members that are there or not

abbrev with_member : (name : List ℕ) → Option Data → Members → Members
with_member name None rest = rest
with_member name (Some d) rest = member name d rest

abbrev values_data : Body → Option Data
values_data (body.Values ttl values) = Some (list_of (map value_object values))
values_data (body.Alias target evaluate) = None

abbrev from_name : (name : List (List ℕ)) → RType → Routing → Body → Members
from_name name rtype policy what =
    member (text_of m.Name) (name_text name)
    (with_member (text_of m.Region) (region_data policy)
    (with_member (text_of m.ResourceRecords) (values_data what)
    (with_member (text_of m.SetIdentifier) (ident_data (ident_of policy))
    (with_member (text_of m.Ttl) (ttl_data (alias_of what) (ttl_of what))
    (member (text_of m.«Type») (type_text rtype)
    (with_member (text_of m.Weight) (weight_data policy) no_members))))))

abbrev all_members : (zone : ℕ) (name : List (List ℕ)) → RType → Routing → Body → Option ℕ → Members
all_members zone name rtype policy what check =
    with_member (text_of m.AliasTarget) (alias_data zone (alias_of what))
    (with_member (text_of m.CidrRoutingConfig) (cidr_data policy)
    (with_member (text_of m.Failover) (failover_data policy)
    (with_member (text_of m.GeoLocation) (place_data policy)
    (with_member (text_of m.HealthCheckId) (check_data check)
    (with_member (text_of m.MultiValueAnswer) (multivalue_data policy)
    (from_name name rtype policy what))))))

abbrev set_of : (name : List (List ℕ)) → RType → Routing → Body → Option ℕ → RecordSet
set_of name rtype policy what check =
    record { name = name; rtype = rtype; routing = policy; body = what; check = check }

is_members : (zone : ℕ) (name : List (List ℕ)) (rtype : RType) (policy : Routing) (what : Body)
    (check : Option ℕ) → set_object zone (set_of name rtype policy what check)
    ≡ object (all_members zone name rtype policy what check)
is_members zone name rtype routing.Simple (body.Values ttl values) None = refl
is_members zone name rtype routing.Simple (body.Values ttl values) (Some check) = refl
is_members zone name rtype routing.Simple (body.Alias target evaluate) None = refl
is_members zone name rtype routing.Simple (body.Alias target evaluate) (Some check) = refl
is_members zone name rtype (routing.Weighted ident weight) (body.Values ttl values) None = refl
is_members zone name rtype (routing.Weighted ident weight) (body.Values ttl values) (Some check) = refl
is_members zone name rtype (routing.Weighted ident weight) (body.Alias target evaluate) None = refl
is_members zone name rtype (routing.Weighted ident weight) (body.Alias target evaluate) (Some check) = refl
is_members zone name rtype (routing.Failover ident role) (body.Values ttl values) None = refl
is_members zone name rtype (routing.Failover ident role) (body.Values ttl values) (Some check) = refl
is_members zone name rtype (routing.Failover ident role) (body.Alias target evaluate) None = refl
is_members zone name rtype (routing.Failover ident role) (body.Alias target evaluate) (Some check) = refl
is_members zone name rtype (routing.Geolocation ident where_to) (body.Values ttl values) None = refl
is_members zone name rtype (routing.Geolocation ident where_to) (body.Values ttl values) (Some check) = refl
is_members zone name rtype (routing.Geolocation ident where_to) (body.Alias target evaluate) None = refl
is_members zone name rtype (routing.Geolocation ident where_to) (body.Alias target evaluate) (Some check) = refl
is_members zone name rtype (routing.Latency ident region) (body.Values ttl values) None = refl
is_members zone name rtype (routing.Latency ident region) (body.Values ttl values) (Some check) = refl
is_members zone name rtype (routing.Latency ident region) (body.Alias target evaluate) None = refl
is_members zone name rtype (routing.Latency ident region) (body.Alias target evaluate) (Some check) = refl
is_members zone name rtype (routing.Multivalue ident) (body.Values ttl values) None = refl
is_members zone name rtype (routing.Multivalue ident) (body.Values ttl values) (Some check) = refl
is_members zone name rtype (routing.Multivalue ident) (body.Alias target evaluate) None = refl
is_members zone name rtype (routing.Multivalue ident) (body.Alias target evaluate) (Some check) = refl
is_members zone name rtype (routing.Cidr ident collection location) (body.Values ttl values) None = refl
is_members zone name rtype (routing.Cidr ident collection location) (body.Values ttl values) (Some check) = refl
is_members zone name rtype (routing.Cidr ident collection location) (body.Alias target evaluate) None = refl
is_members zone name rtype (routing.Cidr ident collection location) (body.Alias target evaluate) (Some check) = refl

-- ---- their texts

-- a member stands behind: what is written with a comma in front is a comma and what is written without
abbrev IsMore : Members → Type 0
IsMore rest = members_text true rest ≡ 44 ∷ members_text false rest

more_with : (name : List ℕ) (d : Option Data) (rest : Members) → IsMore rest
    → IsMore (with_member name d rest)
more_with name None rest more = more
more_with name (Some d) rest more = refl

led_is : (name : List ℕ) (d : Option Data) (rest : Members) → IsMore rest
    → members_text false (with_member name d rest) ≡ led name d ++ members_text false rest
led_is name None rest more = refl
led_is name (Some d) rest more =
    ap (λ t. quoted name ++ 58 ∷ (compact_text d ++ t)) more
    ∙ sym (append_assoc (quoted name) (58 ∷ (compact_text d ++ 44 ∷ [])) (members_text false rest)
    ∙ ap (λ t. quoted name ++ 58 ∷ t) (append_assoc (compact_text d) (44 ∷ []) (members_text false rest)))

trailed_is : (name : List ℕ) (d : Option Data) (rest : Members)
    → members_text true (with_member name d rest) ≡ trailed name d ++ members_text true rest
trailed_is name None rest = refl
trailed_is name (Some d) rest =
    ap (λ t. 44 ∷ t) (sym (append_assoc (quoted name) (58 ∷ compact_text d) (members_text true rest)))

-- ---- values

items_are : (later : Bool) (rtype : RType) (values : List Datum)
    → AllByRecursion (λ value. value.rtype ≡ rtype) values
    → items_text later (items_of (map value_object values))
    ≡ value_pieces later rtype (map (λ value. value.wire) values) ++ 93 ∷ []
unfolding value_piece
items_are later rtype [] of_type = refl
items_are later rtype (value ∷ values) of_type =
    let rest = items_text true (items_of (map value_object values)) in
    let object = compact_text (value_object (record { rtype = rtype; wire = value.wire })) in
    let pieces = value_pieces true rtype (map (λ value. value.wire) values) in
    ap (λ type. comma_if later ++ (compact_text (value_object (record { rtype = type; wire = value.wire }))
    ++ rest)) of_type.0
    ∙ ap (λ t. comma_if later ++ (object ++ t)) (items_are true rtype values of_type.1)
    ∙ sym (append_assoc (comma_if later ++ object) pieces (93 ∷ [])
    ∙ append_assoc (comma_if later) object (pieces ++ 93 ∷ []))

shown_values : (rtype : RType) (what : Body) → AreOfType rtype what
    → trailed (text_of m.ResourceRecords) (values_data what)
    ≡ list_opening (alias_of what)
    ++ (value_pieces false rtype (wires_of what) ++ list_closing (alias_of what))
unfolding escape_byte
shown_values rtype (body.Values ttl values) of_type =
    ap (λ t. codes ",\"ResourceRecords\":[" ++ t) (items_are false rtype values of_type)
shown_values rtype (body.Alias target evaluate) of_type = refl

-- ---- the text of an object, member by member

module _ (zone : ℕ) (name : List (List ℕ)) (rtype : RType) (policy : Routing) (what : Body)
    (check : Option ℕ) where
  abbrev weight_on : Members
  weight_on = with_member (text_of m.Weight) (weight_data policy) no_members

  abbrev type_on : Members
  type_on = member (text_of m.«Type») (type_text rtype) weight_on

  abbrev ttl_on : Members
  ttl_on = with_member (text_of m.Ttl) (ttl_data (alias_of what) (ttl_of what)) type_on

  abbrev ident_on : Members
  ident_on = with_member (text_of m.SetIdentifier) (ident_data (ident_of policy)) ttl_on

  abbrev values_on : Members
  values_on = with_member (text_of m.ResourceRecords) (values_data what) ident_on

  abbrev region : List ℕ
  region = trailed (text_of m.Region) (region_data policy)

  abbrev values : List ℕ
  values = trailed (text_of m.ResourceRecords) (values_data what)

  abbrev ident : List ℕ
  ident = trailed (text_of m.SetIdentifier) (ident_data (ident_of policy))

  abbrev ttl : List ℕ
  ttl = trailed (text_of m.Ttl) (ttl_data (alias_of what) (ttl_of what))

  abbrev weight : List ℕ
  weight = trailed (text_of m.Weight) (weight_data policy)

  abbrev end_text : List ℕ
  end_text = codes ",\"Type\":" ++ (quoted (types.text_of rtype) ++ (weight ++ codes "}"))

  abbrev name_on_text : List ℕ
  name_on_text = codes "\"Name\":" ++ (quoted (names.text_of name)
      ++ (region ++ (values ++ (ident ++ (ttl ++ end_text)))))

  text_from_name : members_text false (from_name name rtype policy what) ≡ name_on_text
  unfolding escape_byte
  text_from_name =
      ap (λ t. codes "\"Name\":" ++ (quoted (names.text_of name) ++ t)) (
      trailed_is (text_of m.Region) (region_data policy) values_on
      ∙ ap (λ t. region ++ t) (
      trailed_is (text_of m.ResourceRecords) (values_data what) ident_on
      ∙ ap (λ t. values ++ t) (
      trailed_is (text_of m.SetIdentifier) (ident_data (ident_of policy)) ttl_on
      ∙ ap (λ t. ident ++ t) (
      trailed_is (text_of m.Ttl) (ttl_data (alias_of what) (ttl_of what)) type_on
      ∙ ap (λ t. ttl ++ (codes ",\"Type\":" ++ (quoted (types.text_of rtype) ++ t)))
      (trailed_is (text_of m.Weight) (weight_data policy) no_members)))))

  abbrev multivalue_on : Members
  multivalue_on = with_member (text_of m.MultiValueAnswer) (multivalue_data policy)
      (from_name name rtype policy what)

  abbrev check_on : Members
  check_on = with_member (text_of m.HealthCheckId) (check_data check) multivalue_on

  abbrev place_on : Members
  place_on = with_member (text_of m.GeoLocation) (place_data policy) check_on

  abbrev failover_on : Members
  failover_on = with_member (text_of m.Failover) (failover_data policy) place_on

  abbrev cidr_on : Members
  cidr_on = with_member (text_of m.CidrRoutingConfig) (cidr_data policy) failover_on

  more_multivalue : IsMore multivalue_on
  more_multivalue = more_with (text_of m.MultiValueAnswer) (multivalue_data policy)
      (from_name name rtype policy what) refl

  more_check : IsMore check_on
  more_check = more_with (text_of m.HealthCheckId) (check_data check) multivalue_on more_multivalue

  more_place : IsMore place_on
  more_place = more_with (text_of m.GeoLocation) (place_data policy) check_on more_check

  more_failover : IsMore failover_on
  more_failover = more_with (text_of m.Failover) (failover_data policy) place_on more_place

  more_cidr : IsMore cidr_on
  more_cidr = more_with (text_of m.CidrRoutingConfig) (cidr_data policy) failover_on more_failover

  abbrev alias_led : List ℕ
  alias_led = led (text_of m.AliasTarget) (alias_data zone (alias_of what))

  abbrev cidr_led : List ℕ
  cidr_led = led (text_of m.CidrRoutingConfig) (cidr_data policy)

  abbrev failover_led : List ℕ
  failover_led = led (text_of m.Failover) (failover_data policy)

  abbrev place_led : List ℕ
  place_led = led (text_of m.GeoLocation) (place_data policy)

  abbrev check_led : List ℕ
  check_led = led (text_of m.HealthCheckId) (check_data check)

  abbrev multivalue_led : List ℕ
  multivalue_led = led (text_of m.MultiValueAnswer) (multivalue_data policy)

  text_of_all : members_text false (all_members zone name rtype policy what check)
      ≡ alias_led ++ (cidr_led ++ (failover_led ++ (place_led ++ (check_led ++ (multivalue_led
      ++ name_on_text)))))
  text_of_all =
      led_is (text_of m.AliasTarget) (alias_data zone (alias_of what)) cidr_on more_cidr
      ∙ ap (λ t. alias_led ++ t) (
      led_is (text_of m.CidrRoutingConfig) (cidr_data policy) failover_on more_failover
      ∙ ap (λ t. cidr_led ++ t) (
      led_is (text_of m.Failover) (failover_data policy) place_on more_place
      ∙ ap (λ t. failover_led ++ t) (
      led_is (text_of m.GeoLocation) (place_data policy) check_on more_check
      ∙ ap (λ t. place_led ++ t) (
      led_is (text_of m.HealthCheckId) (check_data check) multivalue_on more_multivalue
      ∙ ap (λ t. check_led ++ t) (
      led_is (text_of m.MultiValueAnswer) (multivalue_data policy)
      (from_name name rtype policy what) refl
      ∙ ap (λ t. multivalue_led ++ t) text_from_name)))))

-- ---- the pieces are that text

glued : (comma a c f p k v n q r o vs e i t y s w z : List ℕ)
    → (comma ++ (123 ∷ (a ++ ((c ++ (f ++ p)) ++ (k ++ (v ++ (n ++ (q ++ (r ++ o)))))))))
    ++ (vs ++ (e ++ (i ++ (t ++ (y ++ (s ++ (w ++ z)))))))
    ≡ comma ++ (123 ∷ (a ++ (c ++ (f ++ (p ++ (k ++ (v ++ (n ++ (q ++ (r ++ ((o ++ (vs ++ e))
    ++ (i ++ (t ++ (y ++ (s ++ (w ++ z))))))))))))))))
glued comma a c f p k v n q r o vs e i t y s w z = simp append_assoc refl

pub set_is_whole : (later : Bool) (zone : ℕ) (name : List (List ℕ)) (rtype : RType)
    (policy : Routing) (what : Body) (check : Option ℕ) → AreOfType rtype what
    → set_pieces later zone (set_of name rtype policy what check)
    ≡ comma_if later ++ compact_text (set_object zone (set_of name rtype policy what check))
unfolding front_text rest_text
set_is_whole later zone name rtype policy what check of_type =
    let before = λ (t : List ℕ). comma_if later ++ (123 ∷ (alias_led zone name rtype policy what check
    ++ (cidr_led zone name rtype policy what check ++ (failover_led zone name rtype policy what check
    ++ (place_led zone name rtype policy what check ++ (check_led zone name rtype policy what check
    ++ (multivalue_led zone name rtype policy what check ++ (codes "\"Name\":"
    ++ (quoted (names.text_of name) ++ (region zone name rtype policy what check
    ++ (t ++ (ident zone name rtype policy what check ++ (ttl zone name rtype policy what check
    ++ end_text zone name rtype policy what check))))))))))))) in
    glued (comma_if later) (alias_led zone name rtype policy what check)
    (cidr_led zone name rtype policy what check) (failover_led zone name rtype policy what check)
    (place_led zone name rtype policy what check) (check_led zone name rtype policy what check)
    (multivalue_led zone name rtype policy what check) (codes "\"Name\":")
    (quoted (names.text_of name)) (region zone name rtype policy what check)
    (list_opening (alias_of what)) (value_pieces false rtype (wires_of what))
    (list_closing (alias_of what)) (ident zone name rtype policy what check)
    (ttl zone name rtype policy what check) (codes ",\"Type\":") (quoted (types.text_of rtype))
    (weight zone name rtype policy what check) (codes "}")
    ∙ ap before (sym (shown_values rtype what of_type))
    ∙ ap (λ t. comma_if later ++ 123 ∷ t) (sym (text_of_all zone name rtype policy what check))
    ∙ ap (λ d. comma_if later ++ compact_text d) (sym (is_members zone name rtype policy what check))
