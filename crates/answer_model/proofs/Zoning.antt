-- The zone of the longest name that holds a name, and the sets of QTYPE.
use Rattle.std.proofs.Common.{◌≡◌, ◌≢◌, ◌≤◌, ℕ, Bool, true, false, Some, None, Option, List, []}
use Rattle.std.proofs.Common.{◌∷◌, length, refl, sym, ◌∙◌, subst, inl, inr, arith}
use Rattle.std.specs.Prelude.{◌&&◌, ◌==◌, cond}
use Rattle.std.specs.Bool.{Decides}
use Rattle.std.proofs.lemmas.Bool.Decides.{Decides-eqb}
use Rattle.dns_name.specs.Order.{same_labels}
use Rattle.dns_name.specs.OrderLaws.{same_labels-Decides}
use Rattle.dns_name.specs.Suffix.{EndsWith}
use Rattle.zone_model.specs.Types.{number_of}
use Rattle.zone_model.specs.RTypeRecord.{RType}
use Rattle.zone_model.specs.RecordSetRecord.{RecordSet}
use Rattle.zone_model.specs.Zones.{IsAmong}
use Rattle.answer_model.specs.Laws.{AskedGroups, IsZoneFor, ZoneOrNone, ZonesAreLongest}
use Rattle.answer_model.specs.Sections.{asked_group}
use Rattle.zone_model.specs.Hosted.{HostedZone}
use Rattle.answer_model.specs.Zones.{or_else, zone_with, zone_for}
use Rattle.answer_model.proofs.Naming.{ends_shorter, ends_under, splits}

-- the zone at a name is one of them and has the name; or none has it
abbrev IsAtName : List HostedZone → (name : List (List ℕ)) → Option HostedZone → Type 0
IsAtName zones name None = (zone : HostedZone) → IsAmong zones zone → zone.apex ≢ name
IsAtName zones name (Some zone) = IsAmong zones zone × (zone.apex ≡ name)

-- one zone more, which has the name or not
one_more : (zone : HostedZone) (zones : List HostedZone) (name : List (List ℕ)) (b : Bool)
    → Decides b (zone.apex ≡ name) → (found : Option HostedZone) → IsAtName zones name found
    → IsAtName (zone ∷ zones) name (cond b (Some zone) found)
one_more zone zones name true decides found rest = (inl refl, decides.0 refl)
one_more zone zones name false decides None rest = other
  where
    other : (x : HostedZone) → IsAmong (zone ∷ zones) x → x.apex ≢ name
    other x (inl e) same =
        absurd (grind (arith, decides.1 (subst (λ (z : HostedZone). z.apex ≡ name) (sym e) same)))
    other x (inr there) same = rest x there same
one_more zone zones name false decides (Some found) rest = (inr rest.0, rest.1)

at_name : (zones : List HostedZone) (name : List (List ℕ)) → IsAtName zones name (zone_with zones name)
at_name [] name = λ zone there. absurd there
at_name (zone ∷ zones) name =
    one_more zone zones name (same_labels zone.apex name) (same_labels-Decides zone.apex name)
    (zone_with zones name) (at_name zones name)

-- of the zones that hold a name that one of them has, it is the longest
has_name : (zones : List HostedZone) (name : List (List ℕ)) (zone : HostedZone) → IsAmong zones zone
    → zone.apex ≡ name → IsZoneFor zones name zone
has_name zones name zone there same = record {
  there = there;
  above = ([], sym same);
  longest = λ other is_one ends.
      subst (λ (n : List (List ℕ)). length other.apex ≤ length n) (sym same)
      (ends_shorter name other.apex ends);
}

root_zone : (zones : List HostedZone) (found : Option HostedZone) → IsAtName zones [] found
    → ZoneOrNone zones [] found
root_zone zones None none = λ zone there ends. none zone there (root zone.apex ends)
  where
    root : (apex : List (List ℕ)) → EndsWith [] apex → apex ≡ []
    root apex ([], e) = sym e
    root apex (first ∷ more, e) = absurd (grind (arith, e))
root_zone zones (Some zone) at = has_name zones [] zone at.0 at.1

-- the zone at a name comes before the one for its parent
nearer : (zones : List HostedZone) (label : List ℕ) (name : List (List ℕ)) (found above : Option HostedZone)
    → IsAtName zones (label ∷ name) found → ZoneOrNone zones name above
    → ZoneOrNone zones (label ∷ name) (or_else found above)
nearer zones label name (Some zone) above at rest = has_name zones (label ∷ name) zone at.0 at.1
nearer zones label name None None none rest = λ zone there ends.
    elim (splits label name zone.apex ends) [
      | inl same ↦ none zone there (sym same)
      | inr higher ↦ rest zone there higher
    ]
nearer zones label name None (Some zone) none rest = record {
  there = rest.there;
  above = ends_under label name zone.apex rest.above;
  longest = λ other is_one ends. elim (splits label name other.apex ends) [
    | inl same ↦ absurd (none other is_one (sym same))
    | inr higher ↦ rest.longest other is_one higher
  ];
}

pub zones_are_longest : ZonesAreLongest
zones_are_longest zones [] = root_zone zones (zone_with zones []) (at_name zones [])
zones_are_longest zones (label ∷ name) =
    nearer zones label name (zone_with zones (label ∷ name)) (zone_for zones name)
    (at_name zones (label ∷ name)) (zones_are_longest zones name)

-- ---- the sets of QTYPE

-- a set of another type isn't taken
not_taken : (same typed : Bool) (set : RecordSet) (rest : List RecordSet) → typed ≡ false
    → cond (same && typed) (set ∷ rest) rest ≡ rest
not_taken true true set rest h = absurd (grind (arith, h))
not_taken true false set rest h = refl
not_taken false typed set rest h = refl

other_number : (qtype : ℕ) (rtype : RType) → number_of rtype ≢ qtype → (qtype == number_of rtype)
    ≡ false
other_number qtype rtype differs = by (qtype == number_of rtype)
    (Decides-eqb qtype (number_of rtype))
  where
    by : (b : Bool) → Decides b (qtype ≡ number_of rtype) → b ≡ false
    by true decides = absurd (differs (sym (decides.0 refl)))
    by false decides = refl

unknown : (sets : List RecordSet) (name : List (List ℕ)) (qtype : ℕ)
    → ((rtype : RType) → number_of rtype ≢ qtype) → asked_group sets name qtype ≡ []
unknown [] name qtype differs = refl
unknown (set ∷ sets) name qtype differs =
    not_taken (same_labels name set.name) (qtype == number_of set.rtype) set
    (asked_group sets name qtype) (other_number qtype set.rtype (differs set.rtype))
    ∙ unknown sets name qtype differs

pub asked_groups : AskedGroups
asked_groups = record { known = λ sets name rtype. refl; unknown = unknown }
