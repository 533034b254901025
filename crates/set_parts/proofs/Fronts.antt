-- The octets that tell a set's key stand in front of its octets.
use Rattle.std.proofs.Common.{◌≡◌, ℕ, ◌+◌, ◌≤◌, List, [], ◌∷◌, ◌++◌, length, arith, ap, ◌∙◌, sym, refl, append_assoc, length-append}
use Rattle.octets.specs.Numbers.{two_octets, four_octets}
use Rattle.set_reading.specs.Labels.{wire}
use Rattle.set_reading.specs.Types.{number_of}
use Rattle.set_reading.specs.RoutingRecord.{Routing}
use Rattle.set_reading.specs.RoutingRecord.TheVariants as routing
use Rattle.set_reading.specs.RecordSetRecord.{RecordSet}
use Rattle.set_reading.specs.Octets.{body_octets, check_octets, place_octets, role_number, routing_octets, text_octets}
use Rattle.set_parts.specs.Heads.{policy_front, key_octets}
use Rattle.set_parts.specs.Laws.{KeyIsInFront, KeysAreInFront}
use Rattle.set_reading.specs.Sets.{IsRouting}

-- what stands behind the identifier of a policy
abbrev policy_back : Routing → List ℕ
policy_back routing.Simple = []
policy_back (routing.Weighted ident weight) = weight ∷ []
policy_back (routing.Failover ident role) = role_number role ∷ []
policy_back (routing.Geolocation ident where_to) = place_octets where_to
policy_back (routing.Latency ident region) = text_octets region
policy_back (routing.Multivalue ident) = []
policy_back (routing.Cidr ident collection location) = four_octets collection ++ text_octets location

append_nothing : (xs : List ℕ) → xs ++ [] ≡ xs
append_nothing [] = refl
append_nothing (x ∷ xs) = ap (λ ys. x ∷ ys) (append_nothing xs)

halves : (policy : Routing) → routing_octets policy ≡ policy_front policy ++ policy_back policy
halves routing.Simple = refl
halves (routing.Weighted ident weight) = refl
halves (routing.Failover ident role) = refl
halves (routing.Geolocation ident where_to) = refl
halves (routing.Latency ident region) = refl
halves (routing.Multivalue ident) = ap (λ xs. 5 ∷ length ident ∷ xs) (sym (append_nothing ident))
halves (routing.Cidr ident collection location) =
    ap (λ xs. 6 ∷ xs) (append_assoc (text_octets ident) (four_octets collection) (text_octets location))

few : (policy : Routing) → IsRouting policy → length (policy_front policy) ≤ 130
few routing.Simple is = omega arith
few (routing.Weighted ident weight) is = let most = is.short in omega (arith, most)
few (routing.Failover ident role) is = let most = is.short in omega (arith, most)
few (routing.Geolocation ident where_to) is = let most = is.0.short in omega (arith, most)
few (routing.Latency ident region) is = let most = is.0.short in omega (arith, most)
few (routing.Multivalue ident) is = let most = is.short in omega (arith, most)
few (routing.Cidr ident collection location) is = let most = is.0.short in omega (arith, most)

pub keys_are_in_front : KeysAreInFront
keys_are_in_front set is =
    let name = wire set.name in
    let type = two_octets (number_of set.rtype) in
    let front = policy_front set.routing in
    let back = policy_back set.routing in
    let after = body_octets set.body ++ check_octets set.check in
    let head : name ++ type ++ routing_octets set.routing ≡ (name ++ (type ++ front)) ++ back =
    ap (λ t. name ++ type ++ t) (halves set.routing) ∙ append_assoc name type (front ++ back)
    ∙ ap (λ t. name ++ t) (sym (append_assoc type front back)) ∙ sym (append_assoc name (type
    ++ front) back) in
    record {
      rest = back ++ after;
      in_front =
          append_assoc (name ++ type ++ routing_octets set.routing) (body_octets set.body)
          (check_octets set.check)
          ∙ ap (λ t. t ++ after) head ∙ append_assoc (name ++ (type ++ front)) back after;
      few = omega (
        arith,
        length-append name (type ++ front),
        is.name.raw.fits,
        few set.routing is.routing,
      );
    }
