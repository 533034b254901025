-- Where the policies of a group's sets stand, and the octets from there on.
use Rattle.std.proofs.Common.{◌≡◌, ℕ, ◌+◌, ◌-◌, ◌≤◌, ◌<◌, List, ◌++◌, length, take, drop}
use Rattle.std.proofs.Common.{refl, sym, ap, ◌∙◌, subst, arith, length-append, length-take, [], ◌∷◌, Bool, Option, None, Some}
use Rattle.std.specs.Prelude.{slice_get, IfSome, option_map}
use Rattle.std.proofs.lemmas.Bool.Decides.{Decides-and, Decides-eqb}
use Rattle.std.proofs.lemmas.List.{drop-take, length-map, take-append-drop, take-take}
use Rattle.std.proofs.Math.Seq.{drop-append_seam, take-append_seam}
use Rattle.std.proofs.lemmas.Option.{slice_get-map}
use Rattle.dns_name.specs.Labels.{wire}
use Rattle.dns_name.specs.OrderLaws.{same_labels-Decides}
use Rattle.rdata_layout.specs.Types.{number_of}
use Rattle.rdata_layout.specs.declared.types.RType.{RType}
use Rattle.zone_table.proofs.Among.{among_at}
use Rattle.zone_table.specs.Looking.{IsGroupNow, IsSetOfGroup, slots_in}
use Rattle.zone_table.specs.Octets.{body_octets, check_octets, head_octets}
use Rattle.octets.specs.Numbers.{four_octets}
use Rattle.routing.specs.declared.policies.Place.{Place}
use Rattle.routing.specs.declared.policies.Place.TheVariants as place
use Rattle.routing.specs.declared.policies.Routing.{Routing}
use Rattle.routing.specs.declared.policies.Routing.TheVariants as policy
use Rattle.zone_table.specs.Octets.{place_octets, role_number, routing_octets, set_octets, text_octets}
use Rattle.zone_table.specs.SetsOfSetReading.{IsPlace, IsRouting}
use Rattle.zone_table.specs.Slotted.{Slotted}
use Rattle.zone_table.specs.Policies.{PolicyIsAt}
use Rattle.zone_table.specs.RecordSetRecord.{RecordSet}
use Rattle.zone_table.specs.SetRefRecord.{SetRef}
use Rattle.zone_table.specs.Sets.{IsAmong, group, is_of_group}
use Rattle.zone_table.specs.Spelling.{IsPart, from_policy}
use Rattle.zone_table.specs.Zones.{Zone, placed_in}
use Rattle.zone_table.specs.GroupRecord.{Group}
use Rattle.policy_select.specs.Groups.{flags_in, members_of, sets_in, sets_in_zone}
use Rattle.policy_select.specs.Members.{PoliciesAreAt}
use Rattle.policy_select.proofs.Members.{got_of_drop, got_of_take}
use Rattle.policy_select.proofs.Targets.{as_many, found_sets, picked_so}

-- ---- the place of a policy

head_long : (name two policy : List ℕ) → length two ≡ 2
    → length (name ++ two ++ policy) ≡ length name + 2 + length policy
head_long name two policy e =
    omega (arith, e, length-append (name ++ two) policy, length-append name two)

-- name and type stand before the policy
pub parted : (set : RecordSet)
    → length (set_octets set) ≡ length (wire set.name) + 2 + length (from_policy set)
parted set =
    let body = body_octets set.body in
    let check = check_octets set.check in
    let policy = routing_octets set.routing in
    let head : length (head_octets set) ≡ length (wire set.name) + 2 + length policy =
    head_long (wire set.name) _ policy refl in
    omega (
      arith,
      head,
      length-append (head_octets set ++ body) check,
      length-append (head_octets set) body,
      length-append policy (body ++ check),
      length-append body check,
    )

-- so it stands as far from the front as the octets in front of it are
pub placed : (held : Option RecordSet) (octets policy : List ℕ) (n : ℕ)
    → n ≡ length octets - length policy
    → IfSome held (λ set. octets ≡ set_octets set)
    → IfSome held (λ set. IsPart policy (from_policy set) set)
    → IfSome held (λ set. PolicyIsAt set n)
placed None octets policy n is whole part = tt
placed (Some set) octets policy n is whole part =
    omega (arith, is, ap (λ (o : List ℕ). length o) whole, ap (λ (o : List ℕ). length o) part.same, parted set)

-- a set of a group has its name
its_name : (all : List RecordSet) (name : List (List ℕ)) (rtype : RType) (set : RecordSet)
    → IsAmong (group all name rtype) set → name ≡ set.name
its_name all name rtype set there =
    ((Decides-and _ _ (same_labels-Decides name set.name)
    (Decides-eqb (number_of rtype) (number_of set.rtype))).0
    (picked_so (is_of_group name rtype) all set there)).0

-- so the policies of all of them stand where that of one does
pub all_placed : (zones : List Zone) (g : Group) → IsGroupNow zones g → (first : RecordSet) (i n : ℕ)
    → slice_get (sets_in zones g) i ≡ Some first → PolicyIsAt first n
    → PoliciesAreAt (sets_in zones g) n
all_placed zones g (name, rtype, is) first i n at its = λ set there.
    let sets = found_sets zones g.zone name rtype g is in
    let all = sets_in_zone zones g.zone in
    let one = its_name all name rtype first
    (subst (λ (xs : List RecordSet). IsAmong xs first) sets (among_at (sets_in zones g) i first at)) in
    let other = its_name all name rtype set (subst (λ (xs : List RecordSet). IsAmong xs set) sets there) in
    ap (λ (labels : List (List ℕ)). length (wire labels) + 2) (sym other ∙ one) ∙ its

-- ---- a member by its slot

slot_back : (o : Option Slotted) (slot : ℕ) → option_map (λ (p : Slotted). p.slot) o ≡ Some slot
    → (p : Slotted) × (o ≡ Some p) × (p.slot ≡ slot)
slot_back None slot e = absurd (grind (arith, e))
slot_back (Some p) slot e = (p, refl, (let same : p.slot ≡ slot = grind (arith, e) in same))

pub member_there : (zones : List Zone) (g : Group) (slots : List ℕ) → slots ≡ slots_in zones g
    → (i slot : ℕ) → slice_get slots i ≡ Some slot
    → (p : Slotted) × (slice_get (members_of zones g) i ≡ Some p) × (p.slot ≡ slot)
member_there zones g slots are i slot at =
    slot_back (slice_get (members_of zones g) i) slot
    (sym (slice_get-map (λ (p : Slotted). p.slot) (members_of zones g) i)
    ∙ ap (λ (ks : List ℕ). slice_get ks i) (sym are) ∙ at)

pub member_of : (zones : List Zone) (g : Group) (slots : List ℕ) → slots ≡ slots_in zones g
    → (i : ℕ) (ref : SetRef) → i < g.length → ref.zone ≡ g.zone → slice_get slots i ≡ Some ref.slot
    → IsSetOfGroup zones g i ref
member_of zones g slots are i ref within zone at =
    let there = member_there zones g slots are i ref.slot at in
    let all = placed_in zones g.zone in
    let found : slice_get all (g.start + i) ≡ Some there.0 =
    sym (got_of_drop all g.start i) ∙ sym (got_of_take (drop g.start all) g.length i within) ∙ there.1 in
    record {
      zone = zone;
      slot = (
        there.0.set,
        found ∙ ap (λ (slot : ℕ). Some (record { slot = slot; set = there.0.set })) there.2,
      );
    }

-- as many slots as sets
pub as_many_slots : (zones : List Zone) (g : Group) → IsGroupNow zones g
    → length (slots_in zones g) ≡ g.length
as_many_slots zones g now =
    length-map (members_of zones g) (λ (p : Slotted). p.slot)
    ∙ sym (length-map (members_of zones g) (λ (p : Slotted). p.set)) ∙ as_many zones g now

pub in_slots : (zones : List Zone) (g : Group) (slots : List ℕ) (i : ℕ) → IsGroupNow zones g
    → slots ≡ slots_in zones g → i < g.length → i < length slots
in_slots zones g slots i now are within =
    let many = as_many_slots zones g now in
    let size = ap (λ (o : List ℕ). length o) are in
    omega (arith, many, size, within)

-- what a view says of a member
pub flag_there : (zones : List Zone) (view : SetRef → Bool) (g : Group) (slots : List ℕ)
    → slots ≡ slots_in zones g → (i : ℕ) (ref : SetRef) (flag : Bool) → ref.zone ≡ g.zone
    → slice_get slots i ≡ Some ref.slot → flag ≡ view ref
    → slice_get (flags_in zones view g) i ≡ Some flag
flag_there zones view g slots are i ref flag zone at says =
    let there = member_there zones g slots are i ref.slot at in
    let said = λ (p : Slotted). view (record { zone = g.zone; slot = p.slot }) in
    let same : view ref ≡ said there.0 =
    ap (λ (z : ℕ). view (record { zone = z; slot = ref.slot })) zone
    ∙ ap (λ (k : ℕ). view (record { zone = g.zone; slot = k })) (sym there.2) in
    slice_get-map said (members_of zones g) i ∙ ap (option_map said) there.1
    ∙ ap (λ (b : Bool). Some b) (sym (says ∙ same))

-- the policies of a group stand where that of its first set does, which is held
pub by_held : (zones : List Zone) (g : Group) → IsGroupNow zones g → (held : Option RecordSet)
    (set : RecordSet) (n : ℕ) → slice_get (sets_in zones g) 0 ≡ Some set → held ≡ Some set
    → IfSome held (λ s. PolicyIsAt s n) → PoliciesAreAt (sets_in zones g) n
by_held zones g now held set n at is its =
    all_placed zones g now set 0 n at
    (subst (λ (h : Option RecordSet). IfSome h (λ s. PolicyIsAt s n)) is its)

-- ---- a piece in which a policy ends

-- what begins a list that was cut begins it whole, where enough was left
pub whole_front : (piece front rest : List ℕ) (n : ℕ) → piece ≡ take n (front ++ rest)
    → length front ≤ length piece → piece ≡ front ++ drop (length front) piece
whole_front piece front rest n is enough =
    let size = ap (λ (o : List ℕ). length o) is in
    let cut = length-take n (front ++ rest) in
    let k = length front in
    sym (take-append-drop k piece)
    ∙ ap (λ (o : List ℕ). o ++ drop k piece)
    (ap (take k) is ∙ take-take k n (front ++ rest) (omega (arith, size, cut, enough))
    ∙ take-append_seam front rest)

-- behind what stands in front of the rest
pub behind_front : (front others piece : List ℕ) (n : ℕ) → piece ≡ take n (front ++ others)
    → length front ≤ length piece → drop (length front) piece ≡ take (n - length front) others
behind_front front others piece n is enough =
    let size = ap (λ (o : List ℕ). length o) is in
    let cut = length-take n (front ++ others) in
    let k = length front in
    let whole : n ≡ k + (n - k) = omega (arith, size, cut, enough) in
    ap (drop k) is ∙ ap (λ (i : ℕ). drop k (take i (front ++ others))) whole
    ∙ drop-take k (n - k) (front ++ others) ∙ ap (take (n - k)) (drop-append_seam front others)

-- ---- a piece that is as long as any policy

text_long : (text others : List ℕ) (most : ℕ) → length text ≤ most
    → length (text_octets text ++ others) ≤ most + 1 + length others
text_long text others most short =
    let size = length-append text others in
    omega (arith, short, size)

place_short : (place : Place) → IsPlace place → length (place_octets place) ≤ 7
place_short (place.Continent where_to) is = omega arith
place_short (place.Country letters) is = omega (arith, is)
place_short (place.Subdivision letters part) is =
    let size = length-append letters (text_octets part) in
    let country = is.0 in
    let short = is.1.short in
    omega (arith, size, country, short)
place_short place.Anywhere is = omega arith

-- no policy has more than 263 octets
policy_short : (routing : Routing) → IsRouting routing → length (routing_octets routing) ≤ 263
policy_short policy.Simple is = omega arith
policy_short (policy.Weighted ident weight) is =
    let long = text_long ident (weight ∷ []) 128 is.short in omega (arith, long)
policy_short (policy.Failover ident role) is =
    let long = text_long ident (role_number role ∷ []) 128 is.short in omega (arith, long)
policy_short (policy.Geolocation ident place) is =
    let long = text_long ident (place_octets place) 128 is.0.short in
    let short = place_short place is.1 in
    omega (arith, long, short)
policy_short (policy.Latency ident region) is =
    let long = text_long ident (text_octets region) 128 is.0.short in
    let short = is.1.short in
    omega (arith, long, short)
policy_short (policy.Multivalue ident) is = let short = is.short in omega (arith, short)
policy_short (policy.Cidr ident collection location) is =
    let front = text_octets ident ++ four_octets collection in
    let all = length-append front (text_octets location) in
    let head = length-append (text_octets ident) (four_octets collection) in
    let four : length (four_octets collection) ≡ 4 = refl in
    let short = is.0.short in
    let other = is.1.short in
    omega (arith, all, head, four, short, other)

-- a piece of so much room has all of the policy at its front
pub in_room : (piece : List ℕ) (routing : Routing) (rest : List ℕ) (room : ℕ) → IsRouting routing
    → piece ≡ take room (routing_octets routing ++ rest) → 263 ≤ room
    → length (routing_octets routing) ≤ length piece
in_room piece routing rest room is same enough =
    let size = ap (λ (o : List ℕ). length o) same in
    let cut = length-take room (routing_octets routing ++ rest) in
    let whole = length-append (routing_octets routing) rest in
    let short = policy_short routing is in
    omega (arith, size, cut, whole, short, enough)
