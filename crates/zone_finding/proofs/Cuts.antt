-- The NS sets of a zone, told by how many they are and how many labels their names have together.
use Rattle.std.proofs.Common.{◌≡◌, ◌≤◌, ◌<◌, ◌+◌, ◌*◌, ◌%◌, ◌^◌, ℕ, List, [], ◌∷◌, ◌++◌, length, ap, ◌∙◌, sym, None, Some, Bool, true, false, cond, subst, arith, inl, inr}
use Rattle.std.specs.Prelude.{◌==◌, is_some}
use Rattle.std.specs.Option.{unwrap_or}
use Rattle.std.specs.List.{AllByRecursion, flat_map, sum_by}
use Rattle.std.proofs.lemmas.List.{length-append}
use Rattle.std.proofs.lemmas.List.Sums.{sum_by-cons}
use Rattle.zone_list.specs.Labels.{frame, wire}
use Rattle.zone_list.specs.Suffix.{EndsWith}
use Rattle.zone_list.specs.Types.{number_of}
use Rattle.zone_list.specs.RTypeRecord.{RType}
use Rattle.zone_list.specs.RTypeRecord.TheVariants as rtype
use Rattle.zone_list.specs.RecordSetRecord.{RecordSet}
use Rattle.zone_list.specs.Octets.{body_octets, check_octets, routing_octets, set_octets}
use Rattle.octets.specs.Numbers.{two_octets}
use Rattle.zone_list.specs.Sums.{labels_in, labels_of, one_of, servers_in, servers_of}
use Rattle.zone_list.specs.Slotted.{Slotted, sets_of}
use Rattle.zone_list.specs.Sets.{IsAmong}
use Rattle.zone_list.specs.SumsRecord.{Sums}
use Rattle.zone_list.specs.Stored.{Slots}
use Rattle.zone_list.specs.Orders.{slotted_of}
use Rattle.zone_list.specs.Kept.{AreIntact, Listed, IsIntact, zones_in}
use Rattle.zone_list.specs.Zones.{CanStand, placed_in}
use Rattle.zone_finding.specs.Counted.{AreCounted}
use Rattle.zone_finding.specs.Looking.{ServersAreAt}
use Rattle.zone_finding.proofs.Naming.{its_sets, stands_here}
use Rattle.zone_finding.proofs.Totals.{few_in}

-- a name has no more labels than octets
few_labels : (labels : List (List ℕ)) → length labels ≤ length (flat_map frame labels)
few_labels [] = omega arith
few_labels (label ∷ labels) =
    let rest = few_labels labels in
    let e : length (flat_map frame (label ∷ labels)) ≡ length (frame label) + length (flat_map frame labels) =
    length-append (frame label) (flat_map frame labels) in
    omega (arith, rest, e)

-- and no more than its set has octets
short_name : (set : RecordSet) → length set.name ≤ length (set_octets set)
short_name set =
    let name = wire set.name in
    let two = two_octets (number_of set.rtype) in
    let policy = routing_octets set.routing in
    let what = body_octets set.body in
    let check = check_octets set.check in
    let a = length-append (name ++ two ++ policy ++ what) check in
    let b = length-append (name ++ two ++ policy) what in
    let c = length-append (name ++ two) policy in
    let d = length-append name two in
    let e = length-append (flat_map frame set.name) (0 ∷ []) in
    let f = few_labels set.name in
    omega (arith, a, b, c, d, e, f)

few_told : (b : Bool) (n most : ℕ) → n ≤ most → unwrap_or (cond b (Some n) None) 0 ≤ most
few_told true n most le = le
few_told false n most le = omega arith

pub few_in_all : (apex : List (List ℕ)) (placed : List Slotted)
    → AllByRecursion (λ p. CanStand apex p.set) placed → labels_of placed ≤ 65536 * length placed
few_in_all apex [] each = omega arith
few_in_all apex (p ∷ placed) each =
    let short = each.0.spelled.short in
    let name = short_name p.set in
    let one : labels_in p ≤ 65536 =
    few_told (number_of p.set.rtype == 2) (length p.set.name) 65536 (omega (arith, short, name)) in
    let rest = few_in_all apex placed each.1 in
    let sum = sum_by-cons labels_in p placed in
    omega (arith, one, rest, sum)

one_told : (b : Bool) (n : ℕ) → one_of (is_some (cond b (Some n) None)) ≤ 1
one_told true n = omega arith
one_told false n = omega arith

pub few_servers : (placed : List Slotted) → servers_of placed ≤ length placed
few_servers [] = omega arith
few_servers (p ∷ placed) =
    let one : servers_in p ≤ 1 = one_told (number_of p.set.rtype == 2) (length p.set.name) in
    let rest = few_servers placed in
    let sum = sum_by-cons servers_in p placed in
    omega (arith, one, rest, sum)

same_length : (name apex : List (List ℕ)) → EndsWith name apex → length name ≡ length apex → name ≡ apex
same_length name apex ([], e) same = e
same_length name apex (label ∷ first, e) same =
    (let all = ap (λ (n : List (List ℕ)). length n) e ∙ length-append (label ∷ first) apex in
    absurd (omega (arith, all, same)))

no_shorter : (name apex : List (List ℕ)) → EndsWith name apex → length apex ≤ length name
no_shorter name apex (first, e) =
    let all = ap (λ (n : List (List ℕ)). length n) e ∙ length-append first apex in
    omega (arith, all)

module _ (apex : List (List ℕ)) where
  -- as many labels as if the name were the apex
  abbrev least_in : Slotted → ℕ
  least_in p = servers_in p * length apex

  times : (s r n : ℕ) → (s + r) * n ≡ s * n + r * n
  times s r n = grind arith

  pub least_of : (placed : List Slotted) → sum_by least_in placed ≡ servers_of placed * length apex
  least_of [] = (let e : 0 ≡ 0 * length apex = omega arith in e)
  least_of (p ∷ placed) =
      sum_by-cons least_in p placed
      ∙ (ap (λ n. least_in p + n) (least_of placed)
      ∙ (sym (times (servers_in p) (servers_of placed) (length apex))
      ∙ ap (λ n. n * length apex) (sym (sum_by-cons servers_in p placed))))

  least_told : (b : Bool) (n : ℕ) → length apex ≤ n
      → one_of (is_some (cond b (Some n) None)) * length apex ≤ unwrap_or (cond b (Some n) None) 0
  least_told true n le = (let e : 1 * length apex ≡ length apex = omega arith in omega (arith, e, le))
  least_told false n le = omega arith

  at_least : (p : Slotted) → CanStand apex p.set → least_in p ≤ labels_in p
  at_least p stands =
      least_told (number_of p.set.rtype == 2) (length p.set.name)
      (no_shorter p.set.name apex stands.inside)

  pub all_least : (placed : List Slotted) → AllByRecursion (λ p. CanStand apex p.set) placed
      → sum_by least_in placed ≤ labels_of placed
  all_least [] each = omega arith
  all_least (p ∷ placed) each =
      let one = at_least p each.0 in
      let rest = all_least placed each.1 in
      let low = sum_by-cons least_in p placed in
      let high = sum_by-cons labels_in p placed in
      omega (arith, one, rest, low, high)

  its_name : (p : Slotted) → CanStand apex p.set → p.set.rtype ≡ rtype.Ns → least_in p ≡ labels_in p
      → p.set.name ≡ apex
  its_name p stands is same =
      let told_so : one_of (is_some (cond (number_of rtype.Ns == 2) (Some (length p.set.name)) None)) * length apex
      ≡ unwrap_or (cond (number_of rtype.Ns == 2) (Some (length p.set.name)) None) 0 =
      subst (λ (t : RType). one_of (is_some (cond (number_of t == 2) (Some (length p.set.name)) None)) * length apex
      ≡ unwrap_or (cond (number_of t == 2) (Some (length p.set.name)) None) 0) is same in
      let plain : 1 * length apex ≡ length p.set.name = told_so in
      same_length p.set.name apex stands.inside (omega (arith, plain))

  -- where no more labels are counted, each NS set has the name of the apex
  pub no_other : (placed : List Slotted) → AllByRecursion (λ p. CanStand apex p.set) placed
      → sum_by least_in placed ≡ labels_of placed → (set : RecordSet) → IsAmong (sets_of placed) set
      → set.rtype ≡ rtype.Ns → set.name ≡ apex
  no_other [] each same set there is = absurd there
  no_other (p ∷ placed) each same set (inl e) is =
      let one = at_least p each.0 in
      let rest = all_least placed each.1 in
      let low = sum_by-cons least_in p placed in
      let high = sum_by-cons labels_in p placed in
      ap (λ (s : RecordSet). s.name) (sym e)
      ∙ its_name p each.0 (ap (λ (s : RecordSet). s.rtype) e ∙ is)
      (let here : least_in p ≡ labels_in p = omega (arith, one, rest, low, high, same) in here)
  no_other (p ∷ placed) each same set (inr there) is =
      let one = at_least p each.0 in
      let rest = all_least placed each.1 in
      let low = sum_by-cons least_in p placed in
      let high = sum_by-cons labels_in p placed in
      no_other placed each.1 (omega (arith, one, rest, low, high, same)) set there is

-- modulo 2^64 nothing is lost
exact : (labels product least all servers n : ℕ) → least ≤ all → all ≤ 65536 * n → servers ≤ n → n < 2 ^ 32
    → labels ≡ all % 2 ^ 64 → product ≡ least % 2 ^ 64 → labels ≡ product → least ≡ all
exact labels product least all servers n low high some few is made same =
    omega (arith, low, high, some, few, is, made, same)

module _ (store : Slots) (list : List Listed) (octets : ℕ) (kept : AreIntact store.slots list)
    (counted : AreCounted store list octets) (few : length store.slots < 2 ^ 32) where
  -- what a zone counts tells that its NS sets have the name of the apex
  pub all_at : (id : ℕ) (k : Listed) → IsAmong list k → k.id ≡ id → (labels product : ℕ)
      → labels ≡ k.sums.labels → product ≡ (k.sums.servers * length k.apex) % 2 ^ 64
      → labels ≡ product → ServersAreAt (zones_in store.slots list) id k.apex
  all_at id k there its labels product is made same =
      let placed : List Slotted = slotted_of store.slots k.id k.order in
      let stands : IsIntact store.slots k = stands_here store.slots list kept k there in
      let here : placed ≡ placed_in (zones_in store.slots list) id =
      sym (its_sets store.slots list kept k there) ∙ ap (placed_in (zones_in store.slots list)) its in
      let many : length placed < 2 ^ 32 =
      subst (λ (ps : List Slotted). length ps < 2 ^ 32) (sym here) (few_in store list octets kept counted few id) in
      let some = few_servers placed in
      let servers_are : k.sums.servers ≡ servers_of placed =
      (let e = ap (λ (s : Sums). s.servers) stands.counted in omega (arith, e, some, many)) in
      let least = sum_by (least_in k.apex) placed in
      let made_so : product ≡ least % 2 ^ 64 =
      made ∙ ap (λ n. n % 2 ^ 64) (ap (λ n. n * length k.apex) servers_are ∙ sym (least_of k.apex placed)) in
      subst (λ (ps : List Slotted). (set : RecordSet) → IsAmong (sets_of ps) set
      → set.rtype ≡ rtype.Ns → set.name ≡ k.apex) here
      (no_other k.apex placed stands.each
      (exact labels product least (labels_of placed) (servers_of placed) (length placed)
      (all_least k.apex placed stands.each) (few_in_all k.apex placed stands.each) some many
      (is ∙ ap (λ (s : Sums). s.labels) stands.counted) made_so same))
