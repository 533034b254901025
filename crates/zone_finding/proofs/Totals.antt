-- What is counted of all zones, kept by edits, and what it tells.
use Rattle.std.proofs.Common.{◌≡◌, ◌≤◌, ◌<◌, ◌+◌, ◌-◌, ◌*◌, ◌%◌, ◌^◌, ℕ, List, [], ◌∷◌, length, set, ap, refl, Option, Some, Bool, true, false, cond, arith}
use Rattle.std.specs.Prelude.{◌==◌, is_some, slice_get}
use Rattle.std.specs.List.{AllByRecursion, insert, remove, sum_by}
use Rattle.std.proofs.lemmas.List.{length-map}
use Rattle.std.proofs.lemmas.List.Sums.{sum_by-cons}
use Rattle.zone_list.specs.Telling.{is_alias}
use Rattle.zone_list.specs.Stored.{Kept, Slots}
use Rattle.zone_list.proofs.Cells.{sum_insert, sum_remove, sum_set}
use Rattle.zone_list.specs.SumsRecord.{Sums}
use Rattle.zone_list.specs.Sums.{aliases_in, aliases_of, checked_in, checked_of, octets_in, octets_of, one_of}
use Rattle.zone_list.specs.Slotted.{Slotted}
use Rattle.zone_list.specs.Orders.{slotted_at, slotted_of, set_in}
use Rattle.zone_list.specs.Kept.{AreIntact, Listed, IsIntact, zone_in, zones_in}
use Rattle.zone_list.specs.Zones.{CanStand, Zone, placed_in}
use Rattle.zone_finding.specs.Counted.{AreCounted, counted_in, octets_in_all, places_in, sets_in_all}

recounted : (octets total now before after r : ℕ) → octets ≡ total % 2 ^ 64 → now + before ≡ total + after
    → (r + before) % 2 ^ 64 ≡ (octets + after) % 2 ^ 64 → r < 2 ^ 64 → r ≡ now % 2 ^ 64
recounted octets total now before after r is sum new few = omega (arith, is, sum, new, few)

module _ (store now : Slots) (list : List Listed) (octets : ℕ) (counted : AreCounted store list octets)
    (slots : length now.slots ≡ length store.slots) (r : ℕ) (few : r < 2 ^ 64) where
  pub changed_counted : (i : ℕ) (k k_now : Listed) → slice_get list i ≡ Some k
      → now.free + length k_now.order ≡ store.free + length k.order
      → (r + k.sums.octets) % 2 ^ 64 ≡ (octets + k_now.sums.octets) % 2 ^ 64
      → AreCounted now (set list i k_now) r
  changed_counted i k k_now at places again = record {
    sets = (let all = sum_set places_in list i k k_now at in let was = counted.sets in
        omega (arith, all, was, places, slots));
    all_octets = recounted octets (sum_by counted_in list) (sum_by counted_in (set list i k_now)) k.sums.octets
        k_now.sums.octets r counted.all_octets (sum_set counted_in list i k k_now at) again few;
  }

  pub opened_counted : (n : ℕ) (k : Listed) → now.free + length k.order ≡ store.free
      → (r + 0) % 2 ^ 64 ≡ (octets + k.sums.octets) % 2 ^ 64 → AreCounted now (insert list n k) r
  opened_counted n k places again = record {
    sets = (let all = sum_insert places_in list n k in let was = counted.sets in
        omega (arith, all, was, places, slots));
    all_octets = (let all = sum_insert counted_in list n k in
        recounted octets (sum_by counted_in list) (sum_by counted_in (insert list n k)) 0 k.sums.octets r
        counted.all_octets (omega (arith, all)) again few);
  }

  pub closed_counted : (i : ℕ) (k : Listed) → slice_get list i ≡ Some k
      → now.free ≡ store.free + length k.order
      → (r + k.sums.octets) % 2 ^ 64 ≡ (octets + 0) % 2 ^ 64 → AreCounted now (remove list i) r
  closed_counted i k at places again = record {
    sets = (let all = sum_remove places_in list i k at in let was = counted.sets in
        omega (arith, all, was, places, slots));
    all_octets = (let all = sum_remove counted_in list i k at in
        recounted octets (sum_by counted_in list) (sum_by counted_in (remove list i)) k.sums.octets 0 r
        counted.all_octets (omega (arith, all)) again few);
  }

-- ---- room

pub roomy : (store now : Slots) (list : List Listed) (octets : ℕ) → AreCounted store list octets
    → length now.slots + store.free ≡ length store.slots + now.free → AreCounted now list octets
roomy store now list octets counted grown = record {
  sets = (let was = counted.sets in omega (arith, was, grown));
  all_octets = counted.all_octets;
}

-- ---- how much there can be

few_octets : (apex : List (List ℕ)) (placed : List Slotted) → AllByRecursion (λ p. CanStand apex p.set) placed
    → octets_of placed ≤ 65536 * length placed
few_octets apex [] each = omega arith
few_octets apex (p ∷ placed) each =
    let one = each.0.spelled.short in
    let rest = few_octets apex placed each.1 in
    let sum = sum_by-cons octets_in p placed in
    omega (arith, one, rest, sum)

one_at_most : (b : Bool) → one_of b ≤ 1
one_at_most false = omega arith
one_at_most true = omega arith

few_aliases : (placed : List Slotted) → aliases_of placed ≤ length placed
few_aliases [] = omega arith
few_aliases (p ∷ placed) =
    let one = one_at_most (is_alias p.set.body) in
    let rest = few_aliases placed in
    let sum = sum_by-cons aliases_in p placed in
    omega (arith, one, rest, sum)

few_checked : (placed : List Slotted) → checked_of placed ≤ length placed
few_checked [] = omega arith
few_checked (p ∷ placed) =
    let one = one_at_most (is_some p.set.check) in
    let rest = few_checked placed in
    let sum = sum_by-cons checked_in p placed in
    omega (arith, one, rest, sum)

abbrev in_zone : Zone → ℕ
in_zone zone = octets_of zone.placed

abbrev sets_in_zone : Zone → ℕ
sets_in_zone zone = length zone.placed

first_sets : (zone : Zone) (zones : List Zone)
    → sets_in_all (zone ∷ zones) ≡ length zone.placed + sets_in_all zones
first_sets zone zones = sum_by-cons sets_in_zone zone zones

first_octets : (zone : Zone) (zones : List Zone)
    → octets_in_all (zone ∷ zones) ≡ octets_of zone.placed + octets_in_all zones
first_octets zone zones = sum_by-cons in_zone zone zones

first_places : (k : Listed) (list : List Listed)
    → sum_by places_in (k ∷ list) ≡ length k.order + sum_by places_in list
first_places k list = sum_by-cons places_in k list

first_counted : (k : Listed) (list : List Listed)
    → sum_by counted_in (k ∷ list) ≡ k.sums.octets + sum_by counted_in list
first_counted k list = sum_by-cons counted_in k list

-- the sets of one zone are some of all
some_of_all : (zones : List Zone) (id : ℕ) → length (placed_in zones id) ≤ sets_in_all zones
some_of_all [] id = omega arith
some_of_all (zone ∷ zones) id = by (zone.id == id) (some_of_all zones id)
  where
    by : (b : Bool) → length (placed_in zones id) ≤ sets_in_all zones
        → length (cond b zone.placed (placed_in zones id)) ≤ sets_in_all (zone ∷ zones)
    by true rest =
        let sum = first_sets zone zones in
        let h : length zone.placed ≤ sets_in_all (zone ∷ zones) = omega (arith, sum) in h
    by false rest =
        let sum = first_sets zone zones in
        let h : length (placed_in zones id) ≤ sets_in_all (zone ∷ zones) = omega (arith, sum, rest) in h

module _ (slots : List (Option Kept)) where
  as_many : (k : Listed) → length (slotted_of slots k.id k.order) ≡ length k.order
  as_many k = length-map k.order (slotted_at (set_in slots k.id))

  pub all_places : (list : List Listed) → sets_in_all (zones_in slots list) ≡ sum_by places_in list
  all_places [] = refl
  all_places (k ∷ list) =
      let a : sets_in_all (zones_in slots (k ∷ list))
      ≡ length (slotted_of slots k.id k.order) + sets_in_all (zones_in slots list) =
      first_sets (zone_in slots k) (zones_in slots list) in
      let b = first_places k list in
      let one = as_many k in
      let rest = all_places list in
      omega (arith, a, b, one, rest)

  -- what each zone counts is exact where there are few sets in all
  exact : (k : Listed) → IsIntact slots k → length k.order < 2 ^ 32
      → k.sums.octets ≡ octets_of (slotted_of slots k.id k.order)
  exact k stands few =
      let bound = few_octets k.apex (slotted_of slots k.id k.order) stands.each in
      let many = as_many k in
      let is = ap (λ (s : Sums). s.octets) stands.counted in
      omega (arith, bound, many, few, is)

  all_exact : (list : List Listed) → AllByRecursion (IsIntact slots) list → sum_by places_in list < 2 ^ 32
      → sum_by counted_in list ≡ octets_in_all (zones_in slots list)
  all_exact [] each few = refl
  all_exact (k ∷ list) each few =
      let places = first_places k list in
      let a = first_counted k list in
      let b : octets_in_all (zones_in slots (k ∷ list))
      ≡ octets_of (slotted_of slots k.id k.order) + octets_in_all (zones_in slots list) =
      first_octets (zone_in slots k) (zones_in slots list) in
      let one = exact k each.0 (omega (arith, places, few)) in
      let rest = all_exact list each.1 (omega (arith, places, few)) in
      omega (arith, a, b, one, rest)

  bounded : (list : List Listed) → AllByRecursion (IsIntact slots) list
      → octets_in_all (zones_in slots list) ≤ 65536 * sum_by places_in list
  bounded [] each = omega arith
  bounded (k ∷ list) each =
      let places = first_places k list in
      let b : octets_in_all (zones_in slots (k ∷ list))
      ≡ octets_of (slotted_of slots k.id k.order) + octets_in_all (zones_in slots list) =
      first_octets (zone_in slots k) (zones_in slots list) in
      let one = few_octets k.apex (slotted_of slots k.id k.order) each.0.each in
      let many = as_many k in
      let rest = bounded list each.1 in
      omega (arith, places, b, one, many, rest)

  zone_bounded : (list : List Listed) → AllByRecursion (IsIntact slots) list → (id : ℕ)
      → octets_of (placed_in (zones_in slots list) id) ≤ 65536 * length (placed_in (zones_in slots list) id)
  zone_bounded [] each id = omega arith
  zone_bounded (k ∷ list) each id = by (k.id == id) (zone_bounded list each.1 id)
    where
      by : (b : Bool) → octets_of (placed_in (zones_in slots list) id) ≤ 65536 * length (placed_in (zones_in slots list) id)
          → octets_of (cond b (slotted_of slots k.id k.order) (placed_in (zones_in slots list) id))
          ≤ 65536 * length (cond b (slotted_of slots k.id k.order) (placed_in (zones_in slots list) id))
      by true rest = few_octets k.apex (slotted_of slots k.id k.order) each.0.each
      by false rest = rest

module _ (store : Slots) (list : List Listed) (octets : ℕ) (kept : AreIntact store.slots list)
    (counted : AreCounted store list octets) (few : length store.slots < 2 ^ 32) where
  few_places : sum_by places_in list < 2 ^ 32
  few_places = let is = counted.sets in omega (arith, is, few)

  pub all_sets : sets_in_all (zones_in store.slots list) ≡ length store.slots - store.free
  all_sets = let is = counted.sets in let all = all_places store.slots list in omega (arith, is, all)

  pub whole_octets : octets ≡ octets_in_all (zones_in store.slots list)
  whole_octets =
      let is = counted.all_octets in
      let all = all_exact store.slots list kept.each few_places in
      let bound = bounded store.slots list kept.each in
      let places = few_places in
      omega (arith, is, all, bound, places)

  pub few_in : (id : ℕ) → length (placed_in (zones_in store.slots list) id) < 2 ^ 32
  few_in id =
      let some = some_of_all (zones_in store.slots list) id in
      let all = all_places store.slots list in
      let places = few_places in
      omega (arith, some, all, places)

  pub zone_octets : (id : ℕ) → octets_of (placed_in (zones_in store.slots list) id) % 2 ^ 64
      ≡ octets_of (placed_in (zones_in store.slots list) id)
  zone_octets id =
      let bound = zone_bounded store.slots list kept.each id in
      let many = few_in id in
      omega (arith, bound, many)

  pub zone_aliases : (id : ℕ) → aliases_of (placed_in (zones_in store.slots list) id) % 2 ^ 64
      ≡ aliases_of (placed_in (zones_in store.slots list) id)
  zone_aliases id =
      let bound = few_aliases (placed_in (zones_in store.slots list) id) in
      let many = few_in id in
      omega (arith, bound, many)

  pub zone_checked : (id : ℕ) → checked_of (placed_in (zones_in store.slots list) id) % 2 ^ 64
      ≡ checked_of (placed_in (zones_in store.slots list) id)
  zone_checked id =
      let bound = few_checked (placed_in (zones_in store.slots list) id) in
      let many = few_in id in
      omega (arith, bound, many)
