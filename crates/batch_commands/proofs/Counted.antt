-- How many sets there are after a change, and how many octets of them.
use Rattle.std.proofs.Common.{◌≡◌, ℕ, ◌+◌, ◌≤◌, List, [], ◌∷◌, length, ap, ◌∙◌, sym, refl, arith}
use Rattle.std.proofs.Common.{inl, inr, subst, Option, None, Some, true, false, Less, Equal}
use Rattle.std.specs.Prelude.{slice_get}
use Rattle.std.specs.List.{AllByRecursion, sum_by}
use Rattle.std.specs.Ordering.{is_lt}
use Rattle.std.proofs.lemmas.Bool.{cases_lt}
use Rattle.std.proofs.lemmas.Cmp.{tied_itself}
use Rattle.std.proofs.lemmas.List.{length-map}
use Rattle.std.proofs.lemmas.Option.{slice_get_within}
use Rattle.alias_links.proofs.Held.{sets_rise}
use Rattle.alias_links.specs.After.{changed_in, sets_in}
use Rattle.config_zones.proofs.Holding.{held_there, named}
use Rattle.config_zones.specs.Edited.{hosted_in}
use Rattle.config_zones.specs.Batches.{is_over, is_store_full}
use Rattle.config_zones.specs.Configs.{count_of, octets_of, with_sets}
use Rattle.config_zones.specs.Laws.{CountsAgree}
use Rattle.record_set.specs.Sets.{key_of}
use Rattle.record_set.specs.declared.sets.RecordSet.{RecordSet}
use Rattle.record_set.specs.declared.sets.SetKey.{SetKey}
use Rattle.config_zones.specs.Octets.{HasSpelling, set_octets}
use Rattle.alias_links.specs.Bounds.{is_before}
use Rattle.alias_links.specs.Found.{IsCount}
use Rattle.alias_links.specs.BoundRecord.TheVariants as bound
use Rattle.config_zones.specs.Changes.{AreThere, CanChange, without_all}
use Rattle.config_zones.specs.SetRefRecord.{SetRef}
use Rattle.config_zones.specs.Zones.{AreZones, CanStand, Zone, placed_in}
use Rattle.config_zones.proofs.Listing.{its_placed}
use Rattle.zone_model.proofs.Among.{place_of}
use Rattle.zone_model.proofs.Ordered.{keys_total}
use Rattle.zone_model.proofs.Places.{rising_at}
use Rattle.zone_model.specs.Keys.{key_cmp}
use Rattle.zone_model.specs.Slotted.{Slotted, sets_of}
use Rattle.zone_model.specs.Placing.{IsThere, IsSetOf}
use Rattle.zone_model.specs.Zones.{IsRising}
use Rattle.config_zones.specs.Counted.{octets_in_all, sets_in_all}
use Rattle.config_zones.specs.Edits.{IsAllowed}
use Rattle.config_zones.specs.Looking.{IsNextSet, RefersTo}
use Rattle.config_zones.specs.ZoneEditRecord.TheVariants.{Change}
use Rattle.batch_commands.specs.Sizes.{octets_in}
use Rattle.batch_commands.proofs.Fullness.{part_of_all, with_other}
use Rattle.batch_commands.proofs.Sums.{as_many_gone, changed_count, changed_sum, ones}

module _ (zones : List Zone) (are : AreZones zones) (id : ℕ) (remove : List SetKey)
    (add : List RecordSet) (allowed : IsAllowed zones (Change id remove add)) where
  abbrev sets : List RecordSet
  sets = sets_in zones id

  abbrev after : List RecordSet
  after = changed_in zones id remove add

  pub can : CanChange allowed.0.0.apex (placed_in zones id) remove add
  can = allowed.1 allowed.0.0.apex (allowed.0.0, allowed.0.1, allowed.0.2, refl)

  rising : IsRising sets
  rising = sets_rise zones are id

  pub there : AreThere sets remove
  there = can.there

  pub spelled : AllByRecursion HasSpelling add
  spelled = by add can.added.each
    where
      by : (some : List RecordSet)
          → AllByRecursion (λ set. CanStand allowed.0.0.apex set) some
          → AllByRecursion HasSpelling some
      by [] each = tt
      by (set ∷ some) each = (each.0.spelled, by some each.1)

  pub counted : length after + length remove ≡ length sets + length add
  counted = changed_count remove add sets rising can.added.differ can.new there

  pub few_gone : length remove ≤ length sets
  few_gone =
      let gone = as_many_gone remove sets rising there in
      let a = ones sets in
      omega (arith, gone, a)

  pub octets_after : (gone : ℕ) → octets_in (without_all remove sets) + gone ≡ octets_in sets
      → octets_in after + gone ≡ octets_in sets + octets_in add
  octets_after gone e =
      let come = changed_sum remove add sets rising can.added.differ can.new
      (λ set. length (set_octets set)) in
      omega (arith, come, e)

  pub as_many : length sets ≡ length (placed_in zones id)
  as_many = length-map (placed_in zones id) (λ (p : Slotted). p.set)

  its_sets : sets ≡ sets_of allowed.0.0.placed
  its_sets =
      ap sets_of (ap (placed_in zones) (sym allowed.0.2)
      ∙ its_placed zones are.listed allowed.0.0 allowed.0.1)

  module _ (agree : CountsAgree) where
    -- a zone has no more than all have
    pub part_is : length sets ≤ sets_in_all zones
    part_is =
        let part = part_of_all count_of zones are.listed allowed.0.0 allowed.0.1 in
        let same = ap length its_sets in
        let all = agree.sets zones in
        omega (arith, part, same, all)

    pub its_octets : octets_in sets ≤ octets_in_all zones
    its_octets =
        let part = part_of_all octets_of zones are.listed allowed.0.0 allowed.0.1 in
        let same = ap octets_in its_sets in
        let all = agree.octets zones in
        omega (arith, part, same, all)

    pub sets_enough : length remove ≤ sets_in_all zones
    sets_enough =
        let part = part_is in
        let few = few_gone in
        omega (arith, part, few)

    all_sets_after : sum_by count_of (with_sets (hosted_in zones) id after) + length remove
        ≡ sets_in_all zones + length add
    all_sets_after =
        let other = with_other count_of (λ (some : List RecordSet). length some) (λ z. refl) after
        zones are.listed id allowed.0 in
        let all = agree.sets zones in
        let count = counted in
        omega (arith, other, all, count)

    module _ (gone : ℕ) (went : octets_in (without_all remove sets) + gone ≡ octets_in sets) where
      pub octets_enough : gone ≤ octets_in_all zones
      octets_enough = let its = its_octets in omega (arith, its, went)

      all_octets_after : sum_by octets_of (with_sets (hosted_in zones) id after) + gone
          ≡ octets_in_all zones + octets_in add
      all_octets_after =
          let other = with_other octets_of octets_in (λ z. refl) after zones are.listed id allowed.0
          in
          let all = agree.octets zones in
          let size = octets_after gone went in
          omega (arith, other, all, size)

      pub full_is : (sets_now octets_now : ℕ)
          → sets_now + length remove ≡ sets_in_all zones + length add
          → octets_now + gone ≡ octets_in_all zones + octets_in add
          → is_over sets_now octets_now ≡ is_store_full (with_sets (hosted_in zones) id after)
      full_is sets_now octets_now c d =
          let a = all_sets_after in
          let b = all_octets_after in
          let e : sets_now ≡ sum_by count_of (with_sets (hosted_in zones) id after) =
          omega (arith, a, c) in
          let f : octets_now ≡ sum_by octets_of (with_sets (hosted_in zones) id after) =
          omega (arith, b, d) in
          ap (λ n. is_over n octets_now) e
          ∙ ap (λ n. is_over (sum_by count_of (with_sets (hosted_in zones) id after)) n) f

-- ---- the set of a key, as it is found

module _ (sets : List RecordSet) (key : SetKey) (has : IsThere sets key) where
  its_place : (k : ℕ) × (slice_get sets k ≡ Some has.0)
  its_place = place_of sets has.0 has.1.there

  not_before : is_before (bound.From key) has.0 ≡ false
  not_before =
      ap is_lt (subst (λ k. key_cmp (key_of has.0) k ≡ Equal) has.1.same_key
      (tied_itself keys_total (key_of has.0)))

  -- it is found where not all sets stand before it
  pub not_all_before : (n : ℕ) → IsCount sets (bound.From key) n → length sets ≤ n → ⊥
  not_all_before n count all =
      let within = slice_get_within sets its_place.0 has.0 its_place.1 in
      let is = count.before its_place.0 has.0 (omega (arith, within, all)) its_place.1 in
      let no = not_before in
      grind (arith, is, no)

  -- the first set that doesn't stand before it is the one of the key
  pub found_at : (at : ℕ) → IsRising sets → IsCount sets (bound.From key) at
      → (set : RecordSet) → slice_get sets at ≡ Some set → IsSetOf sets key set
  found_at at rising count set there =
      elim (cases_lt its_place.0 at) [
        | inl lt ↦
            (let is = count.before its_place.0 has.0 lt its_place.1 in
            let no = not_before in
            absurd (grind (arith, is, no)))
        | inr le ↦ elim (cases_lt at its_place.0) [
          | inl lt ↦
              (let less = rising_at sets at its_place.0 set has.0 rising lt there its_place.1 in
              let is : is_before (bound.From key) set ≡ true =
              ap is_lt (subst (λ k. key_cmp (key_of set) k ≡ Less) has.1.same_key less) in
              let no = count.behind at set (omega arith) there in
              absurd (grind (arith, is, no)))
          | inr ge ↦
              (let same : its_place.0 ≡ at = omega (arith, le, ge) in
              let here : slice_get sets at ≡ Some has.0 =
              subst (λ k. slice_get sets k ≡ Some has.0) same its_place.1 in
              let one : has.0 ≡ set = grind (arith, here, there) in
              subst (λ (s : RecordSet). IsSetOf sets key s) one has.1)
        ]
      ]

-- ---- the set of a key, as it is loaded

module _ (zones : List Zone) (are : AreZones zones) (id : ℕ) (key : SetKey)
    (has : IsThere (sets_in zones id) key) where
  pub some_next : IsNextSet zones id (bound.From key) None → ⊥
  some_next none =
      let size = length-map (placed_in zones id) (λ (p : Slotted). p.set) in
      not_all_before (sets_in zones id) key has (length (placed_in zones id)) none
      (omega (arith, size))

  module _ (ref : SetRef) (next : IsNextSet zones id (bound.From key) (Some ref)) where
    pub names_it : RefersTo zones ref next.1.2.0
    names_it = named zones are id next.1.0 ref next.0 next.1.2

    pub loads_it : (held : Option RecordSet)
        → ((other : RecordSet) × RefersTo zones ref other × (held ≡ Some other))
        → (set : RecordSet) × IsSetOf (sets_in zones id) key set × (held ≡ Some set)
    loads_it held found =
        let it = held_there zones are id next.1.0 ref next.0 next.1.2 held found in (
          it.0,
          found_at (sets_in zones id) key has next.1.0 (sets_rise zones are id) next.1.1 it.0 it.1,
          it.2,
        )
