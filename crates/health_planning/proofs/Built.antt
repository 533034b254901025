-- A blueprint, step by step.
use Rattle.std.proofs.Common.{◌≡◌, ◌<◌, ◌≤◌, ◌+◌, ◌-◌, ◌^◌, ◌⊎◌, ◌++◌, ◌∷◌, ℕ, zero, suc, true, List, [], length, arith, refl, ap, sym, ◌∙◌, inl, inr, Some, None, Option}
use Rattle.std.specs.Prelude.{slice_get, slice_index}
use Rattle.std.proofs.lemmas.Bool.{cases_lt}
use Rattle.std.proofs.lemmas.List.Elements.{All-from_recursion}
use Rattle.std.proofs.lemmas.Option.{slice_get_within}
use mathlib.Core.Path.{subst}
use Rattle.check_model.proofs.Members.{all_at, all_mapped}
use Rattle.check_model.specs.Checks.{AreChildren, Checks, IsId, children_of}
use Rattle.check_model.specs.Checks.{IsSound as AreSoundChecks}
use Rattle.check_model.specs.declared.checks.Check.{Check}
use Rattle.health_valves.specs.Blueprint.{IsDrawn, Drawn, feeders_in, own_in, own_of}
use Rattle.health_valves.specs.declared.blueprint.Feeding.{Feeding}
use Rattle.health_valves.specs.declared.blueprint.Trigger.{Trigger}
use Rattle.health_model.specs.Sound.{IsSound}
use Rattle.record_set.specs.declared.sets.Body.TheVariants.{Alias}
use Rattle.record_set.specs.declared.sets.RecordSet.{RecordSet}
use Rattle.policy_select.proofs.MembersOfZoneList.{filled, set_in}
use Rattle.policy_select.specs.Zones.{Zone, placed_in}
use Rattle.policy_select.specs.SetRefRecord.{SetRef}
use Rattle.zone_model.specs.Slotted.{sets_of}
use Rattle.zone_model.specs.Walks.{HasNoTarget}
use Rattle.zone_model.specs.Zones.{IsAmong}
use Rattle.policy_select.specs.Looking.{RefersTo}
use Rattle.health_planning.specs.Building.{AreBelow, AreFree, AreGrouped, HaveOwnValves, AreThere, AreWithin, FeedsSet, HasTarget, IsBuilt, IsSmallAt, SameSets, TargetsListed, check_links, group_trigger, set_trigger, spare_trigger}
use Rattle.health_planning.specs.Wired.{HaveValves, IsSpare, group_seat, ids_of, own_part, place_of, plain_among, watched_of}
use Rattle.health_planning.specs.declared.seats.Seat.{Seat}
use Rattle.health_planning.proofs.Feeding.{check_within, children_fed, none_before}
use Rattle.health_planning.proofs.Grouped.{none_feeds}
use Rattle.health_planning.proofs.Numbers.{ids_valves, number_is, number_there}
use Rattle.health_planning.proofs.Places.{id_there, of_all}
use Rattle.health_planning.proofs.Places.{found}
use Rattle.health_planning.proofs.Watching.{zone_sets}
use Rattle.health_planning.proofs.Wiring.{ids_long}

-- one element more behind others
pub still_there : {X : Type 0} (xs : List X) (x found : X) (n : ℕ) → slice_get xs n ≡ Some found
    → slice_get (xs ++ x ∷ []) n ≡ Some found
still_there [] x found n e = let no : ⊥ = cc in absurd no
still_there (y ∷ xs) x found zero e = e
still_there (y ∷ xs) x found (suc n) e = still_there xs x found n e

pub last_there : {X : Type 0} (xs : List X) (x : X) → slice_get (xs ++ x ∷ []) (length xs) ≡ Some x
last_there [] x = refl
last_there (y ∷ xs) x = last_there xs x

-- ---- what sound configurations give

-- a check that is there has a place
pub id_placed : (list : List (ℕ × Check)) (id : ℕ) → IsId list id
    → (place : ℕ) × (slice_get (ids_of list) place ≡ Some id)
id_placed list id (check, at) =
    let place = place_of (ids_of list) id in
    (place, id_there list place id check (found list id check at))

pub children_placed : (checks : Checks) → AreSoundChecks checks → (place id : ℕ) (check : Check)
    → slice_get checks.list place ≡ Some (id, check)
    → AreThere (ids_of checks.list) (children_of check)
children_placed checks sound place id check at child m =
    let are = of_all (λ (held : ℕ × Check). AreChildren checks.list (children_of held.1)) checks.list place (id, check) sound.children at in
    id_placed checks.list child (all_at (IsId checks.list) (children_of check) child are.there m)

module _ (zones : List Zone) (checks : Checks) (sound : IsSound (watched_of zones checks)) where
  pub targets_there : (set : SetRef) (named : RecordSet) → RefersTo zones set named
      → HasNoTarget (sets_of (placed_in zones set.zone)) named → ⊥
  targets_there set named names none =
      let same = zone_sets zones checks set.zone in
      sound.targets set.zone named
      (subst (λ (l : List RecordSet). IsAmong l named) (sym same)
      (set_in (placed_in zones set.zone) (record { slot = set.slot; set = named }) names))
      (subst (λ (l : List RecordSet). HasNoTarget l named) (sym same) none)

  pub checks_there : (set : SetRef) (named : RecordSet) (id : ℕ) → RefersTo zones set named
      → named.check ≡ Some id → (place : ℕ) × (slice_get (ids_of checks.list) place ≡ Some id)
  checks_there set named id names is =
      id_placed checks.list id (sound.checks set.zone named id
      (subst (λ (l : List RecordSet). IsAmong l named) (sym (zone_sets zones checks set.zone))
      (set_in (placed_in zones set.zone) (record { slot = set.slot; set = named }) names)) is)

-- the links into checks are between checks
pub links_early : (list : List (ℕ × Check)) (numbers : List ℕ) → HaveValves (length list) numbers
    → ((place id : ℕ) (check : Check) → slice_get list place ≡ Some (id, check)
    → AreThere (ids_of list) (children_of check))
    → AreWithin (check_links (ids_of list) numbers 0 list) 200
links_early list numbers valves there =
    let long = ids_long list in
    check_within (ids_of list) numbers (ids_valves list numbers valves) 0 200 list (omega arith) (omega arith) there

-- ---- no set is listed yet

pub none_listed : (zones : List Zone) (slots : ℕ) (seats : List Seat) → AreFree slots seats
    → (first : ℕ) (triggers : List Trigger) → 200 ≤ first
    → length triggers ≡ first → HaveOwnValves zones first seats [] seats triggers
none_listed zones slots seats free first triggers late size = record {
  behind = late;
  size = omega arith;
  valves = λ k ref at. let no : ⊥ = cc in absurd no;
  only = λ slot valve is. let none = (free.each slot).0 in absurd (omega arith);
  others = λ slot. inr (refl, refl);
  no_group = λ slot. (free.each slot).1;
}

-- the valves of listed sets are among those that there are
pub listed_below : (zones : List Zone) (first : ℕ) (before : List Seat) (refs : List SetRef)
    (seats : List Seat) (triggers : List Trigger) → HaveOwnValves zones first before refs seats triggers
    → AreBelow seats (length triggers)
listed_below zones first before refs seats triggers are slot valve is =
    let o = are.only slot valve is in
    let b = slice_get_within refs o.0 o.1.0 o.1.2 in
    let g = o.1.1 in
    let size = are.size in
    omega arith

-- ---- the whole blueprint

module _ (zones : List Zone) (list : List (ℕ × Check)) (numbers : List ℕ)
    (valves : HaveValves (length list) numbers) (refs : List SetRef)
    (first_seats seats seats_now : List Seat) (triggers triggers_now : List Trigger) (links before now : List Feeding)
    (there : (place id : ℕ) (check : Check) → slice_get list place ≡ Some (id, check)
    → AreThere (ids_of list) (children_of check))
    (are_links : links ≡ check_links (ids_of list) numbers 0 list)
    (spared : (valve : ℕ) → IsSpare numbers valve → slice_get triggers valve ≡ Some spare_trigger)
    (listed : HaveOwnValves zones 200 first_seats refs seats triggers)
    (members : TargetsListed zones (length refs) refs)
    (grouped : AreGrouped zones (length triggers) seats_now triggers_now before)
    (targets : (k : ℕ) (set : SetRef) (named : RecordSet) (name : List (List ℕ))
    → slice_get refs k ≡ Some set → RefersTo zones set named → named.body ≡ Alias name true
    → HasTarget zones seats_now set.zone name named.rtype)
    (same : SameSets seats seats_now)
    (kept : (n : ℕ) (trigger : Trigger) → slice_get triggers n ≡ Some trigger
    → slice_get triggers_now n ≡ Some trigger)
    (feeders : (valve : ℕ) → valve < length triggers → feeders_in before valve ≡ feeders_in links valve)
    (more : length triggers ≤ length triggers_now)
    (within : AreWithin before (length triggers_now))
    (joined : (k : ℕ) (set : SetRef) (named : RecordSet) → slice_get refs k ≡ Some set
    → RefersTo zones set named → feeders_in before (200 + k) ≡ []
    → FeedsSet zones (ids_of list) numbers seats_now set.zone named
    (feeders_in now (200 + k)))
    (others : (valve : ℕ)
    → (valve < 200) ⊎ (200 + length refs ≤ valve)
    → feeders_in now valve ≡ feeders_in before valve)
    (still : (n : ℕ) → 200 + length refs ≤ n
    → ((slot valve : ℕ) → group_seat seats_now slot ≡ suc valve → valve < n)
    → AreWithin before n → AreWithin now n) where
  between_checks : AreWithin (check_links (ids_of list) numbers 0 list) 200
  between_checks = links_early list numbers valves there

  -- nothing feeds a set before it is joined
  none_yet : (k : ℕ) → k < length refs → feeders_in before (200 + k) ≡ []
  none_yet k early =
      let size = listed.size in
      feeders (200 + k) (omega arith)
      ∙ none_feeds links 200 (200 + k) (rw are_links between_checks) (omega arith)

  -- nor a spare valve
  spare_unfed : (valve : ℕ) → IsSpare numbers valve → feeders_in now valve ≡ []
  spare_unfed valve is =
      let early = is.0 in
      let size = listed.size in
      let many = valves.as_many in
      others valve (inl (omega arith)) ∙ feeders valve (omega arith)
      ∙ ap (λ (x : List Feeding). feeders_in x valve) are_links
      ∙ none_before (ids_of list) numbers 0 valve list (λ place there_is e.
      let same_place : 0 + place ≡ place = omega arith in
      is.1 place (number_there numbers place valve (omega arith) (sym (ap (slice_index numbers) (sym same_place) ∙ e))))

  pub is_built : IsBuilt zones list numbers refs seats_now triggers_now now
  is_built = record {
    children = λ place valve id check at numbered.
        let within = slice_get_within list place (id, check) at in
        let same_place : place ≡ 0 + place = omega arith in
        let early = valves.early place valve numbered in
        let many = valves.as_many in
        let size = listed.size in
        others valve (inl (omega arith)) ∙ feeders valve (omega arith)
        ∙ ap (λ (x : List Feeding). feeders_in x valve) are_links
        ∙ ap (feeders_in (check_links (ids_of list) numbers 0 list)) (sym (number_is numbers place valve numbered) ∙ ap (slice_index numbers) same_place)
        ∙ children_fed (ids_of list) numbers valves.apart 0 place id list check (omega arith) at;
    spares = λ valve is. kept valve spare_trigger (spared valve is);
    unfed = spare_unfed;
    sets = λ k ref at.
        let g = listed.valves k ref at in
        record {
          named = g.named;
          names = g.names;
          watched = g.watched;
          seat = ap own_part (same.valves ref.slot) ∙ g.seat;
          told = same.checks ref.slot ∙ g.told;
          trigger = kept (200 + k) (set_trigger g.named) g.trigger;
        };
    only = λ slot valve is. listed.only slot valve (sym (ap own_part (same.valves slot)) ∙ is);
    fed = λ k ref named at names.
        let b = slice_get_within refs k ref at in
        joined k ref named at names (none_yet k b);
    targets = targets;
    members = members;
    groups = subst (λ (n : ℕ). AreGrouped zones n seats_now triggers_now now) listed.size regrouped;
    within = let size = listed.size in
        still (length triggers_now) (omega arith) groups_below within;
    size = let size = listed.size in omega arith;
  }
    where
      groups_below : (slot valve : ℕ) → group_seat seats_now slot ≡ suc valve
          → valve < length triggers_now
      groups_below slot valve is =
          let g = grouped.valves slot valve is in
          slice_get_within triggers_now valve (group_trigger (plain_among seats_now g.1.members)) g.1.trigger

      regrouped : AreGrouped zones (length triggers) seats_now triggers_now now
      regrouped = record {
        valves = λ slot valve is.
            let g = grouped.valves slot valve is in
            let size = listed.size in
            let past = g.0 in (
              g.0,
              record {
                zone = g.1.zone;
                name = g.1.name;
                rtype = g.1.rtype;
                members = g.1.members;
                are = g.1.are;
                led = g.1.led;
                here = g.1.here;
                each = g.1.each;
                only = g.1.only;
                trigger = g.1.trigger;
                few = g.1.few;
                fed = others valve (inr (omega arith)) ∙ g.1.fed;
              },
            );
        all = grouped.all;
      }

-- few are counted at the valves of checks from outside
pub small_at : (first triggers now : List Trigger) (valve : ℕ) → valve < length first
    → ((n : ℕ) (trigger : Trigger) → slice_get first n ≡ Some trigger → trigger.own ≤ 255)
    → ((n : ℕ) (trigger : Trigger) → slice_get first n ≡ Some trigger → slice_get triggers n ≡ Some trigger)
    → ((n : ℕ) (trigger : Trigger) → slice_get triggers n ≡ Some trigger → slice_get now n ≡ Some trigger)
    → IsSmallAt now valve
small_at first triggers now valve early small kept kept_on =
    let s = filled first valve early in
    (s.0, (kept_on valve s.0 (kept valve s.0 s.1), small valve s.0 s.1))

-- nothing is counted at spare valves
pub spares_small : (triggers : List Trigger) → length triggers ≡ 200
    → ((n : ℕ) → n < 200 → slice_get triggers n ≡ Some spare_trigger)
    → (n : ℕ) (trigger : Trigger) → slice_get triggers n ≡ Some trigger → trigger.own ≤ 255
spares_small triggers size spares n trigger at =
    let within = slice_get_within triggers n trigger at in
    let is = ap own_of (sym at ∙ spares n (omega arith)) in
    omega arith

-- ---- no count is too large

module _ (zones : List Zone) (list : List (ℕ × Check)) (numbers : List ℕ) (refs : List SetRef)
    (seats : List Seat) (blueprint : Drawn)
    (built : IsBuilt zones list numbers refs seats blueprint.triggers blueprint.links)
    (small : (valve : ℕ) → valve < 200 → IsSmallAt blueprint.triggers valve)
    (few_links : length blueprint.links < 2 ^ 31) (few : length blueprint.triggers ≤ 2 ^ 31) where
  own_few : (valve : ℕ) → own_in blueprint valve ≤ 2 ^ 31
  own_few valve = elim (cases_lt valve (length blueprint.triggers)) [
    | inl there ↦ elim (cases_lt valve 200) [
      | inl early ↦
          let s = small valve early in
          let is = ap own_of s.1.0 in
          let b = s.1.1 in
          omega arith
      | inr behind ↦ elim (cases_lt valve (200 + length refs)) [
        | inl early ↦ set_own valve behind early
        | inr late ↦
            let slot = built.groups.all valve late there in
            let g = built.groups.valves slot.0 valve slot.1 in
            let is = ap own_of g.1.trigger in
            let b = g.1.few in
            omega arith
      ]
    ]
    | inr past ↦ none_own (slice_get blueprint.triggers valve) refl past
  ]
    where
      split : (valve : ℕ) → 200 ≤ valve → valve < 200 + length refs
          → (k : ℕ) × ((valve ≡ 200 + k) × (k < length refs))
      split valve past early = (valve - 200, (omega arith, omega arith))

      set_own : (valve : ℕ) → 200 ≤ valve → valve < 200 + length refs
          → own_in blueprint valve ≤ 2 ^ 31
      set_own valve past early =
          let k = split valve past early in
          let ref = filled refs k.0 k.1.1 in
          let g = built.sets k.0 ref.0 ref.1 in
          let is : own_in blueprint valve ≡ 0 = ap (own_in blueprint) k.1.0 ∙ ap own_of g.trigger in
          omega arith

      none_own : (o : Option Trigger) → slice_get blueprint.triggers valve ≡ o → length blueprint.triggers ≤ valve
          → own_of o ≤ 2 ^ 31
      none_own None e past = omega arith
      none_own (Some trigger) e past =
          let b = slice_get_within blueprint.triggers valve trigger e in absurd (omega arith)

  pub is_planned : IsDrawn blueprint
  is_planned = record {
    within = All-from_recursion (λ (l : Feeding). l.feeder < length blueprint.triggers) blueprint.links
        (all_mapped _ (λ (l : Feeding). l.feeder < length blueprint.triggers) (λ l b. b.0) blueprint.links built.within);
    to_within = All-from_recursion (λ (l : Feeding). l.fed < length blueprint.triggers) blueprint.links
        (all_mapped _ (λ (l : Feeding). l.fed < length blueprint.triggers) (λ l b. b.1) blueprint.links built.within);
    small = own_few;
    few_links = omega arith;
    few = omega arith;
  }
