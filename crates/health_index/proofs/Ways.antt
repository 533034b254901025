-- What an index that stood for some checks is to checks with the same kin that follow of them.
use Rattle.std.proofs.Common.{◌≡◌, ◌≢◌, ◌≤◌, ◌<◌, ◌+◌, ℕ, zero, suc, Bool, List, [], ◌∷◌, ◌++◌, length, map, arith, refl, ap, sym, ◌∙◌, inl, inr, Some, None}
use Rattle.std.specs.List.{AllByRecursion}
use Rattle.std.specs.Prelude.{◌⊎◌, Option, slice_get, slice_index}
use Rattle.std.proofs.lemmas.Bool.{cases_eq, cases_lt, eq-eqb, ne_eqb}
use Rattle.std.proofs.lemmas.List.{length-append}
use Rattle.std.proofs.lemmas.Option.{slice_get_within}
use mathlib.Core.Path.{subst}
use Rattle.check_model.specs.Checks.{AreChildren, Checks, IsId, children_of}
use Rattle.check_model.specs.Checks.{IsSound as AreSoundChecks}
use Rattle.check_model.specs.declared.checks.Check.{Check}
use Rattle.check_model.specs.declared.checks.Check.TheVariants.{Endpoint, Calculated}
use Rattle.checker_state.specs.Standing.{Seen, passing_of}
use Rattle.checker_state.specs.Standing.{StandsFor as HasSeen}
use Rattle.health_index.proofs.Knowing.{knows_its, still_reports}
use Rattle.health_index.proofs.Behind.{node_now, seated_now}
use Rattle.health_index.proofs.Valved.{more_valves}
use Rattle.health_index.proofs.Reshaped.{IsOther, children_kept, feeders_as, other_own, other_seen, same_ids, was_other}
use Rattle.health_index.specs.Following.{AreMore, HaveIds, IsFollowed, IsFresh}
use Rattle.health_index.specs.Index.{Index, IsIntact, Space, StandsFor}
use Rattle.health_index.specs.Kin.{kin_of}
use Rattle.health_model.specs.Nodes.{Node}
use Rattle.health_model.specs.Statuses.{Report, passing, results_of}
use Rattle.health_planning.proofs.Built.{checks_there, still_there}
use Rattle.health_planning.proofs.Numbers.{ids_valves, number_is, valve_there}
use Rattle.health_planning.proofs.Places.{held_there, id_at, id_there, ids_apart, of_all, one_place}
use Rattle.health_planning.proofs.Seeing.{seen_it}
use Rattle.health_planning.proofs.Wiring.{ids_long}
use Rattle.health_planning.specs.Building.{IsSeen}
use Rattle.health_planning.specs.Later.{AreLater}
use Rattle.health_planning.specs.Wired.{IsSpare, IsValveFor, StandApart, StandsAt, check_own, ids_of, place_of, valve_with, IsVacant}
use Rattle.health_planning.specs.Zones.{Zone, placed_in}
use Rattle.health_planning.proofs.Lists.{in_more}
use Rattle.health_valves.specs.Pass.{IsIdle, MeetAll}
use Rattle.health_valves.specs.Valves.{Condition, ValvesStandFor, with_own}
use Rattle.health_valves.specs.declared.valves.Valves.{Valves}
use Rattle.health_planning.proofs.MembersOfZoneList.{filled}
use Rattle.zone_model.specs.Slotted.{IsHere, Slotted}

module _ (zones : List Zone) (old new : Checks) (reports : List Report) (index : Index)
    (stands : StandsFor zones old reports index) (are_new : AreSoundChecks new)
    (kin : index.kin ≡ kin_of new.list) (later : AreLater old new) where
  -- a check whose number was there: it was of an endpoint, with its threshold, or calculated, with its children
  pub was_there : (before place id : ℕ) (check : Check) → slice_get index.ids before ≡ Some id
      → slice_get new.list place ≡ Some (id, check)
      → (was : Check) × (slice_get old.list before ≡ Some (id, was)) × IsOther was check
  was_there before place id check at at_new =
      let held = held_there old.list before id (subst (λ (l : List ℕ). slice_get l before ≡ Some id) stands.ids at) in (
        held.0,
        held.1,
        was_other old new stands.are_checks (sym stands.kin ∙ kin) before place id held.0 check held.1 at_new
            (later.each id check (id_at new.list place id check are_new.rising at_new)),
      )

  pub its_seen : (before place id : ℕ) (check : Check) (its : Option Seen) → slice_get index.ids before ≡ Some id
      → slice_get new.list place ≡ Some (id, check) → slice_get index.seen before ≡ Some its
      → IsSeen reports id check its
  its_seen before place id check its at at_new saw =
      let was = was_there before place id check at at_new in
      other_seen reports id was.0 check its was.2 (stands.seen before id was.0 its was.1 saw)

  pub its_own : (before valve place id : ℕ) (check : Check) → slice_get index.ids before ≡ Some id
      → slice_get index.numbers before ≡ Some valve → slice_get new.list place ≡ Some (id, check)
      → stands.own valve ≡ check_own check (passing reports id)
  its_own before valve place id check at numbered at_new =
      let was = was_there before place id check at at_new in
      (stands.wired.its_checks before valve id was.0 was.1 numbered).its_own ∙ other_own (passing reports id) was.0 check was.2

  pub its_feeders : (before valve place id : ℕ) (check : Check) → slice_get index.ids before ≡ Some id
      → slice_get index.numbers before ≡ Some valve → slice_get new.list place ≡ Some (id, check)
      → (stands.net.condition valve).feeders ≡ map (valve_with (ids_of old.list) index.numbers) (children_of check)
  its_feeders before valve place id check at numbered at_new =
      let was = was_there before place id check at at_new in
      ap (λ (c : Condition). c.feeders) (stands.wired.its_checks before valve id was.0 was.1 numbered).condition
      ∙ ap (map (valve_with (ids_of old.list) index.numbers)) (children_kept was.0 check was.2)

  -- its children were there
  pub children_there : (before place id : ℕ) (check : Check) → slice_get index.ids before ≡ Some id
      → slice_get new.list place ≡ Some (id, check) → AllByRecursion (IsId old.list) (children_of check)
  children_there before place id check at at_new =
      let was = was_there before place id check at at_new in
      let there = of_all (λ (h : ℕ × Check). AreChildren old.list (children_of h.1)) old.list before (id, was.0) stands.are_checks.children was.1 in
      subst (AllByRecursion (IsId old.list)) (children_kept was.0 check was.2) there.there

  -- valves behind those of checks
  pub nodes : (valve : ℕ) → 200 ≤ valve → valve < stands.net.size → IsVacant stands.net valve
      ⊎ ((node : Node) × IsValveFor zones old.list index.numbers index.seats stands.net stands.own valve node)
  nodes valve behind within = elim (stands.wired.its_nodes valve within) [
    | inl spare ↦ (let early = spare.0 in absurd (omega arith))
    | inr rest ↦ rest
  ]

  -- the checks have the numbers that there are
  pub same_way : length new.list ≡ length index.ids → HaveIds index.ids (length index.ids) new.list
      → IsFollowed zones new reports index
  same_way as_many same =
      let ids : index.ids ≡ ids_of new.list =
      same_ids index.ids new.list (sym as_many) (λ place held at.
      same place held (let b = slice_get_within new.list place held at in omega arith) at) in
      let lists : ids_of new.list ≡ ids_of old.list = sym ids ∙ stands.ids in
      let placed : (id : ℕ) → valve_with (ids_of new.list) index.numbers id ≡ valve_with (ids_of old.list) index.numbers id = λ id. ap (λ (l : List ℕ). valve_with l index.numbers id) lists in
      let here : (place id : ℕ) (check : Check) → slice_get new.list place ≡ Some (id, check) → slice_get index.ids place ≡ Some id =
      λ place id check at. ap (λ (l : List ℕ). slice_get l place) ids ∙ id_there new.list place id check at in
      let old_many = ap length stands.ids ∙ ids_long old.list in
      record {
        are_zones = stands.are_zones;
        slots = stands.slots;
        are_reports = still_reports old.next new.next reports later.next stands.are_reports;
        ids = ids;
        numbers = record {
          as_many = let many = stands.numbers.as_many in omega arith;
          apart = stands.numbers.apart;
          early = stands.numbers.early;
        };
        seen = λ place id check its at saw. its_seen place place id check its (here place id check at) at saw;
        as_many = stands.as_many;
        kin = kin;
        listed = stands.listed;
        net = stands.net;
        own = stands.own;
        sets = seated_now zones old.list new.list index.numbers index.numbers index.seats stands.net stands.net stands.own stands.own refl
            (λ n behind. refl) (λ n behind. refl) stands.wired.its_sets (λ zone p id in_zone is. placed id);
        nodes = node_now zones old.list new.list index.numbers index.numbers index.seats stands.net stands.net stands.own stands.own refl
            (λ n behind. refl) (λ n behind. refl) stands.wired.its_sets
            (λ zone p id in_zone is. placed id) stands.numbers.early nodes;
        groups = λ slot valve is. stands.wired.its_groups slot valve (let e = is in omega arith);
        members = λ slot valve is. stands.wired.its_members slot valve (let e = is in omega arith);
        spares = stands.wired.spares;
        many = stands.wired.many;
        feeders = λ place valve id check at numbered.
            its_feeders place valve place id check (here place id check at) numbered at
            ∙ ap (λ (l : List ℕ). map (valve_with l index.numbers) (children_of check)) (sym lists);
        owns = λ place valve id check at numbered. its_own place valve place id check (here place id check at) numbered at;
        told = stands.told;
        fits = stands.fits;
        ends = stands.ends;
        meet = stands.meet;
        idle = stands.idle;
      }

-- ---- one check more

some_same : {X : Type 0} {x y : X} → Some x ≡ Some y → x ≡ y
some_same e = cc

one_more_ids : (ids : List ℕ) (list : List (ℕ × Check)) (id : ℕ) (check : Check)
    → length list ≡ length ids + 1
    → ((place : ℕ) (held : ℕ × Check) → place < length ids → slice_get list place ≡ Some held → slice_get ids place ≡ Some held.0)
    → slice_get list (length ids) ≡ Some (id, check) → ids ++ id ∷ [] ≡ ids_of list
one_more_ids [] [] id check long each at = let no : ⊥ = cc in absurd no
one_more_ids [] (held ∷ []) id check long each at = ap (λ (h : ℕ × Check). h.0 ∷ []) (some_same (sym at))
one_more_ids [] (held ∷ other ∷ list) id check long each at = absurd (omega arith)
one_more_ids (x ∷ ids) [] id check long each at = absurd (omega arith)
one_more_ids (x ∷ ids) (held ∷ list) id check long each at =
    both (some_same (each 0 held (omega arith) refl))
    (one_more_ids ids list id check (omega arith) (λ place other early found. each (suc place) other (omega arith) found) at)
  where
    both : {i j : ℕ} {xs ys : List ℕ} → i ≡ j → xs ≡ ys → i ∷ xs ≡ j ∷ ys
    both e f = cc

place_front : (ids : List ℕ) (x id place : ℕ) → slice_get ids place ≡ Some id
    → place_of (ids ++ x ∷ []) id ≡ place_of ids id
place_front [] x id place at = let no : ⊥ = cc in absurd no
place_front (y ∷ ids) x id zero at = rw (eq-eqb id y (sym (some_same at))) refl
place_front (y ∷ ids) x id (suc place) at = elim (cases_eq id y) [
  | inl same ↦ rw (eq-eqb id y same) refl
  | inr apart ↦ rw (ne_eqb id y apart) (ap suc (place_front ids x id place at))
]

module _ (zones : List Zone) (old new : Checks) (reports : List Report) (index : Index)
    (stands : StandsFor zones old reports index) (are_new : AreSoundChecks new)
    (kin : index.kin ≡ kin_of new.list) (later : AreLater old new)
    (as_many : length new.list ≡ length index.ids + 1)
    (same : HaveIds index.ids (length index.ids) new.list)
    (id count valve : ℕ) (spare : IsSpare index.numbers valve) (check : Check) (at : slice_get new.list (length index.ids) ≡ Some (id, check))
    (fresh : Seen) (is_fresh : IsFresh check fresh)
    (counted : (n : ℕ) (results : ℕ → List Bool) → HasSeen n results fresh → count ≡ passing_of n results)
    (valves : Valves)
    (fits : ValvesStandFor stands.net (with_own valve count stands.own) valves)
    (meet : MeetAll stands.net (with_own valve count stands.own) valves)
    (idle : IsIdle valves) (space : Space) where
  abbrev last : ℕ
  last = length index.ids

  abbrev after : Index
  after = record index { ids = index.ids ++ id ∷ []; numbers = index.numbers ++ valve ∷ []; seen = index.seen ++ Some fresh ∷ []; valves = valves; space = space }

  ids_now : after.ids ≡ ids_of new.list
  ids_now = one_more_ids index.ids new.list id check as_many same at

  old_many : length old.list ≡ last
  old_many = sym (ap length stands.ids ∙ ids_long old.list)

  -- the new number is of no check that was there
  not_there : StandsAt index.ids id None
  not_there place at_place =
      let early = slice_get_within index.ids place id at_place in
      let held = filled new.list place (omega arith) in
      let its = some_same (sym at_place ∙ same place held.0 early held.1) in
      let one = one_place new.list place last id held.0.1 check are_new.rising
      (held.1 ∙ ap (λ (n : ℕ). Some (n, held.0.1)) (sym its)) at in
      omega arith

  fresh_seen : IsSeen reports id check (Some fresh)
  fresh_seen = by check refl is_fresh
    where
      by : (c : Check) → check ≡ c → IsFresh c fresh → IsSeen reports id check (Some fresh)
      by (Endpoint threshold inverted disabled) is its =
          seen_it index.ids index.seen None id threshold fresh
          (λ place no. let none : ⊥ = cc in absurd none)
          (λ place saw no. let none : ⊥ = cc in absurd none)
          (λ none. its) old reports (knows_its zones old reports index stands) not_there check is
          (later.each id check (id_at new.list last id check are_new.rising at))
      by (Calculated threshold inverted disabled children) is none = absurd none

  -- one of those that were there, or the new one
  place_of_new : (place other : ℕ) (its : Check) → slice_get new.list place ≡ Some (other, its)
      → (slice_get index.ids place ≡ Some other × (place < last)) ⊎ ((place ≡ last) × ((other ≡ id) × (its ≡ check)))
  place_of_new place other its found = elim (cases_lt place last) [
    | inl early ↦ inl (same place (other, its) early found, early)
    | inr past ↦
        let within = slice_get_within new.list place (other, its) found in
        let is : place ≡ last = omega arith in
        let held : ◌≡◌ {A = ℕ × Check} (other, its) (id, check) = some_same (sym found ∙ ap (slice_get new.list) is ∙ at) in
        inr (is, (ap (λ (h : ℕ × Check). h.0) held, ap (λ (h : ℕ × Check). h.1) held))
  ]

  -- each check that was there has the valve that it had
  stays : (place named : ℕ) → slice_get (ids_of old.list) place ≡ Some named
      → valve_with (ids_of new.list) after.numbers named ≡ valve_with (ids_of old.list) index.numbers named
  stays place named was =
      let front : place_of (ids_of new.list) named ≡ place_of (ids_of old.list) named =
      ap (λ (l : List ℕ). place_of l named) (sym ids_now)
      ∙ place_front index.ids id named place (ap (λ (l : List ℕ). slice_get l place) stands.ids ∙ was)
      ∙ ap (λ (l : List ℕ). place_of l named) stands.ids in
      let there = valve_there (ids_of old.list) index.numbers (ids_valves old.list index.numbers stands.numbers) place named was in
      ap (slice_index after.numbers) front
      ∙ number_is after.numbers (place_of (ids_of old.list) named) (valve_with (ids_of old.list) index.numbers named)
      (still_there index.numbers valve (valve_with (ids_of old.list) index.numbers named) (place_of (ids_of old.list) named) there)

  placed : (zone : ℕ) (p : Slotted) (named : ℕ) → IsHere (placed_in zones zone) p → p.set.check ≡ Some named
      → valve_with (ids_of new.list) after.numbers named ≡ valve_with (ids_of old.list) index.numbers named
  placed zone p named here is =
      let k = checks_there zones old stands.sound (record { zone = zone; slot = p.slot }) p.set named here is in
      stays k.0 named k.1

  -- the new check is of an endpoint, and has no children
  fresh_alone : children_of check ≡ []
  fresh_alone = by check is_fresh
    where
      by : (c : Check) → IsFresh c fresh → children_of c ≡ []
      by (Endpoint threshold inverted disabled) its = refl
      by (Calculated threshold inverted disabled children) none = absurd none

  fresh_own : count ≡ check_own check (passing reports id)
  fresh_own = by check is_fresh fresh_seen
    where
      by : (c : Check) → IsFresh c fresh → IsSeen reports id c (Some fresh)
          → count ≡ check_own c (passing reports id)
      by (Endpoint threshold inverted disabled) its saw = counted threshold (results_of reports id) saw
      by (Calculated threshold inverted disabled children) none saw = absurd none

  own_beside : (n : ℕ) → n ≢ valve → with_own valve count stands.own n ≡ stands.own n
  own_beside n apart = rw (ne_eqb n valve apart) refl

  -- a valve of the checks that were there, or the new one
  number_of_new : (place found : ℕ) → slice_get after.numbers place ≡ Some found
      → (slice_get index.numbers place ≡ Some found × (place < last)) ⊎ ((place ≡ last) × (found ≡ valve))
  number_of_new place found at_place = elim (in_more index.numbers valve found place at_place) [
    | inl old_one ↦
        let within = slice_get_within index.numbers place found old_one in
        let many = stands.numbers.as_many in
        let long = old_many in
        inl (old_one, omega arith)
    | inr new_one ↦
        let many = stands.numbers.as_many in
        let long = old_many in
        inr (new_one.0 ∙ many ∙ long, new_one.1)
  ]

  pub more_way : IsFollowed zones new reports after
  more_way =
      let few = are_new.few in
      let long = old_many in
      record {
        are_zones = stands.are_zones;
        slots = stands.slots;
        are_reports = still_reports old.next new.next reports later.next stands.are_reports;
        ids = ids_now;
        numbers =
            let more = more_valves (length old.list) index.numbers valve stands.numbers spare in
            record { as_many = let many = more.as_many in omega arith; apart = more.apart; early = more.early };
        seen = λ place other its found at_place saw. elim (in_more index.seen (Some fresh) found place saw) [
          | inl before ↦
              let early = slice_get_within index.seen place found before in
              let many = stands.as_many in
              its_seen zones old new reports index stands are_new kin later place place other its found
              (same place (other, its) (omega arith) at_place) at_place before
          | inr behind ↦
              let many = stands.as_many in
              let is : place ≡ last = behind.0 ∙ many in
              let held : ◌≡◌ {A = ℕ × Check} (other, its) (id, check) = some_same (sym at_place ∙ ap (slice_get new.list) is ∙ at) in
              rw (ap (λ (h : ℕ × Check). h.0) held, ap (λ (h : ℕ × Check). h.1) held, behind.1) fresh_seen
        ];
        as_many = length-append index.seen (Some fresh ∷ []) ∙ ap (λ (n : ℕ). n + 1) stands.as_many ∙ sym (length-append index.ids (id ∷ []));
        kin = kin;
        listed = stands.listed;
        net = stands.net;
        own = with_own valve count stands.own;
        sets = seated_now zones old.list new.list index.numbers after.numbers index.seats stands.net stands.net stands.own (with_own valve count stands.own) refl
            (λ n behind. refl) (λ n behind. own_beside n (λ e. let early = spare.0 in omega arith))
            stands.wired.its_sets placed;
        nodes = node_now zones old.list new.list index.numbers after.numbers index.seats stands.net stands.net stands.own (with_own valve count stands.own) refl
            (λ n behind. refl) (λ n behind. own_beside n (λ e. let early = spare.0 in omega arith))
            stands.wired.its_sets placed stands.numbers.early
            (nodes zones old new reports index stands are_new kin later);
        groups = λ slot found is. stands.wired.its_groups slot found (let e = is in omega arith);
        members = λ slot found is. stands.wired.its_members slot found (let e = is in omega arith);
        spares = λ found is. stands.wired.spares found (is.0, λ place here. is.1 place (still_there index.numbers valve found place here));
        many = stands.wired.many;
        feeders = λ place found other its at_place numbered. elim (number_of_new place found numbered) [
          | inl before ↦
              its_feeders zones old new reports index stands are_new kin later place found place other its
              (same place (other, its) before.1 at_place) before.0 at_place
              ∙ feeders_as old.list (valve_with (ids_of old.list) index.numbers) (valve_with (ids_of new.list) after.numbers) (children_of its)
              (children_there zones old new reports index stands are_new kin later place place other its
              (same place (other, its) before.1 at_place) at_place)
              (λ k named was. sym (stays k named was))
          | inr behind ↦
              let held : ◌≡◌ {A = ℕ × Check} (other, its) (id, check) = some_same (sym at_place ∙ ap (slice_get new.list) behind.0 ∙ at) in
              ap (λ (n : ℕ). (stands.net.condition n).feeders) behind.1
              ∙ ap (λ (c : Condition). c.feeders) (stands.wired.spares valve spare)
              ∙ sym (ap (map (valve_with (ids_of new.list) after.numbers)) (ap (λ (h : ℕ × Check). children_of h.1) held ∙ fresh_alone))
        ];
        owns = λ place found other its at_place numbered. elim (number_of_new place found numbered) [
          | inl before ↦
              own_beside found (λ e. spare.1 place (before.0 ∙ ap Some e))
              ∙ its_own zones old new reports index stands are_new kin later place found place other its
              (same place (other, its) before.1 at_place) before.0 at_place
          | inr behind ↦
              let held : ◌≡◌ {A = ℕ × Check} (other, its) (id, check) = some_same (sym at_place ∙ ap (slice_get new.list) behind.0 ∙ at) in
              rw (eq-eqb found valve behind.1, ap (λ (h : ℕ × Check). h.0) held, ap (λ (h : ℕ × Check). h.1) held) fresh_own
        ];
        told = stands.told;
        fits = fits;
        ends = stands.ends;
        meet = meet;
        idle = idle;
      }

-- what holds of every index still does
pub whole_more : (index : Index) (w : IsIntact index) (new : Checks) → AreSoundChecks new
    → AreMore index.ids new.list → (id : ℕ) (check : Check)
    → slice_get new.list (length index.ids) ≡ Some (id, check) → (fresh : Seen) (count valve : ℕ)
    → IsSpare index.numbers valve → (valves : Valves) → 200 ≤ w.net.size
    → ValvesStandFor w.net (with_own valve count w.own) valves → IsIdle valves → (space : Space)
    → IsIntact (record index {
      ids = index.ids ++ id ∷ [];
      numbers = index.numbers ++ valve ∷ [];
      seen = index.seen ++ Some fresh ∷ [];
      valves = valves;
      space = space;
    })
whole_more index w new are_new more id check at fresh count valve spare valves roomy fits idle space =
    let long = length-append index.ids (id ∷ []) in
    let ids = one_more_ids index.ids new.list id check more.0 more.1 at in
    let all = more_valves (length index.ids) index.numbers valve w.numbers spare in
    record {
      net = w.net;
      own = with_own valve count w.own;
      fits = fits;
      idle = idle;
      as_many = length-append index.seen (Some fresh ∷ []) ∙ ap (λ (n : ℕ). n + 1) w.as_many ∙ sym long;
      apart = subst StandApart (sym ids) (ids_apart new.list are_new.rising);
      numbers = record { as_many = all.as_many ∙ sym long; apart = all.apart; early = all.early };
      within = λ place found at_place. elim (in_more index.numbers valve found place at_place) [
        | inl before ↦ w.within place found before
        | inr behind ↦ (let same = behind.1 in let early = spare.0 in omega arith)
      ];
      seated = w.seated;
      given = w.given;
      alone = λ place found its is numbered. elim (in_more index.numbers valve found place numbered) [
        | inl before ↦ elim (in_more index.seen (Some fresh) (Some its) place is) [
          | inl saw ↦ w.alone place found its saw before
          | inr last ↦
              let within = slice_get_within index.numbers place found before in
              let many = w.numbers.as_many in
              let seen_many = w.as_many in
              let e = last.0 in
              absurd (omega arith)
        ]
        | inr behind ↦ rw behind.1 (w.spare valve spare)
      ];
      spare = λ found is. w.spare found (is.0, λ place here. is.1 place (still_there index.numbers valve found place here));
    }

-- the check that came, among those that are told
pub came_at : (list told : List (ℕ × Check)) (ids : List ℕ) (place : ℕ) (held : ℕ × Check) → told ≡ list
    → place ≡ length ids → slice_get told place ≡ Some held → slice_get list (length ids) ≡ Some held
came_at list told ids place held is same at =
    ap (slice_get list) (sym same) ∙ ap (λ (l : List (ℕ × Check)). slice_get l place) (sym is) ∙ at

-- and what the index is with it
pub index_with : (index now : Index) (valves : Valves) (space : Space) (ids numbers : List ℕ)
    (seen : List (Option Seen)) (id valve : ℕ) (its : Seen) → index ≡ now → space ≡ index.space
    → ids ≡ index.ids ++ id ∷ [] → numbers ≡ index.numbers ++ valve ∷ []
    → seen ≡ index.seen ++ Some its ∷ []
    → record index { ids = ids; numbers = numbers; seen = seen; valves = valves; space = space }
    ≡ record now { ids = now.ids ++ id ∷ []; numbers = now.numbers ++ valve ∷ []; seen = now.seen ++ Some its ∷ []; valves = valves }
index_with index now valves space ids numbers seen id valve its same room ids_are numbers_are seen_are =
    subst (λ (i : Index). record index { ids = ids; numbers = numbers; seen = seen; valves = valves; space = space }
    ≡ record i { ids = i.ids ++ id ∷ []; numbers = i.numbers ++ valve ∷ []; seen = i.seen ++ Some its ∷ []; valves = valves }) same
    (ap (λ (l : List ℕ). record index { ids = l; numbers = numbers; seen = seen; valves = valves; space = space }) ids_are
    ∙ ap (λ (l : List ℕ). record index { ids = index.ids ++ id ∷ []; numbers = l; seen = seen; valves = valves; space = space }) numbers_are
    ∙ ap (λ (l : List (Option Seen)). record index { ids = index.ids ++ id ∷ []; numbers = index.numbers ++ valve ∷ []; seen = l; valves = valves; space = space }) seen_are
    ∙ ap (λ (s : Space). record index { ids = index.ids ++ id ∷ []; numbers = index.numbers ++ valve ∷ []; seen = index.seen ++ Some its ∷ []; valves = valves; space = s }) room)
