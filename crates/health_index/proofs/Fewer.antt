-- What an index that stood for some checks is to checks with the same kin, after one of an endpoint went.
use Rattle.std.proofs.Common.{◌≡◌, ◌≤◌, ◌<◌, ◌+◌, ℕ, false, List, [], length, arith, refl, ap, sym, ◌∙◌, inl, inr, Some, None}
use Rattle.std.specs.List.{remove}
use Rattle.std.specs.Prelude.{◌⊎◌, Option, slice_get, slice_index}
use Rattle.std.proofs.lemmas.Bool.{cases_eq, cases_lt}
use Rattle.std.proofs.lemmas.List.Edits.{length-remove}
use mathlib.Core.Path.{subst}
use Rattle.check_model.specs.Checks.{AreChildren, Checks, children_of}
use Rattle.check_model.specs.Checks.{IsSound as AreSoundChecks}
use Rattle.check_model.specs.declared.checks.Check.{Check}
use Rattle.checker_state.specs.Standing.{Seen}
use Rattle.health_index.proofs.Behind.{node_now, seated_now}
use Rattle.health_index.proofs.Knowing.{still_reports}
use Rattle.health_index.proofs.Reshaped.{feeders_as, same_ids}
use Rattle.health_index.proofs.Valved.{fewer_valves, removed_before, removed_at, removed_behind, spare_before, stood, stood_is}
use Rattle.health_index.proofs.Ways.{its_feeders, its_own, its_seen, nodes}
use Rattle.health_index.specs.Following.{AreFewer, HasCheckers, IsFollowed}
use Rattle.health_index.specs.Index.{Index, IsIntact, Space, StandsFor}
use Rattle.health_index.specs.Kin.{kin_of}
use Rattle.health_model.specs.Sound.{IsSound}
use Rattle.health_model.specs.Statuses.{Report}
use Rattle.health_planning.proofs.Built.{checks_there}
use Rattle.health_planning.proofs.MembersOfZoneList.{filled}
use Rattle.health_planning.proofs.Numbers.{ids_valves, number_is, valve_there}
use Rattle.health_planning.proofs.Places.{held_there, ids_apart, of_all, only_place}
use Rattle.health_planning.proofs.Wiring.{ids_long}
use Rattle.health_planning.specs.Later.{AreLater}
use Rattle.health_planning.specs.Wired.{HaveValves, IsSpare, StandApart, ids_of, spare_condition, valve_with, watched_of}
use Rattle.health_planning.specs.Zones.{Zone, placed_in}
use Rattle.health_valves.proofs.Needs.{ends_same, feeders_same, here, there}
use Rattle.health_valves.specs.Pass.{IsIdle, MeetAll}
use Rattle.health_valves.specs.Valves.{Net, ValvesStandFor, with_need}
use Rattle.health_valves.specs.declared.valves.Valves.{Valves}
use Rattle.zone_model.specs.Slotted.{IsHere, Slotted}

some_same : {X : Type 0} {x y : X} → Some x ≡ Some y → x ≡ y
some_same e = cc

-- ---- the numbers of checks

module _ (ids : List ℕ) (list : List (ℕ × Check)) (gone : ℕ) (fewer : AreFewer ids gone list) where
  long : length (remove ids gone) + 1 ≡ length ids
  long = length-remove ids gone fewer.0

  pub fewer_ids : remove ids gone ≡ ids_of list
  fewer_ids =
      let left = long in
      let many = fewer.1.0 in
      same_ids (remove ids gone) list (omega arith) (λ place held at. elim (cases_lt place gone) [
        | inl early ↦ removed_before ids gone place early ∙ fewer.1.1.0 place held early at
        | inr past ↦ removed_behind ids gone place past ∙ fewer.1.1.1 place held past at
      ])

-- ---- what holds of every index

-- where checkers of a check saw something, nothing feeds its valve
pub gone_alone : (index : Index) (w : IsIntact index) (gone valve : ℕ) → gone < length index.ids
    → HasCheckers index.seen gone → slice_get index.numbers gone ≡ Some valve
    → (w.net.condition valve).feeders ≡ []
gone_alone index w gone valve goes have numbered =
    let many = w.as_many in
    let saw = filled index.seen gone (omega arith) in
    by saw.0 saw.1
  where
    by : (saw : Option Seen) → slice_get index.seen gone ≡ Some saw → (w.net.condition valve).feeders ≡ []
    by None at = absurd (have at)
    by (Some its) at = w.alone gone valve its at numbered

pub whole_fewer : (index : Index) (w : IsIntact index) (new : Checks) → AreSoundChecks new
    → (gone valve : ℕ) → AreFewer index.ids gone new.list → slice_get index.numbers gone ≡ Some valve
    → (w.net.condition valve).feeders ≡ [] → (valves : Valves)
    → ValvesStandFor (with_need valve 0 false w.net) w.own valves → IsIdle valves → (space : Space)
    → IsIntact (record index {
      ids = remove index.ids gone;
      numbers = remove index.numbers gone;
      seen = remove index.seen gone;
      valves = valves;
      space = space;
    })
whole_fewer index w new are_new gone valve fewer numbered alone valves fits idle space =
    let goes = fewer.0 in
    let as_many = w.as_many in
    let many = w.numbers.as_many in
    let left = length-remove index.ids gone fewer.0 in
    let seen_left = length-remove index.seen gone (omega arith) in
    let all = fewer_valves index.numbers gone (length (remove index.ids gone))
    (record { as_many = omega arith; apart = w.numbers.apart; early = w.numbers.early }) (omega arith) in
    record {
      net = with_need valve 0 false w.net;
      own = w.own;
      fits = fits;
      idle = idle;
      as_many = omega arith;
      apart = subst StandApart (sym (fewer_ids index.ids new.list gone fewer)) (ids_apart new.list are_new.rising);
      numbers = all;
      within = λ place found at.
          let m = stood gone place in
          w.within m found (sym (removed_at index.numbers gone place) ∙ at);
      seated = w.seated;
      given = w.given;
      alone = λ place found its is at.
          let m = stood gone place in
          feeders_same valve 0 false w.net found
          ∙ w.alone m found its (sym (removed_at index.seen gone place) ∙ is) (sym (removed_at index.numbers gone place) ∙ at);
      spare = λ found is. feeders_same valve 0 false w.net found ∙ elim (cases_eq valve found) [
        | inl same ↦ ap (λ (n : ℕ). (w.net.condition n).feeders) (sym same) ∙ alone
        | inr apart ↦
            w.spare found (spare_before index.numbers gone (length (remove index.ids gone))
            (record { as_many = omega arith; apart = w.numbers.apart; early = w.numbers.early }) (omega arith) found
            (λ at. apart (some_same (sym numbered ∙ at))) is)
      ];
    }

-- ---- an index that stood for something

module _ (zones : List Zone) (old new : Checks) (reports : List Report) (index : Index)
    (stands : StandsFor zones old reports index) (are_new : AreSoundChecks new)
    (kin : index.kin ≡ kin_of new.list) (later : AreLater old new) (sound : IsSound (watched_of zones new))
    (gone valve : ℕ) (fewer : AreFewer index.ids gone new.list)
    (numbered : slice_get index.numbers gone ≡ Some valve)
    (alone : (stands.net.condition valve).feeders ≡ []) (valves : Valves)
    (fits : ValvesStandFor (with_need valve 0 false stands.net) stands.own valves)
    (meet : MeetAll (with_need valve 0 false stands.net) stands.own valves)
    (idle : IsIdle valves) (space : Space) where
  abbrev now : Net
  now = with_need valve 0 false stands.net

  abbrev left : List ℕ
  left = remove index.numbers gone

  old_many : length old.list ≡ length index.ids
  old_many = sym (ap length stands.ids ∙ ids_long old.list)

  goes : gone < length index.numbers
  goes = (let early = fewer.0 in let many = stands.numbers.as_many in let long = old_many in omega arith)

  before_all : HaveValves (length new.list + 1) index.numbers
  before_all =
      let many = stands.numbers.as_many in
      let long = old_many in
      let shorter = fewer.1.0 in
      record { as_many = omega arith; apart = stands.numbers.apart; early = stands.numbers.early }

  condition_late : (n : ℕ) → 200 ≤ n → now.condition n ≡ stands.net.condition n
  condition_late n late =
      let early = stands.numbers.early gone valve numbered in
      there valve 0 false stands.net n (λ e. omega arith)

  -- where a check stood
  ids_before : (place id : ℕ) (check : Check) → slice_get new.list place ≡ Some (id, check)
      → slice_get index.ids (stood gone place) ≡ Some id
  ids_before place id check at =
      by (stood gone place) (stood_is gone place)
    where
      by : (m : ℕ) → ((m ≡ place) × (place < gone)) ⊎ ((m ≡ place + 1) × (gone ≤ place))
          → slice_get index.ids m ≡ Some id
      by m (inl early) = ap (slice_get index.ids) early.0 ∙ fewer.1.1.0 place (id, check) early.1 at
      by m (inr past) = ap (slice_get index.ids) past.0 ∙ fewer.1.1.1 place (id, check) past.1 at

  -- each check that stays has the valve that it had
  stays : (place named : ℕ) → slice_get (ids_of new.list) place ≡ Some named
      → valve_with (ids_of new.list) left named ≡ valve_with (ids_of old.list) index.numbers named
  stays place named at =
      let held = held_there new.list place named at in
      let m = stood gone place in
      let was = subst (λ (l : List ℕ). slice_get l m ≡ Some named) stands.ids (ids_before place named held.0 held.1) in
      let here = valve_there (ids_of old.list) index.numbers (ids_valves old.list index.numbers stands.numbers) m named was in
      let old_place = only_place (ids_of old.list) (ids_apart old.list stands.are_checks.rising) m named was in
      ap (slice_index left) (only_place (ids_of new.list) (ids_apart new.list are_new.rising) place named at)
      ∙ number_is left place (valve_with (ids_of old.list) index.numbers named)
      (removed_at index.numbers gone place ∙ ap (slice_get index.numbers) (sym old_place) ∙ here)

  placed : (zone : ℕ) (q : Slotted) (named : ℕ) → IsHere (placed_in zones zone) q → q.set.check ≡ Some named
      → valve_with (ids_of new.list) left named ≡ valve_with (ids_of old.list) index.numbers named
  placed zone q named in_zone is =
      let k = checks_there zones new sound (record { zone = zone; slot = q.slot }) q.set named in_zone is in
      stays k.0 named k.1

  spares_now : (found : ℕ) → IsSpare left found → now.condition found ≡ spare_condition
  spares_now found is = elim (cases_eq valve found) [
    | inl same ↦
        ap now.condition (sym same) ∙ here valve 0 false stands.net
        ∙ ap (λ (l : List ℕ). record { need = 0; inverted = false; feeders = l }) alone
    | inr apart ↦
        there valve 0 false stands.net found (λ e. apart (sym e))
        ∙ stands.wired.spares found (spare_before index.numbers gone (length new.list) before_all goes found
        (λ at. apart (some_same (sym numbered ∙ at))) is)
  ]

  pub fewer_way : IsFollowed zones new reports
      (record index { ids = remove index.ids gone; numbers = remove index.numbers gone; seen = remove index.seen gone; valves = valves; space = space })
  fewer_way =
      let seen_many = stands.as_many in
      let early = fewer.0 in
      let ids_left = length-remove index.ids gone fewer.0 in
      let seen_left = length-remove index.seen gone (omega arith) in
      record {
        are_zones = stands.are_zones;
        slots = stands.slots;
        are_reports = still_reports old.next new.next reports later.next stands.are_reports;
        ids = fewer_ids index.ids new.list gone fewer;
        numbers = fewer_valves index.numbers gone (length new.list) before_all goes;
        seen = λ place id check its at saw.
            let m = stood gone place in
            its_seen zones old new reports index stands are_new kin later m place id check its
            (ids_before place id check at) at (sym (removed_at index.seen gone place) ∙ saw);
        as_many = omega arith;
        kin = kin;
        listed = stands.listed;
        net = now;
        own = stands.own;
        sets = seated_now zones old.list new.list index.numbers left index.seats stands.net now stands.own stands.own refl
            condition_late (λ n late. refl) stands.wired.its_sets placed;
        nodes = node_now zones old.list new.list index.numbers left index.seats stands.net now stands.own stands.own refl
            condition_late (λ n late. refl) stands.wired.its_sets placed stands.numbers.early
            (nodes zones old new reports index stands are_new kin later);
        groups = λ slot found is. stands.wired.its_groups slot found (let e = is in omega arith);
        members = λ slot found is. stands.wired.its_members slot found (let e = is in omega arith);
        spares = spares_now;
        many = stands.wired.many;
        feeders = λ place found id check at at_number.
            let m = stood gone place in
            let there = of_all (λ (h : ℕ × Check). AreChildren new.list (children_of h.1)) new.list place (id, check) are_new.children at in
            feeders_same valve 0 false stands.net found
            ∙ its_feeders zones old new reports index stands are_new kin later m found place id check
            (ids_before place id check at) (sym (removed_at index.numbers gone place) ∙ at_number) at
            ∙ feeders_as new.list (valve_with (ids_of old.list) index.numbers) (valve_with (ids_of new.list) left) (children_of check)
            there.there (λ k named at_k. sym (stays k named at_k));
        owns = λ place found id check at at_number.
            let m = stood gone place in
            its_own zones old new reports index stands are_new kin later m found place id check
            (ids_before place id check at) (sym (removed_at index.numbers gone place) ∙ at_number) at;
        told = stands.told;
        fits = fits;
        ends = ends_same valve 0 false stands.net 64 stands.ends;
        meet = meet;
        idle = idle;
      }
