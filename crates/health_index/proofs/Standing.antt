-- An index that was laid out stands for its configuration.
use Rattle.std.proofs.Common.{◌≡◌, ◌≢◌, ◌<◌, ◌+◌, ℕ, zero, suc, List, length, map, arith, refl, ap, sym, ◌∙◌, Option, Some}
use Rattle.std.specs.Prelude.{slice_get}
use Rattle.std.proofs.lemmas.Option.{slice_get_within}
use Rattle.check_model.specs.Checks.{Checks}
use Rattle.check_model.specs.Checks.{IsSound as AreSoundChecks}
use Rattle.checker_state.specs.Standing.{Seen}
use Rattle.health_valves.specs.Valves.{HasEnds, ValvesStandFor}
use Rattle.health_valves.specs.Pass.{IsIdle, MeetAll}
use Rattle.health_valves.specs.Blueprint.{Drawn, feeders_in, net_in, own_in}
use Rattle.health_valves.specs.declared.valves.Valves.{Valves}
use Rattle.health_model.specs.Sound.{IsSound}
use Rattle.health_model.specs.Statuses.{AreReports, Report}
use Rattle.health_planning.specs.Zones.{AreZones, Zone}
use Rattle.health_planning.specs.SetRefRecord.{SetRef}
use Rattle.health_planning.specs.Tables.{HaveSlotsApart}
use Rattle.health_planning.specs.Building.{AllListed, AllTell, AreGiven, AreOfEndpoints, AreSeen, AreTriggered, IsBuilt, HoldsSet, set_trigger}
use Rattle.health_index.specs.Index.{Index, IsIntact, Space, StandsFor, TellApart}
use Rattle.health_index.specs.Kin.{kin_of}
use Rattle.health_planning.specs.Wired.{HaveValves, ids_of, seat_of, set_seat, valve_with, watched_of}
use Rattle.health_planning.specs.declared.seats.Seat.{Seat}
use Rattle.health_planning.proofs.Places.{ids_apart}
use Rattle.health_planning.proofs.Planned.{fed_by_condition}
use Rattle.health_planning.proofs.Told.{own_early, own_suc}
use Rattle.health_planning.proofs.Wiring.{ids_long, watched_there, wired}

some_same : {X : Type 0} {x y : X} → Some x ≡ Some y → x ≡ y
some_same e = cc

module _ (zones : List Zone) (checks : Checks) (refs members : List SetRef) (seats : List Seat)
    (blueprint : Drawn) (valves : Valves) (ids numbers : List ℕ) (seen : List (Option Seen)) (kin : List ℕ) (space : Space)
    (are_checks : AreSoundChecks checks) (ids_is : ids ≡ ids_of checks.list)
    (kin_is : kin ≡ kin_of checks.list)
    (valved : HaveValves (length checks.list) numbers) (many : length seen ≡ length ids)
    (built : IsBuilt zones checks.list numbers refs seats blueprint.triggers blueprint.links)
    (given : AreGiven refs members seats)
    (fits : ValvesStandFor (net_in blueprint) (own_in blueprint) valves) (idle : IsIdle valves) where
  abbrev laid : Index
  laid = record { ids = ids; numbers = numbers; seen = seen; kin = kin; seats = seats; refs = refs; members = members; valves = valves; space = space }

  ids_many : length ids ≡ length checks.list
  ids_many = ap length ids_is ∙ ids_long checks.list

  pub whole : AreOfEndpoints checks.list seen → IsIntact laid
  whole kinds =
      let long = ids_many in
      let size = built.size in
      record {
        net = net_in blueprint;
        own = own_in blueprint;
        fits = fits;
        idle = idle;
        as_many = many;
        apart = rw ids_is (ids_apart checks.list are_checks.rising);
        numbers = record { as_many = let m = valved.as_many in omega arith; apart = valved.apart; early = valved.early };
        within = λ place valve at. let early = valved.early place valve at in omega arith;
        seated = λ slot valve is. by_seat slot valve is (seat_of seats slot) refl;
        given = given;
        alone = λ place valve its is numbered.
            let k = kinds place its is in
            fed_by_condition (slice_get blueprint.triggers valve) (feeders_in blueprint.links valve)
            ∙ built.children place valve k.0 k.1.0 k.1.1.0 numbered
            ∙ ap (map (valve_with (ids_of checks.list) numbers)) k.1.1.1;
        spare = λ valve is.
            fed_by_condition (slice_get blueprint.triggers valve) (feeders_in blueprint.links valve)
            ∙ built.unfed valve is;
      }
    where
      -- a valve of the set's own, or that of a check
      by_seat : (slot valve : ℕ) → set_seat seats slot ≡ suc valve → (seat : ℕ) → seat_of seats slot ≡ seat
          → valve < length blueprint.triggers
      by_seat slot valve is zero none =
          let early = own_early (set_seat seats slot) none in
          let size = built.size in
          omega arith
      by_seat slot valve is (suc found) some =
          let o = built.only slot found some in
          let g = built.sets o.0 o.1.0 o.1.2 in
          let b = slice_get_within blueprint.triggers (200 + o.0) (set_trigger g.named) g.trigger in
          let at = o.1.1 in
          let same = own_suc (set_seat seats slot) found some in
          omega arith

  -- valves stand one after another: those of checks, of sets, of groups
  told : ((slot : ℕ) → set_seat seats slot ≢ 0 → HoldsSet zones slot) → TellApart zones seats
  told here = record {
    sets = λ slot other valve is is_too.
        let a = built.only slot valve is in
        let b = built.only other valve is_too in
        let at = a.1.1 in
        let at_too = b.1.1 in
        let places : a.0 ≡ b.0 = omega arith in
        let one = some_same (sym a.1.2 ∙ ap (slice_get refs) places ∙ b.1.2) in
        sym a.1.3 ∙ ap (λ (r : SetRef). r.slot) one ∙ b.1.3;
    kinds = λ slot other valve is is_too.
        let a = built.only slot valve is in
        let at = a.1.1 in
        let b = slice_get_within refs a.0 a.1.0 a.1.2 in
        let g = built.groups.valves other valve is_too in
        let past = g.0 in
        omega arith;
    groups = λ slot valve is.
        let g = built.groups.valves slot valve is in
        let past = g.0 in
        record {
          zone = g.1.zone;
          name = g.1.name;
          rtype = g.1.rtype;
          members = g.1.members;
          are = g.1.are;
          led = g.1.led;
          behind = omega arith;
          each = g.1.each;
          only = g.1.only;
        };
    here = here;
  }

  pub stands : (reports : List Report) → AreZones zones → HaveSlotsApart zones
      → IsSound (watched_of zones checks) → AreReports checks.next reports
      → AllListed zones refs → AllTell zones (ids_of checks.list) numbers refs seats
      → ((slot : ℕ) → set_seat seats slot ≢ 0 → HoldsSet zones slot)
      → AreSeen reports checks.list seen → AreTriggered reports checks.list numbers blueprint.triggers
      → HasEnds (net_in blueprint)
      → MeetAll (net_in blueprint) (own_in blueprint) valves → StandsFor zones checks reports laid
  stands reports are_zones apart sound are_reports all tell here are_seen triggered ends meet = record {
    are_zones = are_zones;
    slots = apart;
    are_checks = are_checks;
    sound = sound;
    are_reports = are_reports;
    ids = ids_is;
    numbers = valved;
    seen = are_seen;
    as_many = many;
    kin = kin_is;
    listed = λ zone valve p there seat. (watched_there zones checks.list numbers refs seats blueprint are_zones apart valved built zone p there valve seat).0;
    net = net_in blueprint;
    own = own_in blueprint;
    wired = wired zones checks.list numbers refs seats blueprint are_zones apart valved built all tell reports triggered;
    told = told here;
    fits = fits;
    ends = ends;
    meet = meet;
    idle = idle;
  }
