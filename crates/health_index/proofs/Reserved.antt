-- An index in which room was made stays as it was.
use Rattle.std.proofs.Common.{◌≡◌, ℕ, List, length, ap, sym, ◌∙◌}
use mathlib.Core.Path.{subst}
use Rattle.check_model.specs.Checks.{Checks}
use Rattle.health_valves.specs.Valves.{ValvesStandFor, Net}
use Rattle.health_valves.specs.Pass.{IsIdle, MeetAll}
use Rattle.health_model.specs.Statuses.{Report}
use Rattle.health_planning.specs.Zones.{Zone}
use Rattle.health_index.specs.Index.{Index, IsIntact, OwnListed, StandsFor, TellApart}
use Rattle.health_index.specs.Room.{Keeps}
use Rattle.health_planning.specs.SetRefRecord.{SetRef}
use Rattle.health_planning.specs.Wired.{AreValvesOf, HaveValves}
use Rattle.health_planning.specs.declared.seats.Seat.{Seat}

module _ (before after : Index) (keeps : Keeps before after)
    (stays : (net : Net) (own : ℕ → ℕ) → ValvesStandFor net own before.valves → ValvesStandFor net own after.valves)
    (meet : (net : Net) (own : ℕ → ℕ) → MeetAll net own before.valves → MeetAll net own after.valves)
    (idle : IsIdle before.valves → IsIdle after.valves) where
  as_many : length before.seen ≡ length before.ids → length after.seen ≡ length after.ids
  as_many many = ap length keeps.seen ∙ many ∙ sym (ap length keeps.ids)

  pub still_stands : (zones : List Zone) (checks : Checks) (reports : List Report)
      → StandsFor zones checks reports before → StandsFor zones checks reports after
  still_stands zones checks reports is = record {
    are_zones = is.are_zones;
    slots = is.slots;
    are_checks = is.are_checks;
    sound = is.sound;
    are_reports = is.are_reports;
    ids = keeps.ids ∙ is.ids;
    numbers = subst (HaveValves (length checks.list)) (sym keeps.numbers) is.numbers;
    seen = rw keeps.seen is.seen;
    as_many = as_many is.as_many;
    kin = keeps.kin ∙ is.kin;
    listed = subst (λ (refs : List SetRef). OwnListed zones refs after.seats) (sym keeps.refs)
        (subst (OwnListed zones before.refs) (sym keeps.seats) is.listed);
    net = is.net;
    own = is.own;
    wired = subst (λ (seats : List Seat). AreValvesOf zones checks.list after.numbers seats is.net is.own reports) (sym keeps.seats)
        (subst (λ (numbers : List ℕ). AreValvesOf zones checks.list numbers before.seats is.net is.own reports) (sym keeps.numbers) is.wired);
    told = subst (TellApart zones) (sym keeps.seats) is.told;
    fits = stays is.net is.own is.fits;
    ends = is.ends;
    meet = meet is.net is.own is.meet;
    idle = idle is.idle;
  }

  pub still_whole : IsIntact before → IsIntact after
  still_whole is = record {
    net = is.net;
    own = is.own;
    fits = stays is.net is.own is.fits;
    idle = idle is.idle;
    as_many = as_many is.as_many;
    apart = rw keeps.ids is.apart;
    numbers = rw (keeps.ids, keeps.numbers) is.numbers;
    within = rw keeps.numbers is.within;
    seated = rw keeps.seats is.seated;
    given = rw (keeps.refs, keeps.members, keeps.seats) is.given;
    alone = rw (keeps.seen, keeps.numbers) is.alone;
    spare = rw keeps.numbers is.spare;
  }
