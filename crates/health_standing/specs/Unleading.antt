-- Commands by which one set goes that has a valve of its own, from a group without one, as an evaluated alias
-- does while another one leads where it led: nothing feeds that valve any more, and a seat tells nothing.
use Rattle.std.specs.Prelude.{◌≡◌, ◌<◌, ℕ, suc, List}
use Rattle.health_standing.specs.Index.{Index}
use Rattle.health_standing.specs.Regrouping.{IsSeatedIn}
use Rattle.health_planning.specs.Looking.{RefersTo}
use Rattle.health_planning.specs.SetRefRecord.{SetRef}
use Rattle.health_planning.specs.Wired.{group_seat, seat_of}
use Rattle.health_planning.specs.Zones.{Zone}
use Rattle.health_planning.specs.declared.seats.Seat.{Seat}
use Rattle.health_valves.specs.Valves.{IsShared, Net, ValvesStandFor, size_of, unfed_condition, with_condition, with_own}
use Rattle.health_valves.specs.declared.valves.Valves.{Valves}
use Rattle.record_set.specs.declared.sets.RecordSet.{RecordSet}

-- What a set that isn't there any more left: a seat with a valve of its own, which tells none for its group.
-- What feeds it behind the valves of 200 checks feeds another one too: where that is the valve of a group, another alias
-- leads there. Where a check alone decided the set, which had its valve in a group that was led to, none of these fed it.
pub record LeavesValve (zones : List Zone) (seats : List Seat) (valves : Valves) (ref : SetRef) (valve : ℕ)
    : Type 0 where
  pub gone : (named : RecordSet) → RefersTo zones ref named → ⊥
  pub seat : seat_of seats ref.slot ≡ suc valve
  pub none : group_seat seats ref.slot ≡ 0
  pub within : valve < size_of valves
  pub shared : (net : Net) (own : ℕ → ℕ) → ValvesStandFor net own valves → IsShared net valve 200

-- Nothing feeds the valve then, and the seat tells nothing. Nothing else changes.
pub record Unleads (ref : SetRef) (valve : ℕ) (before after : Index) : Type 0 where
  pub rest : after ≡ record before { seats = after.seats; valves = after.valves }
  pub seated : IsSeatedIn ref.slot 0 before.seats after.seats
  pub unfed : (net : Net) (own : ℕ → ℕ) → ValvesStandFor net own before.valves
      → ValvesStandFor (with_condition valve unfed_condition net) (with_own valve 0 own) after.valves
