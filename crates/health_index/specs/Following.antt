-- Commands by which no calculated check comes, goes or gets other children: how the checks follow of those
-- before, and what changes of the valves.
use Rattle.std.specs.Prelude.{◌≡◌, ◌≤◌, ◌<◌, ◌+◌, ◌++◌, ◌⊎◌, ℕ, List, [], ◌∷◌, Option, None, Some, length, map, slice_get, ⊤}
use Rattle.std.specs.List.{remove}
use Rattle.check_model.specs.Checks.{Checks, children_of}
use Rattle.check_model.specs.declared.checks.Check.{Check}
use Rattle.check_model.specs.declared.checks.Check.TheVariants.{Endpoint, Calculated}
use Rattle.checker_state.specs.Standing.{Seen, nothing}
use Rattle.checker_state.specs.Standing.{StandsFor as HasSeen}
use Rattle.health_index.specs.Index.{Index, IsEndpoint, OwnListed, TellApart}
use Rattle.health_index.specs.Kin.{kin_of}
use Rattle.health_index.specs.declared.following.Way.{Way}
use Rattle.health_index.specs.declared.following.Way.TheVariants as way
use Rattle.health_model.specs.Nodes.{Node}
use Rattle.health_model.specs.Statuses.{AreReports, Report, passing}
use Rattle.health_planning.specs.Building.{AreSeen}
use Rattle.health_planning.specs.Tables.{HaveSlotsApart}
use Rattle.health_planning.specs.Wired.{HaveValves, IsSeated, IsSpare, IsValveFor, check_need, check_own, group_seat, ids_of, is_inverted, seat_of, set_seat, spare_condition, valve_with, IsVacant}
use Rattle.health_planning.specs.Zones.{AreZones, Zone, placed_in}
use Rattle.zone_model.specs.Slotted.{IsHere, Slotted}
use Rattle.health_valves.specs.Pass.{IsIdle, MeetAll}
use Rattle.health_valves.specs.Valves.{HasEnds, Net, ValvesStandFor, size_of}
use Rattle.health_valves.specs.declared.valves.Valves.{Valves}

-- ---- how checks follow

-- as far as some place the checks have these numbers, one by one
abbrev pub HaveIds : (ids : List ℕ) → (many : ℕ) → List (ℕ × Check) → Type 0
HaveIds ids many list = (place : ℕ) (held : ℕ × Check) → place < many
    → slice_get list place ≡ Some held → slice_get ids place ≡ Some held.0

-- and from there on those one place further
abbrev pub HaveIdsBehind : (ids : List ℕ) → (gone : ℕ) → List (ℕ × Check) → Type 0
HaveIdsBehind ids gone list = (place : ℕ) (held : ℕ × Check) → gone ≤ place
    → slice_get list place ≡ Some held → slice_get ids (place + 1) ≡ Some held.0

-- The checks have these numbers.
abbrev pub AreSame : List ℕ → List (ℕ × Check) → Type 0
AreSame ids list = (length list ≡ length ids) × HaveIds ids (length ids) list

-- One more came, behind all.
abbrev pub AreMore : List ℕ → List (ℕ × Check) → Type 0
AreMore ids list = (length list ≡ length ids + 1) × HaveIds ids (length ids) list

-- The one at a place went.
abbrev pub AreFewer : List ℕ → (gone : ℕ) → List (ℕ × Check) → Type 0
AreFewer ids gone list = (gone < length ids) × ((length ids ≡ length list + 1)
    × (HaveIds ids gone list × HaveIdsBehind ids gone list))

-- How the checks follow of those that had these numbers.
abbrev pub IsWay : List ℕ → List (ℕ × Check) → Way → Type 0
IsWay ids list way.Same = AreSame ids list
IsWay ids list way.More = AreMore ids list
IsWay ids list (way.Fewer gone) = AreFewer ids gone list
IsWay ids list way.Other = (AreSame ids list → ⊥) × ((AreMore ids list → ⊥)
    × ((gone : ℕ) → AreFewer ids gone list → ⊥))

-- Each check that was there, by its number, has the valve that it had.
abbrev pub HaveTheirValves : (ids numbers ids_now numbers_now : List ℕ) → Type 0
HaveTheirValves ids numbers ids_now numbers_now = (place place_now id : ℕ)
    → slice_get ids place ≡ Some id → slice_get ids_now place_now ≡ Some id
    → valve_with ids_now numbers_now id ≡ valve_with ids numbers id

-- ---- what checkers saw

-- the index has the checkers of the check at a place, so it is of an endpoint
abbrev pub HasCheckers : List (Option Seen) → (place : ℕ) → Type 0
HasCheckers seen place = slice_get seen place ≡ Some None → ⊥

-- the check at a place is of an endpoint
abbrev pub IsEndpointAt : List (ℕ × Check) → (place : ℕ) → Type 0
IsEndpointAt list place = (held : ℕ × Check) → slice_get list place ≡ Some held
    → IsEndpoint (Some held.1)

-- what the checkers of an endpoint's check saw before any result
abbrev pub IsFresh : Check → Seen → Type 0
IsFresh (Endpoint threshold inverted disabled) its = HasSeen threshold nothing its
IsFresh (Calculated threshold inverted disabled children) its = ⊥

-- ---- what changes of the index

-- An index whose checks can follow by this way in place: one that comes is of an endpoint, and there are the
-- valves of 200 checks then; one that goes was of an endpoint. Each that stands for checks is one, where these
-- have the same kin as those that follow.
abbrev pub IsOpenTo : Way → List (ℕ × Check) → Index → Type 0
IsOpenTo way.Same list index = ⊤
IsOpenTo way.More list index = (200 ≤ size_of index.valves) × IsEndpointAt list (length index.ids)
IsOpenTo (way.Fewer gone) list index = HasCheckers index.seen gone
IsOpenTo way.Other list index = ⊥

-- Numbers come and go with the checks, and so do their valves and what checkers saw: one that came has
-- a valve that was spare, and its checkers saw nothing yet. Nothing else changes but valves, and the children
-- of calculated checks are kept as they were.
abbrev pub Follows : Way → List (ℕ × Check) → (before after : Index) → Type 0
Follows way.Same list before after = after ≡ record before { valves = after.valves }
Follows way.More list before after = (id : ℕ) × ((check : Check) × ((its : Seen) × ((valve : ℕ)
    × ((slice_get list (length before.ids) ≡ Some (id, check)) × (IsFresh check its
    × (IsSpare before.numbers valve × (after ≡ record before {
      ids = before.ids ++ id ∷ [];
      numbers = before.numbers ++ valve ∷ [];
      seen = before.seen ++ Some its ∷ [];
      valves = after.valves;
    })))))))
Follows (way.Fewer gone) list before after = after ≡ record before {
  ids = remove before.ids gone;
  numbers = remove before.numbers gone;
  seen = remove before.seen gone;
  valves = after.valves;
}
Follows way.Other list before after = ⊥

-- ---- what changes of the valves

-- The valves of so many checks have their conditions. What feeds each valve stays, and so do the
-- conditions of valves that are of no check.
pub record AreReshaped (list : List (ℕ × Check)) (numbers : List ℕ) (many : ℕ) (before after : Net)
    : Type 0 where
  pub size : after.size ≡ before.size
  pub feeders : (n : ℕ) → (after.condition n).feeders ≡ (before.condition n).feeders
  pub need : (place valve : ℕ) (held : ℕ × Check) → place < many → slice_get list place ≡ Some held
      → slice_get numbers place ≡ Some valve → (after.condition valve).need ≡ check_need held.1
  pub inverted : (place valve : ℕ) (held : ℕ × Check) → place < many → slice_get list place ≡ Some held
      → slice_get numbers place ≡ Some valve → (after.condition valve).inverted ≡ is_inverted held.1
  pub others : (n : ℕ) → ((place : ℕ) → slice_get numbers place ≡ Some n → ⊥)
      → after.condition n ≡ before.condition n

-- The valves stand for such a net then, and where all met their equations, all do still.
pub record Reshapes (list : List (ℕ × Check)) (numbers : List ℕ) (many : ℕ) (net : Net)
    (own : ℕ → ℕ) (before after : Valves) : Type 0 where
  pub now : Net
  pub reshaped : AreReshaped list numbers many net now
  pub fits : ValvesStandFor now own after
  pub meet : HasEnds net → MeetAll net own before → MeetAll now own after

-- The index has the numbers of checks, and all that is to stand for them but how many open their valves and
-- whether these are inverted.
pub record IsFollowed (zones : List Zone) (checks : Checks) (reports : List Report) (index : Index)
    : Type 0 where
  pub are_zones : AreZones zones
  pub slots : HaveSlotsApart zones
  pub are_reports : AreReports checks.next reports
  pub ids : index.ids ≡ ids_of checks.list
  pub numbers : HaveValves (length checks.list) index.numbers
  pub seen : AreSeen reports checks.list index.seen
  pub as_many : length index.seen ≡ length index.ids
  pub kin : index.kin ≡ kin_of checks.list
  pub listed : OwnListed zones index.refs index.seats
  pub net : Net
  pub own : ℕ → ℕ
  pub sets : (zone : ℕ) (p : Slotted) → IsHere (placed_in zones zone) p
      → IsSeated zones (ids_of checks.list) index.numbers index.seats net own zone p
  pub nodes : (valve : ℕ) → 200 ≤ valve → valve < net.size → IsVacant net valve
      ⊎ ((node : Node) × IsValveFor zones checks.list index.numbers index.seats net own valve node)
  pub groups : (slot valve : ℕ) → group_seat index.seats slot ≡ valve + 1 → valve < net.size
  pub members : (slot valve : ℕ) → group_seat index.seats slot ≡ valve + 1
      → set_seat index.seats slot ≡ seat_of index.seats slot
  pub spares : (valve : ℕ) → IsSpare index.numbers valve
      → net.condition valve ≡ spare_condition
  pub many : 200 ≤ net.size
  pub feeders : (place valve id : ℕ) (check : Check) → slice_get checks.list place ≡ Some (id, check)
      → slice_get index.numbers place ≡ Some valve → (net.condition valve).feeders
      ≡ map (valve_with (ids_of checks.list) index.numbers) (children_of check)
  pub owns : (place valve id : ℕ) (check : Check) → slice_get checks.list place ≡ Some (id, check)
      → slice_get index.numbers place ≡ Some valve → own valve ≡ check_own check (passing reports id)
  pub told : TellApart zones index.seats
  pub fits : ValvesStandFor net own index.valves
  pub ends : HasEnds net
  pub meet : MeetAll net own index.valves
  pub idle : IsIdle index.valves
