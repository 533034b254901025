-- Commands by which the last evaluated alias goes that leads to a group, while its own group has no valve: nothing
-- feeds its valve any more, nor that of the group where it led, and no seat tells either.
use Rattle.std.specs.Prelude.{◌≡◌, ◌≢◌, ◌<◌, ℕ, suc, List, nat_eq, not}
use Rattle.std.specs.List.{filter}
use Rattle.health_standing.specs.Index.{Index}
use Rattle.health_planning.specs.Building.{TellsOn}
use Rattle.health_planning.specs.Looking.{RefersTo}
use Rattle.health_planning.specs.SetRefRecord.{SetRef}
use Rattle.health_planning.specs.Wired.{group_seat, seat_of, set_seat}
use Rattle.health_planning.specs.Zones.{Zone}
use Rattle.health_planning.specs.declared.seats.Seat.{Seat}
use Rattle.health_valves.specs.Valves.{IsSoleFeeder, Net, ValvesStandFor, size_of, unfed_condition, with_condition, with_own}
use Rattle.health_valves.specs.declared.valves.Valves.{Valves}
use Rattle.record_set.specs.declared.sets.RecordSet.{RecordSet}

-- ---- which commands

-- What a set that isn't there any more left: a seat with a valve of its own, which tells none for its group. The
-- valve of one group alone feeds it, and feeds no other: so no alias leads to that group any more.
pub record LeavesLast (zones : List Zone) (seats : List Seat) (valves : Valves) (ref : SetRef)
    (valve group : ℕ) : Type 0 where
  pub gone : (named : RecordSet) → RefersTo zones ref named → ⊥
  pub seat : seat_of seats ref.slot ≡ suc valve
  pub none : group_seat seats ref.slot ≡ 0
  pub within : valve < size_of valves
  pub sole : (net : Net) (own : ℕ → ℕ) → ValvesStandFor net own valves → IsSoleFeeder net valve 200 group

-- ---- what changes

-- No seat tells a valve for a group any more that is given as one more. All seats tell what they told of the valves
-- of sets, and of those of other groups.
pub record TellWithout (told : ℕ) (before after : List Seat) : Type 0 where
  pub sets : (slot : ℕ) → TellsOn before after slot
  pub gone : (slot : ℕ) → group_seat before slot ≡ told → group_seat after slot ≡ 0
  pub groups : (slot : ℕ) → group_seat before slot ≢ told → group_seat after slot ≡ group_seat before slot

-- So it is in all slots but one, where the seat tells nothing.
pub record AreSeatedWithout (slot told : ℕ) (before after : List Seat) : Type 0 where
  pub set : set_seat after slot ≡ 0
  pub none : group_seat after slot ≡ 0
  pub others : (other : ℕ) → other ≢ slot → TellsOn before after other
  pub gone : (other : ℕ) → other ≢ slot → group_seat before other ≡ told → group_seat after other ≡ 0
  pub groups : (other : ℕ) → other ≢ slot → group_seat before other ≢ told
      → group_seat after other ≡ group_seat before other

-- those of some sets whose seats tell a valve for their group
abbrev pub told_among : List Seat → List SetRef → List SetRef
told_among seats refs = filter (λ (ref : SetRef). not (nat_eq (group_seat seats ref.slot) 0)) refs

-- Nothing feeds the valve of the alias then, and nothing that of the group; the seat of the alias tells nothing, and
-- those of the sets of the group no valve for it. Of the noted sets those stay noted whose seats tell a valve for their
-- group still. Nothing else changes: sets of the group that have valves of their own keep them.
pub record Unfounds (ref : SetRef) (valve group : ℕ) (before after : Index) : Type 0 where
  pub rest : after ≡ record before {
    seats = after.seats;
    members = told_among after.seats before.members;
    valves = after.valves;
  }
  pub seated : AreSeatedWithout ref.slot (suc group) before.seats after.seats
  pub unfed : (net : Net) (own : ℕ → ℕ) → ValvesStandFor net own before.valves
      → ValvesStandFor (with_condition group unfed_condition (with_condition valve unfed_condition net))
      (with_own group 0 (with_own valve 0 own)) after.valves
