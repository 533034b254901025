-- The sets of a group tell whether it has a valve.
use Rattle.std.proofs.Common.{◌≡◌, ℕ, List, ap, sym, ◌∙◌}
use mathlib.Core.Path.{subst}
use Rattle.health_planning.specs.Groups.{members_of, sets_in, sets_in_zone}
use Rattle.rdata_layout.specs.declared.types.RType.{RType}
use Rattle.record_set.specs.Sets.{key_of}
use Rattle.record_set.specs.declared.sets.RecordSet.{RecordSet}
use Rattle.health_planning.proofs.MembersOfZoneList.{one_of_key, placed_with, set_in}
use Rattle.health_planning.specs.Zones.{AreZones, Zone, placed_in}
use Rattle.zone_model.specs.Slotted.{IsHere, Slotted, sets_of}
use Rattle.zone_model.specs.Zones.{IsAmong, group, is_of_group}
use Rattle.health_planning.specs.GroupRecord.{Group}
use Rattle.health_planning.proofs.Groups.{members_are}
use Rattle.health_planning.proofs.Wiring.{of_group, passes_it, rising_in}
use Rattle.health_planning.specs.Wired.{group_seat}
use Rattle.health_planning.specs.declared.seats.Seat.{Seat}
use Rattle.health_standing.specs.Leaving.{HasNoValve}
use Rattle.health_standing.proofs.Staying.{in_filter}

module _ (zones : List Zone) (are_zones : AreZones zones) (seats : List Seat) (g : Group)
    (zone : ℕ) (name : List (List ℕ)) (rtype : RType) (its_zone : g.zone ≡ zone)
    (its_sets : sets_in zones g ≡ group (sets_in_zone zones zone) name rtype) where
  pub by_members : ((p : Slotted) → IsHere (members_of zones g) p → group_seat seats p.slot ≡ 0)
      → HasNoValve zones seats zone name rtype
  by_members none p here name_is rtype_is =
      let passes = passes_it name rtype p.set name_is rtype_is in
      let among = in_filter (is_of_group name rtype) (sets_of (placed_in zones zone)) p.set (set_in (placed_in zones zone) p here) passes in
      let q = placed_with (members_of zones g) p.set (subst (λ (l : List RecordSet). IsAmong l p.set) (sym its_sets) among) in
      let there = (members_are zones g zone name rtype its_zone its_sets).here q.0 q.1 in
      let one = one_of_key (placed_in zones zone) (rising_in zones are_zones.each zone) q.0 p there here (ap key_of q.2) in
      ap (λ (x : Slotted). group_seat seats x.slot) (sym one) ∙ none q.0 q.1

  pub to_members : HasNoValve zones seats zone name rtype → (p : Slotted)
      → IsHere (members_of zones g) p → group_seat seats p.slot ≡ 0
  to_members none p m =
      let are = members_are zones g zone name rtype its_zone its_sets in
      let is = of_group (sets_of (placed_in zones zone)) name rtype p.set
      (subst (λ (l : List RecordSet). IsAmong l p.set) are.sets (set_in (members_of zones g) p m)) in
      none p (are.here p m) is.0 is.1
