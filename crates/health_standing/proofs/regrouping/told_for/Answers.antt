use Rattle.std.proofs.Common.{◌≡◌, ℕ, zero, suc, List, Some, ap, sym, ◌∙◌}
use mathlib.Core.Path.{subst}
use Rattle.health_standing.proofs.Bare.{by_members}
use Rattle.health_standing.specs.Regrouping.{IsToldFor, IsToldIn}
use Rattle.health_planning.proofs.Groups.{members_are}
use Rattle.health_planning.proofs.Members.{one_named}
use Rattle.health_planning.proofs.MembersOfZoneList.{set_in}
use Rattle.health_planning.proofs.Wiring.{of_group}
use Rattle.health_planning.specs.GroupRecord.{Group}
use Rattle.health_planning.specs.Groups.{members_of, sets_in, sets_in_zone}
use Rattle.health_planning.specs.Zones.{AreZones, Zone, placed_in}
use Rattle.health_planning.specs.declared.seats.Seat.{Seat}
use Rattle.rdata_layout.specs.declared.types.RType.{RType}
use Rattle.record_set.specs.declared.sets.RecordSet.{RecordSet}
use Rattle.zone_model.specs.Slotted.{sets_of}
use Rattle.zone_model.specs.Zones.{IsAmong, group}
use Rattle.health_standing.proofs.regrouping.told_for.Goals as goal

told_by : (zones : List Zone) (are_zones : AreZones zones) (seats : List Seat) (g : Group) (zone : ℕ)
    (name : List (List ℕ)) (rtype : RType) (its_zone : g.zone ≡ zone)
    (its_sets : sets_in zones g ≡ group (sets_in_zone zones zone) name rtype) (told : ℕ)
    → IsToldIn seats (members_of zones g) told → IsToldFor zones seats zone name rtype told
told_by zones are_zones seats g zone name rtype its_zone its_sets zero none =
    by_members zones are_zones seats g zone name rtype its_zone its_sets none
told_by zones are_zones seats g zone name rtype its_zone its_sets (suc valve) (p, (m, tells)) =
    let are = members_are zones g zone name rtype its_zone its_sets in
    let is = of_group (sets_of (placed_in zones zone)) name rtype p.set
    (subst (λ (l : List RecordSet). IsAmong l p.set) are.sets (set_in (members_of zones g) p m)) in
    record { member = p; here = are.here p m; name_is = is.0; rtype_is = is.1; tells = tells }

pub returns : goal.returns
returns c named names =
    let zones = c.args.zones.now.zones in
    let seats = c.args.seats.now in
    let held = c.if-not-load.ensures in
    let same = one_named zones c.args.set held.0 named c.well_formed-2.ensures held.1 names in
    let is : c.load.new.into ≡ Some named = held.2 ∙ ap Some same in
    let name_is : c.name.result ≡ named.name = rw is at c.name.ensures in
    let rtype_is : c.rtype.result ≡ named.rtype = rw is at c.rtype.ensures in
    let o = c.find_group-group.ensures in
    rw (sym name_is, sym rtype_is)
    (told_by zones c.well_formed-2.ensures seats c.find_group-group.result c.args.set.zone c.name.result c.rtype.result o.zone o.sets c.told_in.result c.told_in.ensures)
