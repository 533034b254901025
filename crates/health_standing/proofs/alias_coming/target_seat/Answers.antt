use Rattle.std.proofs.Common.{◌≡◌, ℕ, zero, suc, List, None, Some, arith, length, ap, sym, ◌∙◌}
use mathlib.Core.Path.{subst}
use Rattle.std.proofs.lemmas.List.{length-map}
use Rattle.std.proofs.lemmas.Option.{slice_get_within}
use Rattle.health_planning.proofs.Groups.{member_at, members_are}
use Rattle.health_planning.proofs.Members.{one_named}
use Rattle.health_planning.proofs.Wiring.{first_same}
use Rattle.health_planning.specs.Groups.{members_of}
use Rattle.health_planning.specs.Looking.{Targets}
use Rattle.health_planning.specs.Telling.{target_of}
use Rattle.health_planning.specs.Wired.{AreMembers, IsFirstIn, group_seat}
use Rattle.health_planning.specs.Zones.{AreZones, Zone}
use Rattle.health_planning.specs.declared.seats.Seat.{Seat}
use Rattle.health_standing.specs.Leading.{IsTargetSeat}
use Rattle.rdata_layout.specs.declared.types.RType.{RType}
use Rattle.record_set.specs.declared.sets.RecordSet.{RecordSet}
use Rattle.zone_model.specs.Slotted.{Slotted, sets_of}
use Rattle.health_standing.proofs.alias_coming.target_seat.Goals as goal

some_same : {X : Type 0} {x y : X} → Some x ≡ Some y → x ≡ y
some_same e = cc

none_some : {X : Type 0} {x : X} → None ≡ Some x → ⊥
none_some e = cc

sets_long : (members : List Slotted) → length (sets_of members) ≡ length members
sets_long members = length-map members (λ (p : Slotted). p.set)

told_by : (zones : List Zone) (are_zones : AreZones zones) (seats : List Seat) (zone : ℕ) (set : RecordSet)
    (name : List (List ℕ)) (rtype : RType) (members : List Slotted) (slot : ℕ) → target_of set ≡ Some (name, rtype)
    → AreMembers zones zone name rtype members → IsFirstIn members slot → (told : ℕ)
    → group_seat seats slot ≡ told → IsTargetSeat zones seats zone set told
told_by zones are_zones seats zone set name rtype members slot target are first zero none = λ group has.
    let both : ◌≡◌ {A = List (List ℕ) × RType} (name, rtype) (has.name, has.rtype) = some_same (sym target ∙ has.target) in
    let its = subst (λ (x : List (List ℕ) × RType). AreMembers zones zone x.0 x.1 has.members) (sym both) has.are in
    let slots = first_same zones are_zones zone name rtype has.members members has.seat.0 slot its has.seat.1.0 are first in
    let tells = ap (group_seat seats) (sym slots) ∙ has.seat.1.1 in
    omega (arith, tells, none)
told_by zones are_zones seats zone set name rtype members slot target are first (suc group) told = record {
  name = name;
  rtype = rtype;
  target = target;
  members = members;
  are = are;
  seat = (slot, (first, told));
}

pub returns-in_default : goal.returns-in_default
returns-in_default c named names group has =
    let zones = c.args.zones.now.zones in
    let t = subst (Targets zones c.args.set) c.in_default.is c.target.ensures in
    absurd (none_some (sym (t named names) ∙ has.target))

pub returns-then-group-eq0 : goal.returns-then-group-eq0
returns-then-group-eq0 c named names group has =
    let zones = c.args.zones.now.zones in
    let t = subst (Targets zones c.args.set) c.in-Some.is c.target.ensures in
    let same = one_named zones c.args.set t.0 named c.well_formed-2.ensures t.1 names in
    let both : ◌≡◌ {A = List (List ℕ) × RType} c.in-Some.target (has.name, has.rtype) =
    some_same (sym t.2 ∙ ap target_of same ∙ has.target) in
    let are = subst (λ (x : List (List ℕ) × RType). AreMembers zones c.args.set.zone x.0 x.1 has.members) (sym both) has.are in
    let some = slice_get_within has.members 0 has.seat.1.0.0 has.seat.1.0.1 in
    let long = sets_long has.members in
    let sets = ap (λ (l : List RecordSet). length l) are.sets in
    let count = c.find_group-group.ensures.count in
    let none = c.if-group-eq0.true in
    absurd (omega (arith, some, long, sets, count, none))

pub returns : goal.returns
returns c named names =
    let zones = c.args.zones.now.zones in
    let t = subst (Targets zones c.args.set) c.in-Some.is c.target.ensures in
    let same = one_named zones c.args.set t.0 named c.well_formed-2.ensures t.1 names in
    let first = member_at zones c.find_group-group.result 0 c.member.result (omega (arith, c.if-group-eq0.false)) c.member.ensures in
    let are = members_are zones c.find_group-group.result c.args.set.zone c.in-Some.target.0 c.in-Some.target.1
    c.find_group-group.ensures.zone c.find_group-group.ensures.sets in
    told_by zones c.well_formed-2.ensures c.args.seats.now c.args.set.zone named c.in-Some.target.0 c.in-Some.target.1
    (members_of zones c.find_group-group.result) c.member.result.slot (ap target_of (sym same) ∙ t.2) are (first.p, first.at, first.slot)
    c.find_seat.result.group (sym c.find_seat.ensures.group)
