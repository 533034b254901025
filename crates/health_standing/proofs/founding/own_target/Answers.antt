use Rattle.std.proofs.Common.{◌≡◌, ℕ, List, None, Some, arith, length, refl, ap, sym, ◌∙◌}
use Rattle.std.proofs.lemmas.Bool.{false≢true}
use mathlib.Core.Path.{subst}
use Rattle.std.proofs.lemmas.List.{length-map}
use Rattle.health_planning.proofs.Groups.{members_are}
use Rattle.health_planning.proofs.Members.{one_named}
use Rattle.health_planning.specs.GroupRecord.{Group}
use Rattle.health_planning.specs.Groups.{members_of}
use Rattle.health_planning.specs.Looking.{IsGroupNow, Targets}
use Rattle.health_planning.specs.SetRefRecord.{SetRef}
use Rattle.health_planning.specs.Telling.{target_of}
use Rattle.health_planning.specs.Wired.{AreMembers}
use Rattle.health_planning.specs.Zones.{AreZones, Zone}
use Rattle.health_planning.specs.declared.seats.Seat.{Seat}
use Rattle.health_standing.proofs.OneList.{members_same}
use Rattle.health_standing.specs.Founding.{AreOwnBeside, HasOwnTarget}
use Rattle.rdata_layout.specs.declared.types.RType.{RType}
use Rattle.record_set.specs.declared.sets.RecordSet.{RecordSet}
use Rattle.zone_model.specs.Slotted.{Slotted, sets_of}
use Rattle.health_standing.proofs.founding.own_target.Goals as goal

some_same : {X : Type 0} {x y : X} → Some x ≡ Some y → x ≡ y
some_same e = cc

none_some : {X : Type 0} {x : X} → None ≡ Some x → ⊥
none_some e = cc

sets_long : (members : List Slotted) → length (sets_of members) ≡ length members
sets_long members = length-map members (λ (p : Slotted). p.set)

-- what the code finds is the target group
its_members : (zones : List Zone) (are_zones : AreZones zones) (seats : List Seat) (ref : SetRef) (named other : RecordSet)
    (members : List Slotted) (name : List (List ℕ)) (rtype : RType) (g : List Slotted) → other ≡ named
    → target_of other ≡ Some (name, rtype) → AreMembers zones ref.zone name rtype g
    → HasOwnTarget zones seats ref named members → g ≡ members
its_members zones are_zones seats ref named other members name rtype g same target are has =
    let both : ◌≡◌ {A = List (List ℕ) × RType} (name, rtype) (has.name, has.rtype) =
    some_same (sym target ∙ ap target_of same ∙ has.target) in
    let its = subst (λ (x : List (List ℕ) × RType). AreMembers zones ref.zone x.0 x.1 members) (sym both) has.are in
    members_same zones are_zones ref.zone name rtype g members are its

pub returns-in_default-clause-all : goal.returns-in_default-clause-all
returns-in_default-clause-all c named members names has =
    let zones = c.args.zones.now.zones in
    let t = subst (Targets zones c.args.set) c.in_default.is c.target.ensures in
    absurd (none_some (sym (t named names) ∙ has.target))

pub returns-then-group-eq0-clause-all : goal.returns-then-group-eq0-clause-all
returns-then-group-eq0-clause-all c named members names has =
    let zones = c.args.zones.now.zones in
    let t = subst (Targets zones c.args.set) c.in-Some.is c.target.ensures in
    let same = one_named zones c.args.set t.0 named c.well_formed-2.ensures t.1 names in
    let are = members_are zones c.find_group-group.result c.args.set.zone c.in-Some.target.0 c.in-Some.target.1
    c.find_group-group.ensures.zone c.find_group-group.ensures.sets in
    let g = its_members zones c.well_formed-2.ensures c.args.seats.now c.args.set named t.0 members c.in-Some.target.0 c.in-Some.target.1
    (members_of zones c.find_group-group.result) same t.2 are has in
    let some = has.some in
    let alike = ap (λ (l : List Slotted). length l) g in
    let long = sets_long (members_of zones c.find_group-group.result) in
    let sets = ap (λ (l : List RecordSet). length l) c.find_group-group.ensures.sets in
    let count = c.find_group-group.ensures.count in
    let none = c.if-group-eq0.true in
    absurd (omega (arith, some, alike, long, sets, count, none))

pub returns-then-not-are_own_beside-clause-all : goal.returns-then-not-are_own_beside-clause-all
returns-then-not-are_own_beside-clause-all c named members names has =
    let zones = c.args.zones.now.zones in
    let t = subst (Targets zones c.args.set) c.in-Some.is c.target.ensures in
    let same = one_named zones c.args.set t.0 named c.well_formed-2.ensures t.1 names in
    let are = members_are zones c.find_group-group.result c.args.set.zone c.in-Some.target.0 c.in-Some.target.1
    c.find_group-group.ensures.zone c.find_group-group.ensures.sets in
    let g = its_members zones c.well_formed-2.ensures c.args.seats.now c.args.set named t.0 members c.in-Some.target.0 c.in-Some.target.1
    (members_of zones c.find_group-group.result) same t.2 are has in
    absurd (false≢true (sym c.if-not-are_own_beside.true ∙ c.are_own_beside.ensures.1 (subst (AreOwnBeside c.args.seats.now c.args.set.slot) (sym g) has.own)))

pub returns-clause-found : goal.returns-clause-found
returns-clause-found c its named is names =
    let zones = c.args.zones.now.zones in
    let t = subst (Targets zones c.args.set) c.in-Some.is c.target.ensures in
    let same = one_named zones c.args.set t.0 named c.well_formed-2.ensures t.1 names in
    let are = members_are zones c.find_group-group.result c.args.set.zone c.in-Some.target.0 c.in-Some.target.1
    c.find_group-group.ensures.zone c.find_group-group.ensures.sets in
    let long = sets_long (members_of zones c.find_group-group.result) in
    let sets = ap (λ (l : List RecordSet). length l) c.find_group-group.ensures.sets in
    let count = c.find_group-group.ensures.count in
    let some = c.if-group-eq0.false in
    subst (λ (g : Group). IsGroupNow zones g × ((g.zone ≡ c.args.set.zone)
    × ((g.length ≡ length (members_of zones g)) × HasOwnTarget zones c.args.seats.now c.args.set named (members_of zones g))))
    (some_same is) (
      c.find_group-group.ensures.now,
      (
        c.find_group-group.ensures.zone,
        (
          omega (arith, long, sets, count),
          record {
            name = c.in-Some.target.0;
            rtype = c.in-Some.target.1;
            target = ap target_of (sym same) ∙ t.2;
            are = are;
            some = omega (arith, long, sets, count, some);
            own = c.are_own_beside.ensures.0 c.if-not-are_own_beside.false;
          },
        ),
      ),
    )

pub returns-clause-all : goal.returns-clause-all
returns-clause-all c named members names has =
    let zones = c.args.zones.now.zones in
    let t = subst (Targets zones c.args.set) c.in-Some.is c.target.ensures in
    let same = one_named zones c.args.set t.0 named c.well_formed-2.ensures t.1 names in
    let are = members_are zones c.find_group-group.result c.args.set.zone c.in-Some.target.0 c.in-Some.target.1
    c.find_group-group.ensures.zone c.find_group-group.ensures.sets in
    let g = its_members zones c.well_formed-2.ensures c.args.seats.now c.args.set named t.0 members c.in-Some.target.0 c.in-Some.target.1
    (members_of zones c.find_group-group.result) same t.2 are has in
    (c.find_group-group.result, (refl, g))
