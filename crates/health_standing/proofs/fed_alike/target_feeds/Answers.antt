use Rattle.std.proofs.Common.{◌≡◌, ℕ, List, Some, arith, length, ap, sym, ◌∙◌, suc, ◌-◌}
use mathlib.Core.Path.{subst}
use Rattle.std.proofs.lemmas.Bool.{false≢true}
use Rattle.std.proofs.lemmas.List.{length-map}
use Rattle.std.proofs.lemmas.Option.{slice_get_within}
use Rattle.health_planning.proofs.Groups.{member_at, members_are}
use Rattle.health_planning.proofs.Members.{one_named}
use Rattle.health_planning.proofs.Wiring.{first_same}
use Rattle.health_planning.specs.Groups.{members_of}
use Rattle.health_planning.specs.Looking.{Targets}
use Rattle.health_planning.specs.Telling.{target_of}
use Rattle.health_planning.specs.Wired.{AreMembers, group_seat}
use Rattle.health_valves.specs.Valves.{Feeds}
use Rattle.rdata_layout.specs.declared.types.RType.{RType}
use Rattle.record_set.specs.declared.sets.RecordSet.{RecordSet}
use Rattle.zone_model.specs.Slotted.{Slotted, sets_of}
use Rattle.health_standing.proofs.fed_alike.target_feeds.Goals as goal

some_same : {X : Type 0} {x y : X} → Some x ≡ Some y → x ≡ y
some_same e = cc

sets_long : (members : List Slotted) → length (sets_of members) ≡ length members
sets_long members = length-map members (λ (p : Slotted). p.set)

pub returns-then-group-eq0 : goal.returns-then-group-eq0
returns-then-group-eq0 c named names =
    let zones = c.args.zones.now.zones in
    let t = subst (Targets zones c.args.set) c.in-Some.is c.target.ensures in
    let same = one_named zones c.args.set t.0 named c.well_formed-2.ensures t.1 names in (
      λ so. absurd (false≢true so),
      λ fed.
          let both : ◌≡◌ {A = List (List ℕ) × RType} c.in-Some.target (fed.name, fed.rtype) =
          some_same (sym t.2 ∙ ap target_of same ∙ fed.target) in
          let are = subst (λ (x : List (List ℕ) × RType). AreMembers zones c.args.set.zone x.0 x.1 fed.members) (sym both) fed.are in
          let some = slice_get_within fed.members 0 fed.seat.1.0.0 fed.seat.1.0.1 in
          let long = sets_long fed.members in
          let sets = ap (λ (l : List RecordSet). length l) are.sets in
          let count = c.find_group-group.ensures.count in
          let none = c.if-group-eq0.true in
          absurd (omega (arith, some, long, sets, count, none)),
    )

pub returns-then-seat-eq0 : goal.returns-then-seat-eq0
returns-then-seat-eq0 c named names =
    let zones = c.args.zones.now.zones in
    let t = subst (Targets zones c.args.set) c.in-Some.is c.target.ensures in
    let same = one_named zones c.args.set t.0 named c.well_formed-2.ensures t.1 names in
    let first = member_at zones c.find_group-group.result 0 c.member.result (omega (arith, c.if-group-eq0.false)) c.member.ensures in
    let are = members_are zones c.find_group-group.result c.args.set.zone c.in-Some.target.0 c.in-Some.target.1
    c.find_group-group.ensures.zone c.find_group-group.ensures.sets in (
      λ so. absurd (false≢true so),
      λ fed.
          let both : ◌≡◌ {A = List (List ℕ) × RType} c.in-Some.target (fed.name, fed.rtype) =
          some_same (sym t.2 ∙ ap target_of same ∙ fed.target) in
          let its = subst (λ (x : List (List ℕ) × RType). AreMembers zones c.args.set.zone x.0 x.1 fed.members) (sym both) fed.are in
          let slots = first_same zones c.well_formed-2.ensures c.args.set.zone c.in-Some.target.0 c.in-Some.target.1 fed.members
          (members_of zones c.find_group-group.result) fed.seat.0 c.member.result.slot its fed.seat.1.0 are (first.p, first.at, first.slot) in
          let tells = ap (group_seat c.args.seats.now) (sym slots) ∙ fed.seat.1.1 in
          let seat = c.find_seat-seat.ensures.group in
          let none = c.if-seat-eq0.true in
          absurd (omega (arith, tells, seat, none)),
    )

pub returns : goal.returns
returns c named names =
    let zones = c.args.zones.now.zones in
    let t = subst (Targets zones c.args.set) c.in-Some.is c.target.ensures in
    let same = one_named zones c.args.set t.0 named c.well_formed-2.ensures t.1 names in
    let first = member_at zones c.find_group-group.result 0 c.member.result (omega (arith, c.if-group-eq0.false)) c.member.ensures in
    let are = members_are zones c.find_group-group.result c.args.set.zone c.in-Some.target.0 c.in-Some.target.1
    c.find_group-group.ensures.zone c.find_group-group.ensures.sets in
    let valve = c.find_seat-seat.result.group - 1 in
    let some = c.if-seat-eq0.false in
    let seat_is = c.find_seat-seat.ensures.group in
    let told : group_seat c.args.seats.now c.member.result.slot ≡ suc valve = omega (arith, some, seat_is) in
    let ready = c.requires.ready in (
      λ so. record {
        name = c.in-Some.target.0;
        rtype = c.in-Some.target.1;
        target = ap target_of (sym same) ∙ t.2;
        members = members_of zones c.find_group-group.result;
        are = are;
        group = valve;
        seat = (c.member.result.slot, ((first.p, first.at, first.slot), told));
        fed = λ net own fits. (c.feeds.ensures net own fits).0 so;
      },
      λ fed.
          let both : ◌≡◌ {A = List (List ℕ) × RType} c.in-Some.target (fed.name, fed.rtype) =
          some_same (sym t.2 ∙ ap target_of same ∙ fed.target) in
          let its = subst (λ (x : List (List ℕ) × RType). AreMembers zones c.args.set.zone x.0 x.1 fed.members) (sym both) fed.are in
          let slots = first_same zones c.well_formed-2.ensures c.args.set.zone c.in-Some.target.0 c.in-Some.target.1 fed.members
          (members_of zones c.find_group-group.result) fed.seat.0 c.member.result.slot its fed.seat.1.0 are (first.p, first.at, first.slot) in
          let tells = ap (group_seat c.args.seats.now) (sym slots) ∙ fed.seat.1.1 in
          let group : fed.group ≡ valve = omega (arith, tells, told) in
          (c.feeds.ensures ready.0 ready.1 ready.2).1
          (subst (λ n. Feeds ready.0 n c.args.valve) group (fed.fed ready.0 ready.1 ready.2)),
    )
