use Rattle.std.proofs.Common.{◌≡◌, ◌<◌, ◌≤◌, ◌^◌, ◌∷◌, ◌++◌, [], add-one, Bool, false, true, List, arith, ap, refl, sym, ◌∙◌, length, length-append}
use Rattle.std.specs.Prelude.{not}
use mathlib.Core.Path.{subst}
use Rattle.std.proofs.lemmas.Bool.{false≢true}
use Rattle.health_valves.specs.declared.blueprint.Feeding.{Feeding}
use Rattle.policy_select.proofs.Members.{one_named}
use Rattle.policy_select.specs.Groups.{members_of}
use Rattle.record_set.specs.declared.sets.RecordSet.{RecordSet}
use Rattle.policy_select.specs.Telling.{evaluates, target_of}
use Rattle.zone_model.proofs.Among.{among_at}
use Rattle.policy_select.specs.Looking.{Targets, Watches}
use Rattle.health_planning.specs.Building.{group_trigger, links_to}
use Rattle.health_planning.specs.Wired.{IsLedTo, check_seat, valves_of, group_seat, plain_among}
use Rattle.health_planning.specs.declared.seats.Seat.{Seat}
use Rattle.health_planning.proofs.Few.{few_plain}
use Rattle.health_planning.proofs.Grouped.{feeders_now, stays, within_now}
use Rattle.health_planning.proofs.Groups.{alias_alone, leads_to, member_at, members_are, some_valve, told_target}
use Rattle.health_planning.proofs.ListedOnce.{slot_below, still_at}
use Rattle.health_planning.proofs.Roomy.{bare, can_more, valve_early, links_fit, members_few, members_own}
use Rattle.health_planning.proofs.grouping.group_one.Goals as goal

pub returns-then-only-ne0-clause-here : goal.returns-then-only-ne0-clause-here
returns-then-only-ne0-clause-here c named name names is =
    let told = ap (λ (l : List Seat). check_seat l c.args.set.slot) c.deref.ensures.value ∙ c.requires.told named names in
    absurd (c.if-only-ne0.true (c.check_at-only.ensures ∙ told ∙ alias_alone named (ap evaluates is)))

pub returns-then-not-watch-clause-here : goal.returns-then-not-watch-clause-here
returns-then-not-watch-clause-here c named name names is =
    let zones = c.args.zones.now.zones in
    let w = subst (Watches zones c.args.set) c.in-Some.is c.watch.ensures in
    let same = one_named zones c.args.set w.0 named c.well_formed-2.ensures w.1 names in
    let on : c.in-Some.watch.evaluates ≡ true = ap (λ x. x.evaluates) w.2 ∙ ap (λ (s : RecordSet). evaluates s.body) same ∙ ap evaluates is in
    absurd (false≢true (ap not (sym on) ∙ c.if-not-watch.true))

pub seat_at-seat-requires : goal.seat_at-seat-requires
seat_at-seat-requires c =
    let zones = c.args.zones.now.zones in
    let first = member_at zones c.find_group-group.result 0 c.member-first.result (omega (arith, c.if-group-eq0.false)) c.member-first.ensures in
    let b = slot_below zones c.args.zones.now.slots c.member-first.result first.p.set c.slots_within.ensures.within first.names in
    let slots = c.requires.slots in
    let within : c.member-first.result.slot < length c.args.seats.now.items = omega arith in
    let read = ap length c.deref-2.ensures.value in
    omega arith

pub returns-then-seat-ne0-clause-here : goal.returns-then-seat-ne0-clause-here
returns-then-seat-ne0-clause-here c named name names is =
    let zones = c.args.zones.now.zones in
    let first = member_at zones c.find_group-group.result 0 c.member-first.result (omega (arith, c.if-group-eq0.false)) c.member-first.ensures in
    let t = subst (Targets zones c.args.set) c.in-Some-target.is c.target.ensures in
    let same = one_named zones c.args.set t.0 named c.well_formed-2.ensures t.1 names in
    let target = told_target named name _ is (ap target_of (sym same) ∙ t.2) in
    let are = members_are zones c.find_group-group.result c.args.set.zone c.in-Some-target.target.0 c.in-Some-target.target.1
    c.find_group-group.ensures.zone c.find_group-group.ensures.sets in
    let read = c.deref-2.ensures.value in
    let group_is = sym (c.seat_at-seat.ensures.group ∙ ap (λ (l : List Seat). group_seat l c.member-first.result.slot) read) in
    let valve = some_valve (group_seat c.args.seats.now.items c.member-first.result.slot) (λ e. c.if-seat-ne0.true (sym group_is ∙ e)) in
    rw (target.0, target.1) (record {
      members = members_of zones c.find_group-group.result;
      are = are;
      slot = c.member-first.result.slot;
      first = (first.p, first.at, first.slot);
      valve = valve.0;
      seat = valve.1;
    })

-- what isn't not so is so
truth : (b : Bool) → not b ≡ false → b ≡ true
truth true e = refl
truth false e = absurd (false≢true (sym e))

pub returns-clause-grouped : goal.returns-clause-grouped
returns-clause-grouped c from base can =
    let zones = c.args.zones.now.zones in
    let first = member_at zones c.find_group-group.result 0 c.member-first.result (omega (arith, c.if-group-eq0.false)) c.member-first.ensures in
    let members = members_of zones c.find_group-group.result in
    let b = slot_below zones c.args.zones.now.slots c.member-first.result first.p.set c.slots_within.ensures.within first.names in
    let slots = c.requires.slots in
    let its_slot = first.slot in
    let seats = c.args.seats.now.items in
    let in_one = among_at members 0 first.p first.at in
    let within : first.p.slot < length seats = omega arith in
    let read = c.deref-2.ensures.value in
    let tested = sym (c.seat_at-seat.ensures.group ∙ ap (λ (l : List Seat). group_seat l c.member-first.result.slot) read) ∙ c.if-seat-ne0.false in
    let empty = ap (group_seat seats) first.slot ∙ tested in
    let are = members_are zones c.find_group-group.result c.args.set.zone c.in-Some-target.target.0 c.in-Some-target.target.1
    c.find_group-group.ensures.zone c.find_group-group.ensures.sets in
    let plains = c.count_plain-plains.ensures ∙ ap (λ (l : List Seat). plain_among l members) c.deref-3.ensures.value in
    let placed = members_few zones c.find_group-group.result c.args.zones.now.slots c.well_formed-2.ensures c.slots_within.ensures.within in
    let most = c.requires.room.1.1.few in
    let some = few_plain seats members in
    let few : plain_among seats members ≤ 2 ^ 31 = omega arith in
    let own = members_own zones c.find_group-group.result c.well_formed-2.ensures in
    let links = c.join_members.ensures.links ∙ ap (λ (l : List Feeding). l ++ links_to c.len-valve.result (valves_of c.deref-4.result.now members))
    c.push.ensures.links ∙ ap (λ (l : List Seat). c.args.blueprint.now.links ++ links_to c.len-valve.result (valves_of l members)) c.deref-4.ensures.value in
    let triggers = c.join_members.ensures.triggers ∙ c.push.ensures.triggers ∙ ap (λ n. c.args.blueprint.now.triggers ++ group_trigger n ∷ []) plains in
    let valve_is = c.len-valve.ensures in
    let kept = c.join_members.ensures.kept in
    let valves_kept = kept.valves in
    let links_kept = kept.links in
    let pushed = ap length c.push.ensures.triggers ∙ length-append c.args.blueprint.now.triggers _ in
    let same_links = ap length c.push.ensures.links in
    let one = c.push.ensures.room in
    let same_room = c.push.ensures.links_room in
    let w = subst (Watches zones c.args.set) c.in-Some.is c.watch.ensures in
    let t = subst (Targets zones c.args.set) c.in-Some-target.is c.target.ensures in
    let same = one_named zones c.args.set w.0 t.0 c.well_formed-2.ensures w.1 t.1 in
    let on : evaluates t.0.body ≡ true =
    ap (λ (s : RecordSet). evaluates s.body) (sym same) ∙ sym (ap (λ x. x.evaluates) w.2) ∙ truth c.in-Some.watch.evaluates c.if-not-watch.false in
    let to = leads_to t.0 c.in-Some-target.target on t.2 in
    let led : IsLedTo zones c.args.set.zone c.in-Some-target.target.0 c.in-Some-target.target.1 =
    (record { slot = c.args.set.slot; set = t.0 }, (t.1, to)) in
    can_more zones c.well_formed-2.ensures c.slots_apart.ensures from base seats c.args.blueprint.now can c.len-valve.result c.args.set.zone
    c.in-Some-target.target.0 c.in-Some-target.target.1 members c.requires.below c.requires.within valve_is are first.p in_one within empty own few
    c.seat_members.new.seats.items c.seat_members.ensures.seated led
    c.join_members.new.blueprint triggers links (record { valves = omega arith; links = omega arith })

pub returns-clause-here : goal.returns-clause-here
returns-clause-here c named name names is =
    let zones = c.args.zones.now.zones in
    let first = member_at zones c.find_group-group.result 0 c.member-first.result (omega (arith, c.if-group-eq0.false)) c.member-first.ensures in
    let members = members_of zones c.find_group-group.result in
    let b = slot_below zones c.args.zones.now.slots c.member-first.result first.p.set c.slots_within.ensures.within first.names in
    let slots = c.requires.slots in
    let its_slot = first.slot in
    let seats = c.args.seats.now.items in
    let in_one = among_at members 0 first.p first.at in
    let within : first.p.slot < length seats = omega arith in
    let read = c.deref-2.ensures.value in
    let tested = sym (c.seat_at-seat.ensures.group ∙ ap (λ (l : List Seat). group_seat l c.member-first.result.slot) read) ∙ c.if-seat-ne0.false in
    let empty = ap (group_seat seats) first.slot ∙ tested in
    let are = members_are zones c.find_group-group.result c.args.set.zone c.in-Some-target.target.0 c.in-Some-target.target.1
    c.find_group-group.ensures.zone c.find_group-group.ensures.sets in
    let plains = c.count_plain-plains.ensures ∙ ap (λ (l : List Seat). plain_among l members) c.deref-3.ensures.value in
    let placed = members_few zones c.find_group-group.result c.args.zones.now.slots c.well_formed-2.ensures c.slots_within.ensures.within in
    let most = c.requires.room.1.1.few in
    let some = few_plain seats members in
    let few : plain_among seats members ≤ 2 ^ 31 = omega arith in
    let t = subst (Targets zones c.args.set) c.in-Some-target.is c.target.ensures in
    let same = one_named zones c.args.set t.0 named c.well_formed-2.ensures t.1 names in
    let target = told_target named name _ is (ap target_of (sym same) ∙ t.2) in
    rw (target.0, target.1) (record {
      members = members;
      are = are;
      slot = first.p.slot;
      first = (first.p, first.at, refl);
      valve = c.len-valve.result;
      seat = c.seat_members.ensures.seated.each first.p in_one ∙ add-one c.len-valve.result;
    })

pub returns-clause-goes_on : goal.returns-clause-goes_on
returns-clause-goes_on c slot valve is =
    let zones = c.args.zones.now.zones in
    let first = member_at zones c.find_group-group.result 0 c.member-first.result (omega (arith, c.if-group-eq0.false)) c.member-first.ensures in
    let members = members_of zones c.find_group-group.result in
    let b = slot_below zones c.args.zones.now.slots c.member-first.result first.p.set c.slots_within.ensures.within first.names in
    let slots = c.requires.slots in
    let its_slot = first.slot in
    let seats = c.args.seats.now.items in
    let in_one = among_at members 0 first.p first.at in
    let within : first.p.slot < length seats = omega arith in
    let read = c.deref-2.ensures.value in
    let tested = sym (c.seat_at-seat.ensures.group ∙ ap (λ (l : List Seat). group_seat l c.member-first.result.slot) read) ∙ c.if-seat-ne0.false in
    let empty = ap (group_seat seats) first.slot ∙ tested in
    let are = members_are zones c.find_group-group.result c.args.set.zone c.in-Some-target.target.0 c.in-Some-target.target.1
    c.find_group-group.ensures.zone c.find_group-group.ensures.sets in
    let plains = c.count_plain-plains.ensures ∙ ap (λ (l : List Seat). plain_among l members) c.deref-3.ensures.value in
    let placed = members_few zones c.find_group-group.result c.args.zones.now.slots c.well_formed-2.ensures c.slots_within.ensures.within in
    let most = c.requires.room.1.1.few in
    let some = few_plain seats members in
    let few : plain_among seats members ≤ 2 ^ 31 = omega arith in
    let own = members_own zones c.find_group-group.result c.well_formed-2.ensures in
    let valve_is = c.len-valve.ensures in
    stays seats c.args.blueprint.now.triggers c.args.blueprint.now.links c.len-valve.result members c.requires.below c.requires.within valve_is zones c.args.set.zone
    c.in-Some-target.target.0 c.in-Some-target.target.1 are
    (bare zones c.well_formed-2.ensures c.slots_apart.ensures c.requires.room.0 c.requires.room.1.0 seats c.args.blueprint.now c.requires.room.1.1
    c.len-valve.result c.args.set.zone c.in-Some-target.target.0 c.in-Some-target.target.1 members c.requires.below c.requires.within valve_is are
    first.p in_one within empty own few) first.p in_one few c.seat_members.new.seats.items c.seat_members.ensures.seated slot valve is

pub returns-clause-triggers : goal.returns-clause-triggers
returns-clause-triggers c n trigger at = rw (c.join_members.ensures.triggers, c.push.ensures.triggers) (still_at c.args.blueprint.now.triggers _ trigger n at)

pub returns-clause-feeders : goal.returns-clause-feeders
returns-clause-feeders c valve early =
    let zones = c.args.zones.now.zones in
    let first = member_at zones c.find_group-group.result 0 c.member-first.result (omega (arith, c.if-group-eq0.false)) c.member-first.ensures in
    let members = members_of zones c.find_group-group.result in
    let b = slot_below zones c.args.zones.now.slots c.member-first.result first.p.set c.slots_within.ensures.within first.names in
    let slots = c.requires.slots in
    let its_slot = first.slot in
    let seats = c.args.seats.now.items in
    let in_one = among_at members 0 first.p first.at in
    let within : first.p.slot < length seats = omega arith in
    let read = c.deref-2.ensures.value in
    let tested = sym (c.seat_at-seat.ensures.group ∙ ap (λ (l : List Seat). group_seat l c.member-first.result.slot) read) ∙ c.if-seat-ne0.false in
    let empty = ap (group_seat seats) first.slot ∙ tested in
    let are = members_are zones c.find_group-group.result c.args.set.zone c.in-Some-target.target.0 c.in-Some-target.target.1
    c.find_group-group.ensures.zone c.find_group-group.ensures.sets in
    let plains = c.count_plain-plains.ensures ∙ ap (λ (l : List Seat). plain_among l members) c.deref-3.ensures.value in
    let placed = members_few zones c.find_group-group.result c.args.zones.now.slots c.well_formed-2.ensures c.slots_within.ensures.within in
    let most = c.requires.room.1.1.few in
    let some = few_plain seats members in
    let few : plain_among seats members ≤ 2 ^ 31 = omega arith in
    let links = c.join_members.ensures.links ∙ ap (λ (l : List Feeding). l ++ links_to c.len-valve.result (valves_of c.deref-4.result.now members))
    c.push.ensures.links ∙ ap (λ (l : List Seat). c.args.blueprint.now.links ++ links_to c.len-valve.result (valves_of l members)) c.deref-4.ensures.value in
    let triggers = c.join_members.ensures.triggers ∙ c.push.ensures.triggers ∙ ap (λ n. c.args.blueprint.now.triggers ++ group_trigger n ∷ []) plains in
    let valve_is = c.len-valve.ensures in
    rw links (feeders_now seats c.args.blueprint.now.triggers c.args.blueprint.now.links c.len-valve.result members c.requires.below c.requires.within valve_is valve early)

pub returns-clause-within : goal.returns-clause-within
returns-clause-within c =
    let zones = c.args.zones.now.zones in
    let first = member_at zones c.find_group-group.result 0 c.member-first.result (omega (arith, c.if-group-eq0.false)) c.member-first.ensures in
    let members = members_of zones c.find_group-group.result in
    let b = slot_below zones c.args.zones.now.slots c.member-first.result first.p.set c.slots_within.ensures.within first.names in
    let slots = c.requires.slots in
    let its_slot = first.slot in
    let seats = c.args.seats.now.items in
    let in_one = among_at members 0 first.p first.at in
    let within : first.p.slot < length seats = omega arith in
    let read = c.deref-2.ensures.value in
    let tested = sym (c.seat_at-seat.ensures.group ∙ ap (λ (l : List Seat). group_seat l c.member-first.result.slot) read) ∙ c.if-seat-ne0.false in
    let empty = ap (group_seat seats) first.slot ∙ tested in
    let are = members_are zones c.find_group-group.result c.args.set.zone c.in-Some-target.target.0 c.in-Some-target.target.1
    c.find_group-group.ensures.zone c.find_group-group.ensures.sets in
    let plains = c.count_plain-plains.ensures ∙ ap (λ (l : List Seat). plain_among l members) c.deref-3.ensures.value in
    let placed = members_few zones c.find_group-group.result c.args.zones.now.slots c.well_formed-2.ensures c.slots_within.ensures.within in
    let most = c.requires.room.1.1.few in
    let some = few_plain seats members in
    let few : plain_among seats members ≤ 2 ^ 31 = omega arith in
    let links = c.join_members.ensures.links ∙ ap (λ (l : List Feeding). l ++ links_to c.len-valve.result (valves_of c.deref-4.result.now members))
    c.push.ensures.links ∙ ap (λ (l : List Seat). c.args.blueprint.now.links ++ links_to c.len-valve.result (valves_of l members)) c.deref-4.ensures.value in
    let triggers = c.join_members.ensures.triggers ∙ c.push.ensures.triggers ∙ ap (λ n. c.args.blueprint.now.triggers ++ group_trigger n ∷ []) plains in
    let valve_is = c.len-valve.ensures in
    rw (triggers, links) (within_now seats c.args.blueprint.now.triggers c.args.blueprint.now.links c.len-valve.result members c.requires.below c.requires.within valve_is)

pub overflow_cast-trigger : goal.overflow_cast-trigger
overflow_cast-trigger c =
    let zones = c.args.zones.now.zones in
    let first = member_at zones c.find_group-group.result 0 c.member-first.result (omega (arith, c.if-group-eq0.false)) c.member-first.ensures in
    let members = members_of zones c.find_group-group.result in
    let b = slot_below zones c.args.zones.now.slots c.member-first.result first.p.set c.slots_within.ensures.within first.names in
    let slots = c.requires.slots in
    let its_slot = first.slot in
    let seats = c.args.seats.now.items in
    let in_one = among_at members 0 first.p first.at in
    let within : first.p.slot < length seats = omega arith in
    let read = c.deref-2.ensures.value in
    let tested = sym (c.seat_at-seat.ensures.group ∙ ap (λ (l : List Seat). group_seat l c.member-first.result.slot) read) ∙ c.if-seat-ne0.false in
    let empty = ap (group_seat seats) first.slot ∙ tested in
    let are = members_are zones c.find_group-group.result c.args.set.zone c.in-Some-target.target.0 c.in-Some-target.target.1
    c.find_group-group.ensures.zone c.find_group-group.ensures.sets in
    let plains = c.count_plain-plains.ensures ∙ ap (λ (l : List Seat). plain_among l members) c.deref-3.ensures.value in
    let placed = members_few zones c.find_group-group.result c.args.zones.now.slots c.well_formed-2.ensures c.slots_within.ensures.within in
    let most = c.requires.room.1.1.few in
    let some = few_plain seats members in
    let few : plain_among seats members ≤ 2 ^ 31 = omega arith in
    omega arith

pub overflow_cast-valve : goal.overflow_cast-valve
overflow_cast-valve c =
    let zones = c.args.zones.now.zones in
    let first = member_at zones c.find_group-group.result 0 c.member-first.result (omega (arith, c.if-group-eq0.false)) c.member-first.ensures in
    let members = members_of zones c.find_group-group.result in
    let b = slot_below zones c.args.zones.now.slots c.member-first.result first.p.set c.slots_within.ensures.within first.names in
    let slots = c.requires.slots in
    let its_slot = first.slot in
    let seats = c.args.seats.now.items in
    let in_one = among_at members 0 first.p first.at in
    let within : first.p.slot < length seats = omega arith in
    let read = c.deref-2.ensures.value in
    let tested = sym (c.seat_at-seat.ensures.group ∙ ap (λ (l : List Seat). group_seat l c.member-first.result.slot) read) ∙ c.if-seat-ne0.false in
    let empty = ap (group_seat seats) first.slot ∙ tested in
    let are = members_are zones c.find_group-group.result c.args.set.zone c.in-Some-target.target.0 c.in-Some-target.target.1
    c.find_group-group.ensures.zone c.find_group-group.ensures.sets in
    let plains = c.count_plain-plains.ensures ∙ ap (λ (l : List Seat). plain_among l members) c.deref-3.ensures.value in
    let placed = members_few zones c.find_group-group.result c.args.zones.now.slots c.well_formed-2.ensures c.slots_within.ensures.within in
    let most = c.requires.room.1.1.few in
    let some = few_plain seats members in
    let few : plain_among seats members ≤ 2 ^ 31 = omega arith in
    let own = members_own zones c.find_group-group.result c.well_formed-2.ensures in
    let early = valve_early zones c.well_formed-2.ensures c.slots_apart.ensures c.requires.room.0 c.requires.room.1.0 seats c.args.blueprint.now
    c.requires.room.1.1 (length c.args.blueprint.now.triggers) c.args.set.zone c.in-Some-target.target.0 c.in-Some-target.target.1 members c.requires.below
    c.requires.within refl are first.p in_one within empty own few in
    let valve = c.len-valve.ensures in
    omega arith

pub push-requires : goal.push-requires
push-requires c =
    let zones = c.args.zones.now.zones in
    let first = member_at zones c.find_group-group.result 0 c.member-first.result (omega (arith, c.if-group-eq0.false)) c.member-first.ensures in
    let members = members_of zones c.find_group-group.result in
    let b = slot_below zones c.args.zones.now.slots c.member-first.result first.p.set c.slots_within.ensures.within first.names in
    let slots = c.requires.slots in
    let its_slot = first.slot in
    let seats = c.args.seats.now.items in
    let in_one = among_at members 0 first.p first.at in
    let within : first.p.slot < length seats = omega arith in
    let read = c.deref-2.ensures.value in
    let tested = sym (c.seat_at-seat.ensures.group ∙ ap (λ (l : List Seat). group_seat l c.member-first.result.slot) read) ∙ c.if-seat-ne0.false in
    let empty = ap (group_seat seats) first.slot ∙ tested in
    let are = members_are zones c.find_group-group.result c.args.set.zone c.in-Some-target.target.0 c.in-Some-target.target.1
    c.find_group-group.ensures.zone c.find_group-group.ensures.sets in
    let plains = c.count_plain-plains.ensures ∙ ap (λ (l : List Seat). plain_among l members) c.deref-3.ensures.value in
    let placed = members_few zones c.find_group-group.result c.args.zones.now.slots c.well_formed-2.ensures c.slots_within.ensures.within in
    let most = c.requires.room.1.1.few in
    let some = few_plain seats members in
    let few : plain_among seats members ≤ 2 ^ 31 = omega arith in
    let own = members_own zones c.find_group-group.result c.well_formed-2.ensures in
    let early = valve_early zones c.well_formed-2.ensures c.slots_apart.ensures c.requires.room.0 c.requires.room.1.0 seats c.args.blueprint.now
    c.requires.room.1.1 (length c.args.blueprint.now.triggers) c.args.set.zone c.in-Some-target.target.0 c.in-Some-target.target.1 members c.requires.below
    c.requires.within refl are first.p in_one within empty own few in
    let room = c.requires.room.1.1.valves_room in
    omega arith

pub join_members-requires-clause-room : goal.join_members-requires-clause-room
join_members-requires-clause-room c =
    let zones = c.args.zones.now.zones in
    let first = member_at zones c.find_group-group.result 0 c.member-first.result (omega (arith, c.if-group-eq0.false)) c.member-first.ensures in
    let members = members_of zones c.find_group-group.result in
    let b = slot_below zones c.args.zones.now.slots c.member-first.result first.p.set c.slots_within.ensures.within first.names in
    let slots = c.requires.slots in
    let its_slot = first.slot in
    let seats = c.args.seats.now.items in
    let in_one = among_at members 0 first.p first.at in
    let within : first.p.slot < length seats = omega arith in
    let read = c.deref-2.ensures.value in
    let tested = sym (c.seat_at-seat.ensures.group ∙ ap (λ (l : List Seat). group_seat l c.member-first.result.slot) read) ∙ c.if-seat-ne0.false in
    let empty = ap (group_seat seats) first.slot ∙ tested in
    let are = members_are zones c.find_group-group.result c.args.set.zone c.in-Some-target.target.0 c.in-Some-target.target.1
    c.find_group-group.ensures.zone c.find_group-group.ensures.sets in
    let plains = c.count_plain-plains.ensures ∙ ap (λ (l : List Seat). plain_among l members) c.deref-3.ensures.value in
    let placed = members_few zones c.find_group-group.result c.args.zones.now.slots c.well_formed-2.ensures c.slots_within.ensures.within in
    let most = c.requires.room.1.1.few in
    let some = few_plain seats members in
    let few : plain_among seats members ≤ 2 ^ 31 = omega arith in
    let own = members_own zones c.find_group-group.result c.well_formed-2.ensures in
    let fit = links_fit zones c.well_formed-2.ensures c.slots_apart.ensures c.requires.room.0 c.requires.room.1.0 seats c.args.blueprint.now
    c.requires.room.1.1 (length c.args.blueprint.now.triggers) c.args.set.zone c.in-Some-target.target.0 c.in-Some-target.target.1 members c.requires.below
    c.requires.within refl are first.p in_one within empty own few in
    let same = ap (λ (l : List Seat). length (valves_of l members)) c.deref-4.ensures.value in
    let room = c.push.ensures.links_room in
    omega arith

pub overflow_add-valve : goal.overflow_add-valve
overflow_add-valve c =
    let zones = c.args.zones.now.zones in
    let first = member_at zones c.find_group-group.result 0 c.member-first.result (omega (arith, c.if-group-eq0.false)) c.member-first.ensures in
    let members = members_of zones c.find_group-group.result in
    let b = slot_below zones c.args.zones.now.slots c.member-first.result first.p.set c.slots_within.ensures.within first.names in
    let slots = c.requires.slots in
    let its_slot = first.slot in
    let seats = c.args.seats.now.items in
    let in_one = among_at members 0 first.p first.at in
    let within : first.p.slot < length seats = omega arith in
    let read = c.deref-2.ensures.value in
    let tested = sym (c.seat_at-seat.ensures.group ∙ ap (λ (l : List Seat). group_seat l c.member-first.result.slot) read) ∙ c.if-seat-ne0.false in
    let empty = ap (group_seat seats) first.slot ∙ tested in
    let are = members_are zones c.find_group-group.result c.args.set.zone c.in-Some-target.target.0 c.in-Some-target.target.1
    c.find_group-group.ensures.zone c.find_group-group.ensures.sets in
    let plains = c.count_plain-plains.ensures ∙ ap (λ (l : List Seat). plain_among l members) c.deref-3.ensures.value in
    let placed = members_few zones c.find_group-group.result c.args.zones.now.slots c.well_formed-2.ensures c.slots_within.ensures.within in
    let most = c.requires.room.1.1.few in
    let some = few_plain seats members in
    let few : plain_among seats members ≤ 2 ^ 31 = omega arith in
    let own = members_own zones c.find_group-group.result c.well_formed-2.ensures in
    let early = valve_early zones c.well_formed-2.ensures c.slots_apart.ensures c.requires.room.0 c.requires.room.1.0 seats c.args.blueprint.now
    c.requires.room.1.1 (length c.args.blueprint.now.triggers) c.args.set.zone c.in-Some-target.target.0 c.in-Some-target.target.1 members c.requires.below
    c.requires.within refl are first.p in_one within empty own few in
    let valve = c.len-valve.ensures in
    omega arith
