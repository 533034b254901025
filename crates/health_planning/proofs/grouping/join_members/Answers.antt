use Rattle.std.proofs.Common.{◌≡◌, ◌+◌, ◌++◌, [], List, length, length-append, arith, ap, sym, ◌∙◌, take, append_assoc}
use Rattle.health_valves.specs.declared.blueprint.Feeding.{Feeding}
use Rattle.policy_select.proofs.Noted.{few_members}
use Rattle.policy_select.specs.Groups.{members_of}
use Rattle.std.proofs.lemmas.List.{take_all}
use Rattle.zone_model.proofs.Lists.{take_more}
use Rattle.health_planning.specs.Building.{links_to}
use Rattle.health_planning.specs.Wired.{own_part, valves_of, seat_of, set_seat, with_valve}
use Rattle.health_planning.proofs.Few.{valves_some, links_long}
use Rattle.health_planning.proofs.Groups.{valves_more, links_more, member_at}
use Rattle.health_planning.proofs.ListedOnce.{slot_below}
use Rattle.health_planning.proofs.grouping.join_members.Goals as goal

pub seat_at-seat-requires : goal.seat_at-seat-requires
seat_at-seat-requires c =
    let m = member_at c.args.zones.now.zones c.args.group c.loop-i.i c.member.result c.loop-i-test.true c.member.ensures in
    let b = slot_below c.args.zones.now.zones c.args.zones.now.slots c.member.result m.p.set c.slots_within.ensures.within m.names in
    let slots = c.requires.slots in
    omega arith

pub loop-i-preserved : goal.loop-i-preserved
loop-i-preserved c =
    let i = c.loop-i.invariant in
    let o = c.join_seat.ensures in
    let seats = c.args.seats.now in
    let members = members_of c.args.zones.now.zones c.args.group in
    let m = member_at c.args.zones.now.zones c.args.group c.loop-i.i c.member.result c.loop-i-test.true c.member.ensures in
    let more = take_more members c.loop-i.i m.p m.at in
    let seat = c.own_valve.ensures ∙ ap own_part (c.seat_at-seat.ensures.set ∙ ap (set_seat seats) (sym m.slot)) in
    let valves = ap (valves_of seats) more ∙ valves_more seats (take c.loop-i.i members) m.p in
    let all = ap (links_to c.args.valve) valves ∙ links_more c.args.valve (valves_of seats (take c.loop-i.i members)) (with_valve (seat_of seats m.p.slot) []) in
    record {
      within = omega (arith, c.loop-i-test.true);
      triggers = o.triggers ∙ i.triggers;
      kept =
          let valves_kept = i.kept.valves in
          let more = o.kept.valves in
          let links_kept = i.kept.links in
          let more_links = o.kept.links in
          record { valves = omega arith; links = omega arith };
      links = o.links ∙ ap (λ (l : List Feeding). l ++ links_to c.args.valve (with_valve c.own_valve.result [])) i.links
          ∙ append_assoc c.args.blueprint.now.links (links_to c.args.valve (valves_of seats (take c.loop-i.i members)))
          (links_to c.args.valve (with_valve c.own_valve.result []))
          ∙ ap (λ n. c.args.blueprint.now.links ++ (links_to c.args.valve (valves_of seats (take c.loop-i.i members)) ++ links_to c.args.valve (with_valve n []))) seat
          ∙ ap (λ (l : List Feeding). c.args.blueprint.now.links ++ l) (sym all);
    }

pub returns-clause-links : goal.returns-clause-links
returns-clause-links c =
    let members = members_of c.args.zones.now.zones c.args.group in
    let long = few_members c.args.zones.now.zones c.args.group in
    let end = c.loop-i-test.false in
    let all : take c.loop-i.i members ≡ members = take_all c.loop-i.i members (omega arith) in
    c.loop-i.invariant.links ∙ ap (λ l. c.args.blueprint.now.links ++ links_to c.args.valve (valves_of c.args.seats.now l)) all

pub join_seat-requires : goal.join_seat-requires
join_seat-requires c =
    let i = c.loop-i.invariant in
    let seats = c.args.seats.now in
    let members = members_of c.args.zones.now.zones c.args.group in
    let m = member_at c.args.zones.now.zones c.args.group c.loop-i.i c.member.result c.loop-i-test.true c.member.ensures in
    let more = take_more members c.loop-i.i m.p m.at in
    let seat = c.own_valve.ensures ∙ ap own_part (c.seat_at-seat.ensures.set ∙ ap (set_seat seats) (sym m.slot)) in
    let its = ap (λ n. length (with_valve n [])) seat in
    let valves = ap (λ l. length (valves_of seats l)) more ∙ ap length (valves_more seats (take c.loop-i.i members) m.p)
    ∙ length-append (valves_of seats (take c.loop-i.i members)) (with_valve (seat_of seats m.p.slot) []) in
    let links = ap length i.links ∙ length-append c.args.blueprint.now.links (links_to c.args.valve (valves_of seats (take c.loop-i.i members))) in
    let long = links_long c.args.valve (valves_of seats (take c.loop-i.i members)) in
    let some = valves_some seats (c.loop-i.i + 1) members in
    let kept = i.kept.links in
    let room = c.requires.room in
    omega arith
