use Rattle.std.proofs.Common.{arith, ap, sym, ◌∙◌}
use mathlib.Core.Path.{subst}
use Rattle.policy_select.proofs.Members.{one_named}
use Rattle.policy_select.specs.Groups.{members_of}
use Rattle.record_set.specs.declared.sets.RecordSet.{RecordSet}
use Rattle.policy_select.specs.Telling.{evaluates, target_of}
use Rattle.policy_select.specs.Looking.{Targets, Watches}
use Rattle.health_planning.proofs.Groups.{member_at, members_are}
use Rattle.health_planning.proofs.Joined.{not_on, no_target, that_target}
use Rattle.health_planning.proofs.ListedOnce.{slot_below}
use Rattle.health_planning.proofs.joining.target_seat.Goals as goal

pub returns-then-not-watch : goal.returns-then-not-watch
returns-then-not-watch c named names =
    let zones = c.args.zones.now.zones in
    let w = subst (Watches zones c.args.set) c.in-Some.is c.watch.ensures in
    let same = one_named zones c.args.set w.0 named c.well_formed-2.ensures w.1 names in
    let off = not_on _ c.if-not-watch.true in
    no_target zones c.args.seats.now c.args.set.zone named.rtype named.body
    (sym (ap (λ x. x.evaluates) w.2 ∙ ap (λ (s : RecordSet). evaluates s.body) same) ∙ off)

pub seat_at-requires : goal.seat_at-requires
seat_at-requires c =
    let zones = c.args.zones.now.zones in
    let first = member_at zones c.find_group-group.result 0 c.member.result (omega (arith, c.if-group-eq0.false)) c.member.ensures in
    let b = slot_below zones c.args.zones.now.slots c.member.result first.p.set c.slots_within.ensures.within first.names in
    let slots = c.requires.slots in
    omega arith

pub returns : goal.returns
returns c named names =
    let zones = c.args.zones.now.zones in
    let first = member_at zones c.find_group-group.result 0 c.member.result (omega (arith, c.if-group-eq0.false)) c.member.ensures in
    let w = subst (Watches zones c.args.set) c.in-Some.is c.watch.ensures in
    let same_watch = one_named zones c.args.set w.0 named c.well_formed-2.ensures w.1 names in
    let on = sym (ap (λ x. x.evaluates) w.2 ∙ ap (λ (s : RecordSet). evaluates s.body) same_watch) ∙ not_on _ c.if-not-watch.false in
    let t = subst (Targets zones c.args.set) c.in-Some-target.is c.target.ensures in
    let same = one_named zones c.args.set t.0 named c.well_formed-2.ensures t.1 names in
    let are = members_are zones c.find_group-group.result c.args.set.zone c.in-Some-target.target.0 c.in-Some-target.target.1
    c.find_group-group.ensures.zone c.find_group-group.ensures.sets in
    rw c.seat_at.ensures.group
    (that_target zones c.args.seats.now c.args.set.zone named.rtype named.body c.in-Some-target.target.0 c.in-Some-target.target.1
    (members_of zones c.find_group-group.result) c.member.result.slot on (sym (ap target_of same) ∙ t.2) are (first.p, first.at, first.slot))
