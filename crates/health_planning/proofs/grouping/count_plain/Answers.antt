use Rattle.std.proofs.Common.{◌≡◌, ℕ, arith, ap, sym, ◌∙◌, take}
use Rattle.policy_select.proofs.Noted.{few_members}
use Rattle.policy_select.specs.Groups.{members_of}
use Rattle.std.proofs.lemmas.List.{take_all}
use Rattle.zone_model.proofs.Lists.{take_more}
use Rattle.health_planning.specs.Wired.{own_part, plain, plain_among, set_seat}
use Rattle.health_planning.proofs.Groups.{member_at, plain_few, plain_more}
use Rattle.health_planning.proofs.ListedOnce.{slot_below}
use Rattle.health_planning.proofs.grouping.count_plain.Goals as goal

pub seat_at-seat-requires : goal.seat_at-seat-requires
seat_at-seat-requires c =
    let m = member_at c.args.zones.now.zones c.args.group c.loop-i.i c.member.result c.loop-i-test.true c.member.ensures in
    let b = slot_below c.args.zones.now.zones c.args.zones.now.slots c.member.result m.p.set c.slots_within.ensures.within m.names in
    let slots = c.requires.slots in
    omega arith

pub loop-i-preserved : goal.loop-i-preserved
loop-i-preserved c =
    let i = c.loop-i.invariant in
    let m = member_at c.args.zones.now.zones c.args.group c.loop-i.i c.member.result c.loop-i-test.true c.member.ensures in
    let more = take_more (members_of c.args.zones.now.zones c.args.group) c.loop-i.i m.p m.at in
    let few = i.few in
    let seat = c.seat_at-seat.ensures.set in
    let one = c.plain_at-plains.ensures in
    let most = plain_few (own_part c.seat_at-seat.result.set) in
    let was = i.plains in
    let now = ap (plain_among c.args.seats.now) more ∙ plain_more c.args.seats.now (take c.loop-i.i (members_of c.args.zones.now.zones c.args.group)) m.p in
    let its = ap (λ (n : ℕ). plain (own_part n)) (seat ∙ ap (set_seat c.args.seats.now) (sym m.slot)) in
    record {
      few = omega arith;
      within = omega (arith, c.loop-i-test.true);
      plains = omega arith;
    }

pub returns : goal.returns
returns c =
    let members = members_of c.args.zones.now.zones c.args.group in
    let long = few_members c.args.zones.now.zones c.args.group in
    let end = c.loop-i-test.false in
    let all : take c.loop-i.i members ≡ members = take_all c.loop-i.i members (omega arith) in
    c.loop-i.invariant.plains ∙ ap (plain_among c.args.seats.now) all
