use Rattle.std.proofs.Common.{drop, length}
use Rattle.zone_table.proofs.Among.{among_at}
use Rattle.zone_table.specs.Octets.{routing_octets}
use Rattle.zone_table.specs.Spelling.{from_body}
use Rattle.policy_select.specs.Groups.{sets_in}
use Rattle.policy_select.proofs.Members.{named}
use Rattle.policy_select.proofs.Policies.{in_room, in_slots, member_of, whole_front}
use Rattle.policy_select.proofs.group.policy_copied.Goals as goal

pub member_at-requires : goal.member_at-requires
member_at-requires c =
    record {
      within =
          in_slots c.args.zones.now.zones c.args.group c.args.slots.now c.args.i c.requires.group
          c.requires.slots.are c.requires.within;
    }

pub policy-requires : goal.policy-requires
policy-requires c =
    let zones = c.args.zones.now.zones in
    let ref = c.member_at.result in
    let m = named zones c.args.group c.args.i ref
    (member_of zones c.args.group c.args.slots.now c.requires.slots.are c.args.i ref
    c.requires.within c.member_at.ensures.zone c.member_at.ensures.slot) c.requires.within in
    (m.set, m.names)

pub returns : goal.returns
returns c =
    let zones = c.args.zones.now.zones in
    let ref = c.member_at.result in
    let m = named zones c.args.group c.args.i ref
    (member_of zones c.args.group c.args.slots.now c.requires.slots.are c.args.i ref
    c.requires.within c.member_at.ensures.zone c.member_at.ensures.slot) c.requires.within in
    let part = c.policy.ensures m.set m.names
    (c.requires.slots.placed m.set (among_at (sets_in zones c.args.group) c.args.i m.set m.at)) in
    let policy = routing_octets m.set.routing in (
      m.set,
      m.at,
      record {
        is = part.is.routing;
        rest = drop (length policy) c.policy.result.now;
        same =
            whole_front c.policy.result.now policy (from_body m.set) _ part.same
            (in_room c.policy.result.now m.set.routing (from_body m.set) _ part.is.routing part.same
            c.requires.room);
      },
    )
