use Rattle.std.proofs.Common.{◌-◌, ◌%◌, ◌∙◌, ap, take}
use Rattle.zone_table.proofs.Among.{among_at}
use Rattle.zone_table.specs.Spelling.{from_body}
use Rattle.policy_select.specs.Groups.{sets_in}
use Rattle.policy_select.proofs.Members.{named}
use Rattle.policy_select.proofs.Pieces.{from_place}
use Rattle.policy_select.proofs.Policies.{in_slots, member_of}
use Rattle.policy_select.proofs.group.policy_pieces.Goals as goal

pub member_at-requires : goal.member_at-requires
member_at-requires c =
    record {
      within =
          in_slots c.args.zones.now.zones c.args.group c.args.slots.now c.args.i c.requires.group
          c.requires.slots.are c.requires.within;
    }

pub pieces-requires : goal.pieces-requires
pieces-requires c =
    let zones = c.args.zones.now.zones in
    let ref = c.member_at.result in
    let m = named zones c.args.group c.args.i ref
    (member_of zones c.args.group c.args.slots.now c.requires.slots.are c.args.i ref
    c.requires.within c.member_at.ensures.zone c.member_at.ensures.slot) c.requires.within in
    (m.set, m.names)

pub returns : goal.returns
returns c =
    let zones = c.args.zones.now.zones in
    let ref = c.member_at.result in
    let m = named zones c.args.group c.args.i ref
    (member_of zones c.args.group c.args.slots.now c.requires.slots.are c.args.i ref
    c.requires.within c.member_at.ensures.zone c.member_at.ensures.slot) c.requires.within in
    let part = c.pieces.ensures m.set m.names in
    let placed = c.requires.slots.placed m.set (among_at (sets_in zones c.args.group) c.args.i m.set m.at) in (
      m.set,
      m.at,
      record {
        is = part.is.routing;
        rest = from_body m.set;
        size = _;
        same = part.same ∙ ap (take (64 - c.args.at % 32)) (from_place m.set c.args.at placed);
      },
    )
