use Rattle.std.proofs.Common.{ap, sym, ◌∙◌, Some}
use Rattle.policy_select.proofs.Members.{named, one_named, spelled}
use Rattle.policy_select.proofs.group.load_member.Goals as goal

pub unreachable-requires : goal.unreachable-requires
unreachable-requires c =
    let zones = c.args.zones.now.zones in
    let m = named zones c.args.group c.args.i c.member-set.result c.member-set.ensures
    c.requires.within in
    c.if-not-load.ensures.0 m.set m.names

pub returns-clause-loaded : goal.returns-clause-loaded
returns-clause-loaded c =
    let zones = c.args.zones.now.zones in
    let m = named zones c.args.group c.args.i c.member-set.result c.member-set.ensures
    c.requires.within in
    let found = c.if-not-load.ensures in
    found.2
    ∙ ap Some
    (one_named zones c.member-set.result found.0 m.set c.well_formed-2.ensures found.1 m.names)
    ∙ sym m.at

pub returns-clause-some : goal.returns-clause-some
returns-clause-some c =
    let found = c.if-not-load.ensures in (
      found.0,
      found.2,
      spelled c.args.zones.now.zones c.member-set.result found.0 c.well_formed-2.ensures found.1,
    )
