use Rattle.std.proofs.Common.{◌∙◌, sym}
use Rattle.policy_select.proofs.Targets.{of_one_type}
use Rattle.policy_select.specs.Groups.{sets_in}
use Rattle.reply_records.proofs.Joined.{among_at}
use Rattle.reply_records.proofs.chosen.write_several.Goals as goal

pub write_joint-requires-clause-rtype : goal.write_joint-requires-clause-rtype
write_joint-requires-clause-rtype c = λ i set there.
    let zones = c.args.zones.now.zones in
    let all = sets_in zones c.args.group in
    let read = c.load_member.ensures in
    of_one_type c.types_have_their_own_number.ensures zones c.args.group c.requires.group set
    read.some.0 (among_at all i set there)
    (among_at all _ read.some.0 (sym read.loaded ∙ read.some.1))
    ∙ c.rtype_of-rtype.ensures read.some.0 read.some.1

pub write_many-requires-clause-rtype : goal.write_many-requires-clause-rtype
write_many-requires-clause-rtype c = λ i set there.
    let zones = c.args.zones.now.zones in
    let all = sets_in zones c.args.group in
    let read = c.load_member.ensures in
    of_one_type c.types_have_their_own_number.ensures zones c.args.group c.requires.group set
    read.some.0 (among_at all i set there)
    (among_at all _ read.some.0 (sym read.loaded ∙ read.some.1))
    ∙ c.rtype_of-rtype.ensures read.some.0 read.some.1
