use Rattle.std.proofs.Common.{◌∙◌, ap, sym}
use Rattle.policy_select.specs.Records.{data_of, records}
use Rattle.dns_wire.specs.declared.reply.Section.TheVariants.{Answer}
use Rattle.policy_select.specs.Groups.{sets_in}
use Rattle.rdata_layout.specs.declared.types.RType.{RType}
use Rattle.reply_records.proofs.Joined.{new_of_none}
use Rattle.reply_records.proofs.Written.{same}
use Rattle.reply_records.proofs.joint.write_held.Goals as goal

pub returns-then-earlier-eq0-clause-written : goal.returns-then-earlier-eq0-clause-written
returns-then-earlier-eq0-clause-written c = λ set there.
    let all = sets_in c.args.zones.now.zones c.args.group in
    let owner = c.args.owner.now in
    let held = c.requires.held ∙ there in
    same Answer _ _ c.args.reply.now c.write_until_cut.new.reply
    (ap (λ (t : RType). records owner t c.args.ttl (data_of set.body)) (c.requires.rtype set held)
    ∙ ap (records owner c.args.rtype c.args.ttl)
    (sym (new_of_none all c.args.earlier.now (data_of set.body) c.if-earlier-eq0.true)))
    (c.write_until_cut.ensures.written set held)
