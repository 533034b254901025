use Rattle.std.proofs.Common.{◌∙◌, ap, arith, sym}
use Rattle.policy_select.specs.Records.{data_of, glue_of}
use Rattle.dns_name.specs.Stored.{labels_of}
use Rattle.dns_wire.specs.declared.reply.Section.TheVariants.{Additional}
use Rattle.policy_select.specs.Groups.{sets_in_zone}
use Rattle.reply_records.specs.Delegating.{servers_glue}
use Rattle.reply_records.proofs.Joined.{flat_of_map}
use Rattle.reply_records.proofs.Written.{all_of, same}
use Rattle.reply_records.proofs.delegation.write_all_glue.Goals as goal

pub write_first_glue-requires-clause-servers : goal.write_first_glue-requires-clause-servers
write_first_glue-requires-clause-servers c = λ set held.
    c.requires.servers set (sym c.requires.held ∙ held)

pub returns : goal.returns
returns c = λ set first.
    let sets = sets_in_zone c.args.zones.now.zones c.args.cut.zone in
    let held = c.requires.held ∙ first in
    let counted = c.count_of-count.ensures.count set held in
    same Additional _ _ c.args.reply.now c.write_first_glue.new.reply
    (ap (servers_glue sets)
    (all_of (data_of set.body) c.count_of-count.result (omega (arith, counted)))
    ∙ flat_of_map (glue_of sets) labels_of (data_of set.body))
    (c.write_first_glue.ensures.written set held)
