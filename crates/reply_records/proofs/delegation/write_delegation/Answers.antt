use Rattle.std.proofs.Common.{◌∙◌, map}
use Rattle.std.specs.List.{flat_map}
use Rattle.policy_select.specs.Records.{data_of, glue_of}
use Rattle.dns_name.specs.Stored.{labels_of}
use Rattle.dns_wire.specs.declared.reply.Section.TheVariants.{Additional}
use Rattle.policy_select.specs.Groups.{sets_in_zone}
use Rattle.reply_records.proofs.Written.{behind_cut}
use Rattle.reply_records.proofs.delegation.write_delegation.Goals as goal

pub returns-then-write_held : goal.returns-then-write_held
returns-then-write_held c = λ set first.
    let sets = sets_in_zone c.args.zones.now.zones c.args.cut.zone in record {
      middle = c.write_held.new.reply;
      servers = c.write_held.ensures.written set (c.load_member.ensures.loaded ∙ first);
      glue = behind_cut Additional
          (flat_map (glue_of sets) (map labels_of (data_of set.body))) c.write_held.new.reply
          (c.write_held.ensures.truncated c.if-write_held.true);
    }
