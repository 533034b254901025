use Rattle.std.proofs.Common.{◌∙◌, sym, subst}
use Rattle.dns_message.specs.Records.{record_of}
use Rattle.dns_message.specs.Walk.{HasFound}
use Rattle.dns_message.proofs.Walking.{first_opt, root_at}
use Rattle.dns_message.proofs.records.with_record.Goals as goal

pub returns : goal.returns
returns c = λ all opts inside is h.
    first_opt all opts (record_of c.args.octets.now c.args.place.owner_len) c.args.at
    (sym c.number_at.ensures ∙ c.if-number_at-ne-OPT.false)
    (subst (λ found. HasFound all opts found) c.in-Plain.is h)
    (root_at c.args.octets.now c.args.place c.requires all c.args.at inside is c.if-octets-ne0.false)
