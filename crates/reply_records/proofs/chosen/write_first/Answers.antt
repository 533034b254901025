use Rattle.std.proofs.Common.{◌∙◌, ap, sym, ℕ}
use Rattle.policy_select.specs.Records.{data_of, records}
use Rattle.dns_wire.specs.declared.reply.Section.TheVariants.{Answer}
use Rattle.reply_records.proofs.Joined.{one_answers}
use Rattle.reply_records.proofs.Written.{same}
use Rattle.reply_records.proofs.chosen.write_first.Goals as goal

pub returns : goal.returns
returns c = λ set held.
    let owner = c.args.owner.now in
    same Answer _ _ c.args.reply.now c.write_values.new.reply
    (ap (λ (n : ℕ). records owner set.rtype n (data_of set.body)) (c.ttl_of.ensures set held)
    ∙ sym (one_answers owner set))
    (c.write_values.ensures set held)
