use Rattle.reply_records.proofs.delegation.+write_first_glue.Given as goal

abbrev pub decreases-write_first_glue : goal.decreases-write_first_glue
decreases-write_first_glue l = l.count
