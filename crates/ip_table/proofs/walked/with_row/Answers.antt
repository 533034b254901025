use Rattle.ip_table.proofs.walked.with_row.Goals as goal

pub with_found-requires-clause-found : goal.with_found-requires-clause-found
with_found-requires-clause-found c = λ r e. (c.requires.sound.found r e).2
