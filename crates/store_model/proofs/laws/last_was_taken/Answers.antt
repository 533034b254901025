use Rattle.store_model.proofs.Taken as taken
use Rattle.store_model.proofs.laws.last_was_taken.Goals as goal

pub returns : goal.returns
returns c = λ base after entries entry all.
    let last = taken.last_was_taken entries base after entry all in
    (last.config, last.others, last.last)
