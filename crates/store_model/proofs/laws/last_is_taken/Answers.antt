use Rattle.store_model.proofs.Taken as taken
use Rattle.store_model.proofs.laws.last_is_taken.Goals as goal

pub returns : goal.returns
returns c = λ base config after entries entry all one.
    taken.last_is_taken entries base config after entry all one
