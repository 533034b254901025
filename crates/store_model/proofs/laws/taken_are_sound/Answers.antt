use Rattle.store_model.proofs.Taken as taken
use Rattle.store_model.proofs.laws.taken_are_sound.Goals as goal

pub returns : goal.returns
returns c = λ base config entries sound all.
    taken.taken_are_sound c.spelled_are_bounded.ensures c.commands_keep_sound.ensures entries base
    config sound all
