use Rattle.list_writing.proofs.Members.{set_is_whole}
use Rattle.list_writing.proofs.laws.sets_are_whole.Goals as goal

pub returns : goal.returns
returns c = λ later zone set of_type.
    set_is_whole later zone set.name set.rtype set.routing set.body set.check of_type
