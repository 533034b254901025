use Rattle.list_writing.proofs.Whole.{list_is_whole}
use Rattle.list_writing.proofs.laws.lists_are_whole.Goals as goal

pub returns : goal.returns
returns c = list_is_whole
