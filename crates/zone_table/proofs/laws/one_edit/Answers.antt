use Rattle.zone_table.proofs.Once as once
use Rattle.zone_table.proofs.laws.one_edit.Goals as goal

pub returns : goal.returns
returns c = once.one_edit
