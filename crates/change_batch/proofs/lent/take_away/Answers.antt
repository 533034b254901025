use Rattle.std.proofs.Common.{ap, ◌∙◌}
use Rattle.std.specs.Borrow.{Bor}
use Rattle.set_search.specs.RecordSetRecord.{RecordSet}
use Rattle.set_search.proofs.ListsOfZoneModel.{map_remove}
use Rattle.zone_rules.specs.Lent.{sets_lent}
use Rattle.change_batch.proofs.lent.take_away.Goals as goal

pub returns : goal.returns
returns c =
    ap sets_lent c.remove.ensures.items
    ∙ map_remove (λ (set : Bor RecordSet). set.now) c.args.sets.now.items c.args.place
