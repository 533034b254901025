use Rattle.std.proofs.Common.{ap, ◌∙◌}
use Rattle.std.specs.Borrow.{Bor}
use Rattle.set_search.specs.RecordSetRecord.{RecordSet}
use Rattle.set_search.proofs.ListsOfZoneModel.{map_insert}
use Rattle.zone_rules.specs.Lent.{sets_lent}
use Rattle.change_batch.proofs.lent.insert_at.Goals as goal

pub returns : goal.returns
returns c =
    ap sets_lent c.in_ok-insert.ensures.items
    ∙ map_insert (λ (set : Bor RecordSet). set.now) c.args.sets.now.items c.args.place c.args.given
