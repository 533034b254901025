use Rattle.std.proofs.Common.{List, subst, sym}
use Rattle.std.specs.List.{insert}
use Rattle.record_set.specs.declared.sets.RecordSet.{RecordSet}
use Rattle.std.specs.Result.{is_ok}
use Rattle.zone_model.specs.Zones.{IsRising}
use Rattle.zone_rows.proofs.Placed.{stays_rising, either_rising}
use Rattle.zone_rows.proofs.chains.put.Goals as goal

pub returns-in-Err : goal.returns-in-Err
returns-in-Err g c =
    let sets = c.args.sets.now.items in
    let more =
    stays_rising c.placed_rise.ensures sets c.args.set c.key.result c.in-Err.place
    c.requires c.key.ensures c.in-Err.ensures in
    subst (λ l. IsRising l) (sym {A = List RecordSet} c.insert.ensures.items)
    (either_rising (is_ok c.insert.result) (insert sets c.in-Err.place c.args.set) sets more c.requires)
