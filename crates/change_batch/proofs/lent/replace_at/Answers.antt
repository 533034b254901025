use Rattle.std.specs.Borrow.{Bor}
use Rattle.std.proofs.lemmas.List.{map-set}
use Rattle.set_search.specs.RecordSetRecord.{RecordSet}
use Rattle.change_batch.proofs.lent.replace_at.Goals as goal

pub returns : goal.returns
returns c = map-set (λ (set : Bor RecordSet). set.now) c.args.sets.now.items c.args.place c.args.given
