-- Sets that are lent.
use Rattle.std.specs.Prelude.{List, map}
use Rattle.std.specs.Borrow.{Bor}
use Rattle.batch_model.specs.RecordSetRecord.{RecordSet}

-- the sets that are lent, in their order
abbrev pub sets_lent : List (Bor RecordSet) → List RecordSet
sets_lent sets = map (λ set. set.now) sets
