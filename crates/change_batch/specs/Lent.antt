-- A batch's answer, with the sets in place of those that are lent.
use Rattle.std.specs.Prelude.{List, Result, Ok, Err, Vec}
use Rattle.std.specs.declared.alloc.Global.{Global}
use Rattle.std.specs.Borrow.{Bor}
use Rattle.set_search.specs.RecordSetRecord.{RecordSet}
use Rattle.batch_limits.specs.BatchRefusalRecord.{BatchRefusal}
use Rattle.zone_rules.specs.Lent.{sets_lent}

-- the sets in place of the vector of those that are lent
abbrev pub with_sets_lent : Result (Vec (Bor RecordSet) Global) BatchRefusal
    → Result (List RecordSet) BatchRefusal
with_sets_lent (Ok sets) = Ok (sets_lent sets.items)
with_sets_lent (Err why) = Err why
