use Rattle.geo_latency.proofs.Prefixes.{free, taken}
use Rattle.geo_latency.proofs.tables.add_row.Goals as goal

pub returns-in-Ok : goal.returns-in-Ok
returns-in-Ok g c = let e = c.in-Ok.ensures in (free _ _ e.0 e.1, e.2)

pub returns-in-Err-Duplicate : goal.returns-in-Err-Duplicate
returns-in-Err-Duplicate g c =
    let e = rw c.in-Err-Duplicate.field-0-is at c.in-Err-Duplicate.ensures in
    (taken _ _ e.0, e.2)

pub returns : goal.returns
returns g c =
    let e = rw c.in-Err-OutOfMemory.field-0-is at c.in-Err-OutOfMemory.ensures in
    (free _ _ e.0 e.1, e.3)
