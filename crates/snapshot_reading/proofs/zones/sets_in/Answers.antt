use Rattle.std.proofs.Common.{drop}
use Rattle.octet_reading.specs.Readers.{so_many}
use Rattle.octet_reading.proofs.Loop.{goes_on, stops}
use Rattle.snapshot_octets.specs.ReadingOfCommandCodec.{set_at}
use Rattle.snapshot_reading.proofs.zones.sets_in.Goals as goal

pub returns-in-Err : goal.returns-in-Err
returns-in-Err c =
    stops set_at c.loop.sets.items c.args.count c.loop.counter c.loop.rest.now
    (so_many set_at c.args.count c.args.bytes.now)
    c.loop.invariant c.in-Err.stop c.loop-test.true c.in-Err.ensures

pub loop-preserved : goal.loop-preserved
loop-preserved c =
    let added = c.in-Ok-add_set.ensures.1 in
    rw (added.2, c.behind-rest.ensures)
    (goes_on set_at c.loop.sets.items c.args.count c.loop.counter c.loop.rest.now
    (so_many set_at c.args.count c.args.bytes.now)
    c.loop.invariant added.0 (drop c.in-Ok-add_set.len c.loop.rest.now) c.loop-test.true added.1)
