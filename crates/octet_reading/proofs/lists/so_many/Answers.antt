use Rattle.std.proofs.lemmas.Result.{err_from_is_err_and}
use Rattle.octet_reading.specs.Readers.{so_many}
use Rattle.octet_reading.proofs.Loop.{goes_on, stops}
use Rattle.octet_reading.proofs.lists.so_many.Goals as goal

pub returns-in_err-value : goal.returns-in_err-value
returns-in_err-value g c =
    let read = g.F.Field.reading c.args.field.now in
    let p = err_from_is_err_and c.from_residual.result c.from_residual.ensures.1 in
    rw (p.1, p.2)
    (stops read c.loop.values.items c.args.count c.loop.counter c.loop.rest.now
    (so_many read c.args.count c.args.bytes.now)
    c.loop.invariant c.in_err-value.field-0.0 c.loop-test.true c.in_err-value.ensures)

pub loop-preserved : goal.loop-preserved
loop-preserved g c =
    let read = g.F.Field.reading c.args.field.now in
    rw c.in_ok-push.ensures.items
    (goes_on read c.loop.values.items c.args.count c.loop.counter c.loop.rest.now
    (so_many read c.args.count c.args.bytes.now)
    c.loop.invariant c.in_ok-value.value c.in_ok-value.after.now c.loop-test.true
    c.in_ok-value.ensures)
