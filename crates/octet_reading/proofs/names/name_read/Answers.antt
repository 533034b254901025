use Rattle.std.proofs.Common.{arith, refl, sym, ◌∙◌}
use Rattle.octet_reading.specs.Names.{name_read}
use Rattle.octet_reading.proofs.Fronts.{good_step, bad_step}
use Rattle.octet_reading.proofs.names.name_read.Goals as goal

-- src/names.rt:54:13
pub returns-then-not-are_lower : goal.returns-then-not-are_lower
returns-then-not-are_lower c =
    bad_step c.loop-rest.room _ c.loop-rest.rest.now c.behind.result.now c.parts.result.0.now
    (name_read c.args.bytes.now)
    c.loop-rest-test.true refl (omega arith) (omega arith)
    (omega arith) c.behind.ensures c.parts.ensures.front (sym c.are_lower.ensures
    ∙ c.if-not-are_lower.true) c.loop-rest.invariant.1

-- src/names.rt:44:5
pub loop-rest-preserved : goal.loop-rest-preserved
loop-rest-preserved c =
    good_step c.loop-rest.room _ c.loop-rest.rest.now c.behind.result.now c.parts.result.0.now
    c.parts.result.1.now
    (name_read c.args.bytes.now) c.loop-rest-test.true refl (omega arith) (omega arith)
    (omega arith) c.behind.ensures c.parts.ensures.front c.parts.ensures.rest
    (sym c.are_lower.ensures
    ∙ c.if-not-are_lower.false) c.loop-rest.invariant.1
