use Rattle.rdata_layout.proofs.Fronts.{field_step}
use Rattle.rdata_layout.proofs.layout.are_fields.Goals as goal

pub loop-field-preserved : goal.loop-field-preserved
loop-field-preserved c =
    let i = c.loop-field.invariant in
    let s = field_step c.args.fields.now c.args.tail c.args.octets.now _ c.loop-field.field-index
    c.loop-field.at c.in-Some.len _
    c.loop-field-test.true i.within c.behind.ensures c.in-Some.ensures.within c.in-Some.ensures.some
    c.in-Some.ensures.only i.same in
    record { within = s.0; same = s.1 }
