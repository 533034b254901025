use Rattle.std.proofs.Common.{◌∙◌, ap, sym, take}
use Rattle.dns_wire.proofs.Fields.{field_written}
use Rattle.dns_wire.proofs.data.add_fields.Goals as goal

pub loop-field-preserved : goal.loop-field-preserved
loop-field-preserved c =
    field_written _ c.args.fields.now c.args.octets.now _ c.args.at c.loop-field.from
    c.loop-field.to c.loop-field.field-index c.loop-field.buffer _ c.behind.result.now
    c.piece_at.result.now c.size_of-len.result c.add_field-to.result c.add_field-to.new.buffer
    c.loop-field-test.true c.behind.ensures c.size_of-len.ensures.within
    c.size_of-len.ensures.size (c.piece_at.ensures
    ∙ ap (take c.size_of-len.result) (sym c.behind.ensures)) c.add_field-to.ensures.end
    c.add_field-to.ensures.shorter c.add_field-to.ensures.written c.loop-field.invariant
