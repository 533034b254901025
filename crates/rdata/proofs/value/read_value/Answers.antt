use Rattle.std.proofs.Common.{sym, Ok, Err, subst}
use Rattle.rdata.specs.Reading.{IsRead}
use Rattle.rdata.specs.Steps.{ReadsAll, ReadsTail}
use Rattle.rdata.proofs.Whole.{all_read, tail_read, fails, in_layout}
use Rattle.rdata.proofs.value.read_value.Goals as goal

pub returns-in-Err-clause-err : goal.returns-in-Err-clause-err
returns-in-Err-clause-err c =
    fails (ReadsAll c.args.text.now c.fields_of.result.now) (IsRead c.args.rtype c.args.text.now)
    (λ fault. all_read c.fields_go_on.ensures c.args.rtype c.args.text.now c.fields_of.result.now
    (Err fault) c.requires.short c.fields_of.ensures)
    c.in-Err.fault c.in-Err.ensures.err

pub returns-in-Ok-read_tail-clause-ok : goal.returns-in-Ok-read_tail-clause-ok
returns-in-Ok-read_tail-clause-ok c =
    let t = c.in-Ok-read_tail.ensures.ok in
    subst (λ octets. IsRead c.args.rtype c.args.text.now (Ok octets)) (sym t.appended)
    (tail_read c.fields_go_on.ensures c.args.rtype c.args.text.now c.fields_of.result.now
    c.tail_of.result c.in-Ok.at c.read_fields.new.into.items
    (Ok t.octets) c.requires.short c.fields_of.ensures c.tail_of.ensures c.in-Ok.ensures.ok t.reads)

pub returns-in-Ok-read_tail-clause-layout : goal.returns-in-Ok-read_tail-clause-layout
returns-in-Ok-read_tail-clause-layout c =
    in_layout c.spelled_is_field.ensures c.args.rtype c.args.text.now c.read_fields.new.into.items
    c.read_tail.new.into.items c.fields_of.result.now
    c.tail_of.result c.in-Ok.at c.fields_of.ensures c.tail_of.ensures c.requires.short
    c.in-Ok.ensures.size c.in-Ok-read_tail.ensures.ok
    (returns-in-Ok-read_tail-clause-ok c)

pub returns-in-Err-read_tail-clause-err : goal.returns-in-Err-read_tail-clause-err
returns-in-Err-read_tail-clause-err c =
    fails (ReadsTail c.args.text.now c.in-Ok.at c.tail_of.result)
    (IsRead c.args.rtype c.args.text.now)
    (λ fault. tail_read c.fields_go_on.ensures c.args.rtype c.args.text.now c.fields_of.result.now
    c.tail_of.result c.in-Ok.at
    c.read_fields.new.into.items (Err fault) c.requires.short c.fields_of.ensures c.tail_of.ensures
    c.in-Ok.ensures.ok)
    c.in-Err-read_tail.fault c.in-Err-read_tail.ensures.err
