use Rattle.std.proofs.Common.{rules}
use Rattle.field_text.specs.Written.{text_of_field}
use Rattle.rdata.proofs.Placing.{kept_on}
use Rattle.rdata.proofs.writing.write_next.Goals as goal

pub returns-clause-kept : goal.returns-clause-kept
returns-clause-kept c =
    let s = c.separate-start.ensures in
    let w = c.write_field.ensures in
    kept_on _ c.separate-start.new.into c.args.into.now (text_of_field c.args.kind c.args.piece.now)
    c.separate-start.result c.write_field.result
    w.written w.end (search rules) s.kept
