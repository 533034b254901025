use Rattle.std.proofs.Common.{rules}
use Rattle.field_text.specs.Strings.{string_text}
use Rattle.rdata.proofs.Placing.{kept_on}
use Rattle.rdata.proofs.writing.write_next_string.Goals as goal

pub returns-clause-kept : goal.returns-clause-kept
returns-clause-kept c =
    let s = c.separate-start.ensures in
    let w = c.write_string.ensures in
    kept_on _ c.separate-start.new.into c.args.into.now (string_text c.args.string.now)
    c.separate-start.result c.write_string.result w.written w.end
    (search rules) s.kept
