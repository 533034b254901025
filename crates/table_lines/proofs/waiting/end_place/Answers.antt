use Rattle.std.proofs.Common.{Some, None}
use Rattle.line_splitting.proofs.Pieces.{first_is}
use Rattle.table_lines.proofs.waiting.end_place.Goals as goal

pub returns-in-Some-clause-place : goal.returns-in-Some-clause-place
returns-in-Some-clause-place c = first_is c.args.bytes.now (Some c.in-Some.place) c.in-Some.ensures

pub returns-in-None-clause-place : goal.returns-in-None-clause-place
returns-in-None-clause-place c = first_is c.args.bytes.now None c.in-None.ensures
