use Rattle.std.proofs.Common.{◌++◌}
use Rattle.std.specs.Prelude.{nat_lt}
use Rattle.list_writing.specs.Pieces.{value_piece}
use Rattle.set_sending.proofs.pieces.send_value.Goals as goal

pub returns-in-Failed-clause-passes : goal.returns-in-Failed-clause-passes
returns-in-Failed-clause-passes g c = λ set wire is at held rest text passed.
    c.in-Failed.ensures.passes held (value_piece (nat_lt 0 c.args.i) set.rtype wire ++ rest) text
    passed
