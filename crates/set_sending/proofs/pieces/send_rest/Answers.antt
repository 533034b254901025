use Rattle.std.proofs.Common.{◌++◌}
use Rattle.list_writing.specs.Pieces.{set_rest}
use Rattle.set_sending.proofs.pieces.send_rest.Goals as goal

pub returns-in-Failed-clause-passes : goal.returns-in-Failed-clause-passes
returns-in-Failed-clause-passes g c = λ set is held rest text passed.
    c.in-Failed.ensures.passes held (set_rest set ++ rest) text passed
