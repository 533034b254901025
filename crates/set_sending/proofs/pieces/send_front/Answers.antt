use Rattle.std.proofs.Common.{◌++◌}
use Rattle.list_writing.specs.Pieces.{set_front}
use Rattle.set_sending.proofs.pieces.send_front.Goals as goal

pub returns-in-Failed-clause-passes : goal.returns-in-Failed-clause-passes
returns-in-Failed-clause-passes g c = λ set is held rest text passed.
    c.in-Failed.ensures.passes held (set_front c.args.later c.args.zone set ++ rest) text passed
