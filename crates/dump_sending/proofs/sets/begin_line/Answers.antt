use Rattle.std.proofs.Common.{◌++◌}
use Rattle.set_sending.specs.PiecesOfListWriting.{set_line_front}
use Rattle.dump_sending.proofs.sets.begin_line.Goals as goal

pub returns-in-Failed-clause-passes : goal.returns-in-Failed-clause-passes
returns-in-Failed-clause-passes g c = λ held rest text passed.
    c.in-Failed.ensures.passes held (set_line_front ++ rest) text passed
