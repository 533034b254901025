use Rattle.std.proofs.Common.{[], ◌++◌}
use Rattle.set_sending.specs.PiecesOfListWriting.{list_rest}
use Rattle.list_sending.proofs.pages.send_end.Goals as goal

pub returns-in-Failed-clause-writes : goal.returns-in-Failed-clause-writes
returns-in-Failed-clause-writes g c = λ held whole passed.
    c.in-Failed.ensures.passes held (list_rest ++ []) whole passed
