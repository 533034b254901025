use Rattle.std.proofs.Common.{◌++◌}
use Rattle.std.specs.Prelude.{false}
use Rattle.set_sending.specs.PiecesOfListWriting.{set_line_front, set_line_rest, set_pieces}
use Rattle.set_sending.proofs.Passed.{regroup}
use Rattle.dump_sending.proofs.sets.send_held.Goals as goal

pub returns-in-Failed-clause-passes : goal.returns-in-Failed-clause-passes
returns-in-Failed-clause-passes g c = λ set is held rest text passed.
    let pieces = set_pieces false c.args.zone set in
    c.in-Failed.ensures.passes held ((pieces ++ set_line_rest) ++ rest) text
    (regroup held _ _ set_line_front (pieces ++ set_line_rest) rest text passed)

pub returns-in-Failed-send_set-clause-passes : goal.returns-in-Failed-send_set-clause-passes
returns-in-Failed-send_set-clause-passes g c = λ set is held rest text passed.
    let pieces = set_pieces false c.args.zone set in
    c.in-Failed-send_set.ensures.passes set is held (set_line_rest ++ rest) text
    (regroup held _ _ pieces set_line_rest rest text
    (c.in-Whole.ensures.passes held ((pieces ++ set_line_rest) ++ rest) text
    (regroup held _ _ set_line_front (pieces ++ set_line_rest) rest text passed)))

pub returns-in-Whole-send_set-clause-passes : goal.returns-in-Whole-send_set-clause-passes
returns-in-Whole-send_set-clause-passes g c = λ set is held rest text passed.
    let pieces = set_pieces false c.args.zone set in
    c.end_line.ensures.passes held rest text
    (c.in-Whole-send_set.ensures.passes set is held (set_line_rest ++ rest) text
    (regroup held _ _ pieces set_line_rest rest text
    (c.in-Whole.ensures.passes held ((pieces ++ set_line_rest) ++ rest) text
    (regroup held _ _ set_line_front (pieces ++ set_line_rest) rest text passed))))
