use Rattle.std.proofs.Common.{◌++◌}
use Rattle.std.specs.Prelude.{false}
use Rattle.list_writing.specs.Pieces.{set_front, set_rest, value_pieces}
use Rattle.list_writing.specs.Bodies.{wires_of}
use Rattle.set_sending.proofs.Passed.{regroup}
use Rattle.set_sending.proofs.pieces.send_set.Goals as goal

pub returns-in-Failed-clause-passes : goal.returns-in-Failed-clause-passes
returns-in-Failed-clause-passes g c = λ set is held rest text passed.
    let values = value_pieces false set.rtype (wires_of set.body) in
    c.in-Failed.ensures.passes set is held ((values ++ set_rest set) ++ rest) text
    (regroup held _ _ (set_front c.args.later c.args.zone set) (values ++ set_rest set) rest text
    passed)

pub returns-in-Failed-send_values-clause-passes : goal.returns-in-Failed-send_values-clause-passes
returns-in-Failed-send_values-clause-passes g c = λ set is held rest text passed.
    let values = value_pieces false set.rtype (wires_of set.body) in
    c.in-Failed-send_values.ensures.passes set is held (set_rest set ++ rest) text
    (regroup held _ _ values (set_rest set) rest text
    (c.in-Whole.ensures.passes set is held ((values ++ set_rest set) ++ rest) text
    (regroup held _ _ (set_front c.args.later c.args.zone set) (values ++ set_rest set) rest text
    passed)))

pub returns-clause-passes : goal.returns-clause-passes
returns-clause-passes g c = λ set is held rest text passed.
    let values = value_pieces false set.rtype (wires_of set.body) in
    c.send_rest.ensures.passes set is held rest text
    (c.in-Whole-send_values.ensures.passes set is held (set_rest set ++ rest) text
    (regroup held _ _ values (set_rest set) rest text
    (c.in-Whole.ensures.passes set is held ((values ++ set_rest set) ++ rest) text
    (regroup held _ _ (set_front c.args.later c.args.zone set) (values ++ set_rest set) rest text
    passed))))
