use Rattle.std.proofs.Common.{◌+◌, ◌++◌, drop, arith}
use Rattle.std.specs.Prelude.{nat_lt}
use Rattle.list_writing.specs.Pieces.{value_piece, value_pieces}
use Rattle.list_writing.specs.Bodies.{wires_of}
use Rattle.set_sending.proofs.Next.{next_value, value_at}
use Rattle.set_sending.proofs.Passed.{first_next}
use Rattle.set_sending.proofs.pieces.send_values.Goals as goal

pub returns-in-Failed-clause-passes : goal.returns-in-Failed-clause-passes
returns-in-Failed-clause-passes g c = λ set is held rest text passed.
    let i = c.loop-i.i in
    let wires = wires_of set.body in
    let x =
    value_at c.args.scratch.now set c.values-i-end.result i is c.values-i-end.ensures
    c.loop-i-test.true in
    c.in-Failed.ensures.passes set x.0 is x.1 held
    (value_pieces (nat_lt 0 (i + 1)) set.rtype (drop (i + 1) wires) ++ rest) text
    (first_next held _ _ _ (value_piece (nat_lt 0 i) set.rtype x.0)
    (value_pieces (nat_lt 0 (i + 1)) set.rtype (drop (i + 1) wires)) rest text
    (next_value set.rtype wires i x.0 x.1) (c.loop-i.invariant.passes set held rest text is passed))

pub loop-i-preserved : goal.loop-i-preserved
loop-i-preserved g c = record {
  capacity = omega (arith, c.in-Whole.ensures.capacity, c.loop-i.invariant.capacity);
  counts = omega (arith, c.in-Whole.ensures.counts, c.loop-i.invariant.counts);
  passes = λ set held rest text is passed.
      let i = c.loop-i.i in
      let wires = wires_of set.body in
      let x =
      value_at c.args.scratch.now set c.values-i-end.result i is c.values-i-end.ensures
      c.loop-i-test.true in
      c.in-Whole.ensures.passes set x.0 is x.1 held
      (value_pieces (nat_lt 0 (i + 1)) set.rtype (drop (i + 1) wires) ++ rest) text
      (first_next held _ _ _ (value_piece (nat_lt 0 i) set.rtype x.0)
      (value_pieces (nat_lt 0 (i + 1)) set.rtype (drop (i + 1) wires)) rest text
      (next_value set.rtype wires i x.0 x.1) (c.loop-i.invariant.passes set held rest text is passed));
}
