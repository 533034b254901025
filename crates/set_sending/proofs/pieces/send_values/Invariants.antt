use Rattle.std.proofs.Common.{◌≡◌, ◌≤◌, ℕ, List, ◌++◌, Some, drop}
use Rattle.std.specs.Prelude.{false, nat_lt, vec_capacity}
use Rattle.list_writing.specs.Pieces.{value_pieces}
use Rattle.record_set.specs.declared.sets.RecordSet.{RecordSet}
use Rattle.list_writing.specs.Bodies.{wires_of}
use Rattle.set_sending.specs.Passing.{IsPassed}
use Rattle.set_sending.proofs.pieces.send_values.Given as goal

abbrev pub invariant-loop-i : goal.invariant-loop-i
invariant-loop-i g l = record {
  capacity : vec_capacity l.fn.text ≤ vec_capacity l.text;
  counts : g.K.Sink.faults l.fn.out ≤ g.K.Sink.faults l.out;
  passes : (set : RecordSet) (held rest text : List ℕ) → l.fn.scratch ≡ Some set
      → IsPassed held (g.K.Sink.held l.fn.out) l.fn.text.items
      (value_pieces false set.rtype (wires_of set.body) ++ rest) text
      → IsPassed held (g.K.Sink.held l.out) l.text.items
      (value_pieces (nat_lt 0 l.i) set.rtype (drop l.i (wires_of set.body)) ++ rest) text;
}
