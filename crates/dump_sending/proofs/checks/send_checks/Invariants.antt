use Rattle.std.proofs.Common.{◌≤◌, ℕ, List, ◌++◌, drop}
use Rattle.std.specs.Prelude.{vec_capacity}
use Rattle.dump_sending.specs.Dumps.{checks_text}
use Rattle.set_sending.specs.Passing.{IsPassed}
use Rattle.dump_sending.proofs.checks.send_checks.Given as goal

abbrev pub invariant-loop-held : goal.invariant-loop-held
invariant-loop-held g l = record {
  capacity : vec_capacity l.fn.text ≤ vec_capacity l.text;
  counts : g.K.Sink.faults l.fn.out ≤ g.K.Sink.faults l.out;
  passes : (held rest text : List ℕ)
      → IsPassed held (g.K.Sink.held l.fn.out) l.fn.text.items (checks_text l.checks ++ rest) text
      → IsPassed held (g.K.Sink.held l.out) l.text.items
      (checks_text (drop l.held-index l.checks) ++ rest) text;
}
