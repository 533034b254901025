use Rattle.std.proofs.Common.{◌≤◌, ◌-◌, ◌^◌, ℕ, List, ◌++◌}
use Rattle.std.specs.Prelude.{vec_capacity}
use Rattle.config_zones.specs.Edited.{hosted_in}
use Rattle.config_zones.specs.Walks.{above}
use Rattle.dump_sending.specs.Dumps.{zones_text}
use Rattle.set_sending.specs.Passing.{IsPassed}
use Rattle.dump_sending.proofs.zones.send_zones.Given as goal

abbrev pub invariant-loop-zone : goal.invariant-loop-zone
invariant-loop-zone g l = record {
  capacity : vec_capacity l.fn.text ≤ vec_capacity l.text;
  counts : g.K.Sink.faults l.fn.out ≤ g.K.Sink.faults l.out;
  passes : (held rest text : List ℕ)
      → IsPassed held (g.K.Sink.held l.fn.out) l.fn.text.items
      (zones_text (hosted_in l.fn.zones.zones) ++ rest) text
      → IsPassed held (g.K.Sink.held l.out) l.text.items
      (zones_text (hosted_in (above l.fn.zones.zones l.last)) ++ rest) text;
}

abbrev pub decreases-loop-zone : goal.decreases-loop-zone
decreases-loop-zone g l = 2 ^ 32 - l.last
