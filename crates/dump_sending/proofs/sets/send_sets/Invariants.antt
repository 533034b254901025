use Rattle.std.proofs.Common.{◌≤◌, ℕ, List, ◌++◌, drop}
use Rattle.std.specs.Prelude.{vec_capacity}
use Rattle.dump_sending.specs.Dumps.{sets_text}
use Rattle.set_sending.specs.Passing.{IsPassed}
use Rattle.config_zones.specs.Zones.{placed_in}
use Rattle.zone_model.specs.Slotted.{sets_of}
use Rattle.dump_sending.proofs.sets.send_sets.Given as goal

abbrev pub invariant-loop-i : goal.invariant-loop-i
invariant-loop-i g l = record {
  capacity : vec_capacity l.fn.text ≤ vec_capacity l.text;
  counts : g.K.Sink.faults l.fn.out ≤ g.K.Sink.faults l.out;
  passes : (held rest text : List ℕ)
      → IsPassed held (g.K.Sink.held l.fn.out) l.fn.text.items
      (sets_text l.fn.zone (sets_of (placed_in l.fn.zones.zones l.fn.zone)) ++ rest) text
      → IsPassed held (g.K.Sink.held l.out) l.text.items
      (sets_text l.fn.zone (drop l.i (sets_of (placed_in l.fn.zones.zones l.fn.zone))) ++ rest) text;
}
