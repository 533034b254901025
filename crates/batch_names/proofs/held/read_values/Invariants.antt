use Rattle.std.proofs.Common.{◌≡◌, take}
use Rattle.std.specs.Prelude.{IfSome}
use Rattle.zone_table.specs.Bodies.{values_of}
use Rattle.batch_names.proofs.held.read_values.Given as goal

abbrev pub invariant-loop-i : goal.invariant-loop-i
invariant-loop-i l = IfSome l.scratch (λ set. l.values.items ≡ take l.i (values_of set.body))
