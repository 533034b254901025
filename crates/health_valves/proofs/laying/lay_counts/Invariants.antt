use Rattle.std.proofs.Common.{◌≡◌, map}
use Rattle.std.specs.Prelude.{take}
use Rattle.std.specs.Vec.{vec_capacity}
use Rattle.health_valves.specs.declared.blueprint.Trigger.{Trigger}
use Rattle.health_valves.proofs.laying.lay_counts.Given as goal

abbrev pub invariant-loop-trigger : goal.invariant-loop-trigger
invariant-loop-trigger l = record {
  items : l.counts.items ≡ map (λ (s : Trigger). s.own) (take l.trigger-index l.triggers);
  room : vec_capacity l.counts ≡ vec_capacity l.fn.counts;
}
