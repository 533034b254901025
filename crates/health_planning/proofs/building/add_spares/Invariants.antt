use Rattle.std.proofs.Common.{◌≡◌, ◌≤◌, ◌<◌, ℕ, Some, length}
use Rattle.std.specs.Prelude.{slice_get}
use Rattle.health_valves.specs.Blueprint.{KeepsRoom}
use Rattle.health_planning.specs.Building.{spare_trigger}
use Rattle.health_planning.proofs.building.add_spares.Given as goal

abbrev pub invariant-loop-place : goal.invariant-loop-place
invariant-loop-place l = record {
  few : l._place ≤ 200;
  size : length l.blueprint.triggers ≡ l._place;
  spares : (n : ℕ) → n < l._place → slice_get l.blueprint.triggers n ≡ Some spare_trigger;
  links : l.blueprint.links ≡ l.fn.blueprint.links;
  kept : KeepsRoom l.fn.blueprint l.blueprint;
}
