use Rattle.std.proofs.Common.{◌≡◌, ◌≤◌, ◌<◌, ℕ, List, Some, length}
use Rattle.std.specs.Prelude.{slice_get}
use Rattle.check_model.specs.declared.checks.Check.{Check}
use Rattle.health_valves.specs.Blueprint.{KeepsRoom}
use Rattle.health_valves.specs.declared.blueprint.Trigger.{Trigger}
use Rattle.health_planning.specs.Building.{AreSeen, check_trigger}
use Rattle.health_planning.specs.Wired.{IsSpare}
use Rattle.health_model.specs.Statuses.{Report}
use Rattle.health_planning.proofs.building.put_checks.Given as goal

abbrev pub invariant-loop-place : goal.invariant-loop-place
invariant-loop-place l = record {
  within : l.place ≤ length l.list;
  size : length l.blueprint.triggers ≡ 200;
  checks : (reports : List Report) → AreSeen reports l.list l.seen
      → (place valve id : ℕ) (check : Check) → place < l.place
      → slice_get l.list place ≡ Some (id, check) → slice_get l.numbers place ≡ Some valve
      → slice_get l.blueprint.triggers valve ≡ Some (check_trigger reports id check);
  spares : (valve : ℕ) → IsSpare l.numbers valve
      → slice_get l.blueprint.triggers valve ≡ slice_get l.fn.blueprint.triggers valve;
  small : ((n : ℕ) (trigger : Trigger) → slice_get l.fn.blueprint.triggers n ≡ Some trigger
      → trigger.own ≤ 255)
      → (n : ℕ) (trigger : Trigger) → slice_get l.blueprint.triggers n ≡ Some trigger
      → trigger.own ≤ 255;
  links : l.blueprint.links ≡ l.fn.blueprint.links;
  kept : KeepsRoom l.fn.blueprint l.blueprint;
}
