use Rattle.std.proofs.Common.{◌≡◌, ◌≤◌, ◌++◌, drop}
use Rattle.health_valves.specs.Blueprint.{KeepsRoom}
use Rattle.health_planning.specs.Building.{check_links}
use Rattle.health_planning.specs.Rooms.{children_among}
use Rattle.health_planning.proofs.building.join_checks.Given as goal

abbrev pub invariant-loop-place : goal.invariant-loop-place
invariant-loop-place l = record {
  triggers : l.blueprint.triggers ≡ l.fn.blueprint.triggers;
  kept : KeepsRoom l.fn.blueprint l.blueprint;
  room : children_among (drop l.place l.list) ≤ l.blueprint.links_room;
  links : l.blueprint.links ++ check_links l.ids l.numbers l.place (drop l.place l.list)
      ≡ l.fn.blueprint.links ++ check_links l.ids l.numbers 0 l.list;
}
