use Rattle.std.proofs.Common.{◌≡◌, ◌+◌, ◌++◌, map}
use Rattle.std.specs.Prelude.{take}
use Rattle.health_valves.specs.Blueprint.{KeepsRoom}
use Rattle.health_planning.specs.Building.{links_to}
use Rattle.health_planning.specs.Wired.{valve_with}
use Rattle.health_planning.proofs.building.join_children.Given as goal

abbrev pub invariant-loop-child : goal.invariant-loop-child
invariant-loop-child l = record {
  triggers : l.blueprint.triggers ≡ l.fn.blueprint.triggers;
  kept : KeepsRoom l.fn.blueprint l.blueprint;
  room : l.fn.blueprint.links_room ≡ l.blueprint.links_room + l.child-index;
  links : l.blueprint.links
      ≡ l.fn.blueprint.links ++ links_to l.valve (map (valve_with l.ids l.numbers) (take l.child-index l.children));
}
