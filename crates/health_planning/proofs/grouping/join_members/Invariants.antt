use Rattle.std.proofs.Common.{◌≡◌, ◌≤◌, ◌++◌}
use Rattle.std.specs.Prelude.{take}
use Rattle.health_valves.specs.Blueprint.{KeepsRoom}
use Rattle.health_planning.specs.Building.{links_to}
use Rattle.health_planning.specs.Wired.{valves_of}
use Rattle.policy_select.specs.Groups.{members_of}
use Rattle.health_planning.proofs.grouping.join_members.Given as goal

abbrev pub invariant-loop-i : goal.invariant-loop-i
invariant-loop-i l = record {
  within : l.i ≤ l.group.length;
  triggers : l.blueprint.triggers ≡ l.fn.blueprint.triggers;
  kept : KeepsRoom l.fn.blueprint l.blueprint;
  links : l.blueprint.links ≡ l.fn.blueprint.links
      ++ links_to l.valve (valves_of l.seats (take l.i (members_of l.zones.zones l.group)));
}
