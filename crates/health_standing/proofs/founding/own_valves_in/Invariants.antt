use Rattle.std.proofs.Common.{◌≡◌, ◌≤◌}
use Rattle.std.specs.Prelude.{length, take}
use Rattle.health_planning.specs.Groups.{members_of}
use Rattle.health_planning.specs.Wired.{valves_of}
use Rattle.health_standing.proofs.founding.own_valves_in.Given as goal

abbrev pub invariant-loop-i : goal.invariant-loop-i
invariant-loop-i l = record {
  within : l.i ≤ l.group.length;
  size : length l.into ≡ length l.fn.into;
  many : l.many ≤ length l.into;
  valves : take l.many l.into ≡ valves_of l.seats (take l.i (members_of l.zones.zones l.group));
}
