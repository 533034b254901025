use Rattle.std.proofs.Common.{◌≡◌, ◌≤◌}
use Rattle.std.specs.Prelude.{take}
use Rattle.health_planning.specs.Wired.{plain_among}
use Rattle.policy_select.specs.Groups.{members_of}
use Rattle.health_planning.proofs.grouping.count_plain.Given as goal

abbrev pub invariant-loop-i : goal.invariant-loop-i
invariant-loop-i l = record {
  few : l.plains ≤ l.i;
  within : l.i ≤ l.group.length;
  plains : l.plains ≡ plain_among l.seats (take l.i (members_of l.zones.zones l.group));
}
