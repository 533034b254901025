use Rattle.std.proofs.Common.{◌≡◌, ◌≤◌, ◌++◌}
use Rattle.std.specs.Prelude.{take, vec_capacity}
use Rattle.health_planning.specs.Groups.{members_of}
use Rattle.health_standing.specs.Founding.{refs_of}
use Rattle.health_standing.proofs.founding.note_those.Given as goal

abbrev pub invariant-loop-i : goal.invariant-loop-i
invariant-loop-i l = record {
  within : l.i ≤ l.group.length;
  noted : l.members.items ≡ l.fn.members.items ++ refs_of l.group.zone (take l.i (members_of l.zones.zones l.group));
  room : vec_capacity l.members ≡ vec_capacity l.fn.members;
}
