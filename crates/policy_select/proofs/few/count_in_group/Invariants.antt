use Rattle.std.proofs.Common.{◌≡◌, ◌≤◌, length, take}
use Rattle.zone_table.specs.Sets.{group}
use Rattle.policy_select.proofs.few.count_in_group.Given as goal

abbrev pub invariant-loop-set : goal.invariant-loop-set
invariant-loop-set l = record {
  so_far : l.count ≡ length (group (take l.set-index l.sets) l.name l.rtype);
  within : l.count ≤ l.set-index;
}
