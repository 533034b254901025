use Rattle.std.proofs.Common.{◌≡◌, ◌≢◌, ℕ, ◌<◌, [], slice_get, Some}
use Rattle.record_set.specs.declared.sets.SetKey.{SetKey}
use Rattle.zone_table.specs.Sets.{group}
use Rattle.alias_links.specs.After.{changed_in}
use Rattle.alias_links.proofs.groups.empties_group.Given as goal

abbrev pub invariant-loop-i : goal.invariant-loop-i
invariant-loop-i l =
    (j : ℕ) (key : SetKey) → j < l.i → slice_get l.remove j ≡ Some key
    → group (changed_in l.zones.zones l.zone l.remove l.add) key.name key.rtype ≢ []
