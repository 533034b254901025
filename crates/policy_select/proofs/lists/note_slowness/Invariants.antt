use Rattle.std.proofs.Common.{◌≡◌, take}
use Rattle.std.specs.Option.{option_copied}
use Rattle.policy_select.specs.Groups.{sets_in}
use Rattle.policy_select.specs.Soonest.{slow_each}
use Rattle.policy_select.proofs.lists.note_slowness.Given as goal

abbrev pub invariant-loop-i : goal.invariant-loop-i
invariant-loop-i l = take l.i l.slow
    ≡ take l.i (slow_each (option_copied l.client) l.first (sets_in l.zones.zones l.group))
