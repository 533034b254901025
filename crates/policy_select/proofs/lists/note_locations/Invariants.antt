use Rattle.std.proofs.Common.{◌≡◌, take}
use Rattle.answer_model.specs.Choice.{each}
use Rattle.answer_model.specs.Policies.{location_of}
use Rattle.policy_select.specs.Groups.{sets_in}
use Rattle.policy_select.proofs.lists.note_locations.Given as goal

abbrev pub invariant-loop-i : goal.invariant-loop-i
invariant-loop-i l = take l.i l.locations
    ≡ take l.i (each location_of l.first (sets_in l.zones.zones l.group))
