use Rattle.std.proofs.Common.{◌≡◌, take}
use Rattle.answer_model.specs.Choice.{each}
use Rattle.answer_model.specs.Policies.{weight_of}
use Rattle.policy_select.specs.Groups.{sets_in}
use Rattle.policy_select.proofs.lists.note_weights.Given as goal

abbrev pub invariant-loop-i : goal.invariant-loop-i
invariant-loop-i l = take l.i l.weights
    ≡ take l.i (each weight_of l.first (sets_in l.zones.zones l.group))
