use Rattle.std.proofs.Common.{◌≡◌, [], drop}
use Rattle.policy_select.specs.Records.{joint_data}
use Rattle.reply_records.specs.Chosen.{sets_of_places}
use Rattle.reply_records.proofs.chosen.hold_valued.Given as goal

abbrev pub invariant-loop-place : goal.invariant-loop-place
invariant-loop-place l =
    joint_data [] (sets_of_places l.zones.zones l.group (drop l.place-index l.places))
    ≡ joint_data [] (sets_of_places l.zones.zones l.group l.places)
