use Rattle.std.proofs.Common.{◌≡◌, drop}
use Rattle.policy_select.specs.Records.{is_among}
use Rattle.reply_records.specs.Chosen.{all_data, sets_of_places}
use Rattle.reply_records.proofs.joint.is_in_sets.Given as goal

abbrev pub invariant-loop-place : goal.invariant-loop-place
invariant-loop-place l =
    is_among (all_data (sets_of_places l.zones.zones l.group (drop l.place-index l.places))) l.rdata
    ≡ is_among (all_data (sets_of_places l.zones.zones l.group l.places)) l.rdata
