use Rattle.std.proofs.Common.{◌≡◌, drop}
use Rattle.reply_records.proofs.Joined.{least_of}
use Rattle.reply_records.specs.Chosen.{sets_of_places}
use Rattle.reply_records.proofs.joint.least_ttl.Given as goal

abbrev pub invariant-loop-place : goal.invariant-loop-place
invariant-loop-place l =
    least_of l.least (sets_of_places l.zones.zones l.group (drop l.place-index l.places))
    ≡ least_of l.initial.least (sets_of_places l.zones.zones l.group l.places)
