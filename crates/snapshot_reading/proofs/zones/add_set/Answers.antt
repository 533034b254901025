use Rattle.std.proofs.Common.{ap}
use Rattle.snapshot_octets.specs.ReadingOfCommandCodec.{behind_set, set_at}
use Rattle.snapshot_reading.proofs.zones.add_set.Goals as goal

pub returns-in_ok-push-in-Ok : goal.returns-in_ok-push-in-Ok
unfolding set_at
returns-in_ok-push-in-Ok c = (
  c.in-Ok.ensures.inside,
  (c.in-Ok.read.0, ap (behind_set c.args.bytes.now) c.in-Ok.ensures.exact, c.in_ok-push-in-Ok.ensures.items),
)
