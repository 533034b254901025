use Rattle.snapshot_octets.proofs.Sound.{sound_have_snapshots}
use Rattle.snapshot_octets.proofs.laws.sound_have_snapshots.Goals as goal

pub returns : goal.returns
returns c = sound_have_snapshots
