use Rattle.snapshot_octets.proofs.Short.{sound_are_short}
use Rattle.snapshot_octets.proofs.laws.sound_are_short.Goals as goal

pub returns : goal.returns
returns c = sound_are_short c.refusals_are_told.ensures
