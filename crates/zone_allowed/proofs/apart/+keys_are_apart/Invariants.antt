use Rattle.std.proofs.Common.{length}
use Rattle.zone_allowed.proofs.apart.+keys_are_apart.Given as goal

abbrev pub decreases-keys_are_apart : goal.decreases-keys_are_apart
decreases-keys_are_apart l = length l.keys.now
