use Rattle.std.proofs.Common.{◌-◌, length}
use Rattle.config_reading.specs.Reading.{IsReadSoundly}
use Rattle.config_zones.specs.Configured.{config_of}
use Rattle.config_reading.proofs.zones.read_zones.Given as goal

abbrev pub invariant-loop-alloc : goal.invariant-loop-alloc
invariant-loop-alloc l =
    IsReadSoundly l.octets (config_of l.zones l.checks.checks l.next_zone) l.count l.at

abbrev pub decreases-loop-alloc : goal.decreases-loop-alloc
decreases-loop-alloc l = l.count - length l.zones.zones
