use Rattle.std.proofs.Common.{◌≡◌, drop}
use Rattle.config_zones.specs.NewZones.{is_repeated}
use Rattle.zone_commands.proofs.opening.is_repeated.Given as goal

abbrev pub invariant-loop-i : goal.invariant-loop-i
invariant-loop-i l = is_repeated (drop l.i l.servers) ≡ is_repeated l.servers
