use Rattle.std.proofs.Common.{◌≡◌, map, take}
use Rattle.config_model.specs.NewZones.{server_value}
use Rattle.config_edits.proofs.opening.server_values.Given as goal

abbrev pub invariant-loop-i : goal.invariant-loop-i
invariant-loop-i l = l.values.items ≡ map server_value (take l.i l.servers)
