use Rattle.config_zones.specs.Batches.{location_refusal}
use Rattle.batch_commands.proofs.Firsts.{IsAsInAll}
use Rattle.batch_commands.proofs.names.missing_location.Given as goal

abbrev pub invariant-loop-i : goal.invariant-loop-i
invariant-loop-i l = IsAsInAll (location_refusal l.collections.list) l.sets l.i
