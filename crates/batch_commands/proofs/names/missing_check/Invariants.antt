use Rattle.config_zones.specs.Batches.{check_refusal}
use Rattle.batch_commands.proofs.Firsts.{IsAsInAll}
use Rattle.batch_commands.proofs.names.missing_check.Given as goal

abbrev pub invariant-loop-i : goal.invariant-loop-i
invariant-loop-i l = IsAsInAll (check_refusal l.checks.checks.list) l.sets l.i
