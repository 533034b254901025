use Rattle.config_zones.specs.Batches.{collection_refusal}
use Rattle.batch_commands.proofs.Firsts.{IsAsInAll}
use Rattle.batch_commands.proofs.names.missing_collection.Given as goal

abbrev pub invariant-loop-i : goal.invariant-loop-i
invariant-loop-i l = IsAsInAll (collection_refusal l.collections.list) l.sets l.i
