use Rattle.std.proofs.Common.{◌≡◌}
use Rattle.alias_tree.specs.Firsts.{NoneBefore}
use Rattle.record_set.specs.Sets.{key_of}
use Rattle.record_set.specs.declared.sets.RecordSet.{RecordSet}
use Rattle.zone_soundness.proofs.placing.has_key.Given as goal

abbrev pub invariant-loop-i : goal.invariant-loop-i
invariant-loop-i l = NoneBefore (λ (set : RecordSet). key_of set ≡ l.key) l.sets l.i
