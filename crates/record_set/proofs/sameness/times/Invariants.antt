use Rattle.std.proofs.Common.{◌≡◌, ◌+◌, ◌≤◌, drop}
use Rattle.record_set.specs.Sameness.{times}
use Rattle.record_set.proofs.sameness.times.Given as goal

abbrev pub invariant-loop-other : goal.invariant-loop-other
invariant-loop-other l = record {
  few : l.count ≤ l.other-index;
  left : l.count + times l.value (drop l.other-index l.values) ≡ times l.value l.values;
}
