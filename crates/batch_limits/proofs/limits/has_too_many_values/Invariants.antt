use Rattle.std.proofs.Common.{◌≡◌, ◌+◌, take}
use Rattle.std.specs.List.{sum_by}
use Rattle.batch_model.specs.Limits.{elements_of}
use Rattle.batch_limits.proofs.limits.has_too_many_values.Given as goal

abbrev pub invariant-loop-change : goal.invariant-loop-change
invariant-loop-change l = l.left + sum_by elements_of (take l.change-index l.changes) ≡ 1000
