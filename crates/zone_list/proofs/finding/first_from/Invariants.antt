use Rattle.std.proofs.Common.{◌-◌}
use Rattle.zone_list.specs.Found.{IsSplit}
use Rattle.zone_list.specs.Kept.{named_of}
use Rattle.zone_list.proofs.finding.first_from.Given as goal

abbrev pub invariant-loop-low : goal.invariant-loop-low
invariant-loop-low l = IsSplit (named_of l.list) l.id l.low l.high

abbrev pub decreases-loop-low : goal.decreases-loop-low
decreases-loop-low l = l.high - l.low
