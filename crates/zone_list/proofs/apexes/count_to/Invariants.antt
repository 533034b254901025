use Rattle.std.proofs.Common.{◌-◌}
use Rattle.zone_list.specs.Apexes.{IsParted}
use Rattle.zone_list.proofs.apexes.count_to.Given as goal

abbrev pub invariant-loop-low : goal.invariant-loop-low
invariant-loop-low l = IsParted l.list l.name l.low l.high

abbrev pub decreases-loop-low : goal.decreases-loop-low
decreases-loop-low l = l.high - l.low
