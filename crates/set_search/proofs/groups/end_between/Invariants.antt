use Rattle.std.proofs.Common.{◌-◌}
use Rattle.set_search.specs.Found.{EndsBetween}
use Rattle.set_search.proofs.groups.end_between.Given as goal

abbrev pub invariant-loop-last : goal.invariant-loop-last
invariant-loop-last g l = EndsBetween (g.S.SetList.sets l.sets) l.name l.rtype l.last l.high

abbrev pub decreases-loop-last : goal.decreases-loop-last
decreases-loop-last g l = l.high - l.last
