use Rattle.std.proofs.Common.{◌-◌, ◌≤◌}
use Rattle.set_search.specs.Found.{IsBracket}
use Rattle.set_search.specs.Stops.{bound_of}
use Rattle.set_search.proofs.searching.look_up.Given as goal

abbrev pub invariant-loop-low : goal.invariant-loop-low
invariant-loop-low g l =
    record {
      from : l.start ≤ l.low;
      bracket : IsBracket (g.S.SetList.sets l.sets)
          (bound_of l.stop) l.low l.high;
    }

abbrev pub decreases-loop-low : goal.decreases-loop-low
decreases-loop-low g l = l.high - l.low
