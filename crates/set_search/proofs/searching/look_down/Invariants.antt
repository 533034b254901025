use Rattle.std.proofs.Common.{◌-◌, ◌≤◌}
use Rattle.set_search.specs.Found.{IsBracket}
use Rattle.set_search.specs.Stops.{bound_of}
use Rattle.set_search.proofs.searching.look_down.Given as goal

abbrev pub invariant-loop-high : goal.invariant-loop-high
invariant-loop-high g l =
    record {
      from : l.high ≤ l.start;
      bracket : IsBracket (g.S.SetList.sets l.sets)
          (bound_of l.stop) l.low l.high;
    }

abbrev pub decreases-loop-high : goal.decreases-loop-high
decreases-loop-high g l = l.high - l.low
