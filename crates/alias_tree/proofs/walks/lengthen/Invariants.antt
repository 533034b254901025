use Rattle.std.proofs.Common.{◌≡◌, ◌+◌, List, length}
use Rattle.set_search.specs.RecordSetRecord.{RecordSet}
use Rattle.alias_tree.specs.Starts.{AreStarts}
use Rattle.alias_tree.specs.Targets.{AreTargets}
use Rattle.alias_tree.proofs.walks.lengthen.Given as goal

abbrev pub invariant-loop-round : goal.invariant-loop-round
invariant-loop-round l = record {
  starts : length l.starts ≡ length l.targets;
  next : length l.next ≡ length l.targets;
  walks : (sets : List RecordSet) → AreTargets sets l.targets → AreStarts sets 1 l.fn.starts
      → AreStarts sets (l.round + 1) l.starts;
}
