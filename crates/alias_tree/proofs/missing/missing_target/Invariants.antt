use Rattle.set_search.specs.Walks.{HasNoTarget}
use Rattle.alias_tree.specs.Firsts.{NoneBefore}
use Rattle.alias_tree.proofs.missing.missing_target.Given as goal

abbrev pub invariant-loop-i : goal.invariant-loop-i
invariant-loop-i l = NoneBefore (HasNoTarget l.sets) l.sets l.i
