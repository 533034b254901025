use Rattle.std.proofs.Common.{◌≡◌, take}
use Rattle.batch_edits.proofs.sameness.are_equal.Given as goal

abbrev pub invariant-loop-i : goal.invariant-loop-i
invariant-loop-i l = take l.i l.values ≡ take l.i l.others
