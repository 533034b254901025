use Rattle.std.proofs.Common.{◌≡◌, ◌++◌, take, drop}
use Rattle.std.specs.List.{AllByRecursion, flat_map}
use Rattle.block_octets.specs.Octets.{change_octets, HasFewBlocks}
use Rattle.block_octets.proofs.writing.append_changes.Given as goal

abbrev pub invariant-loop-change : goal.invariant-loop-change
invariant-loop-change l =
    (l.into.items ≡ l.fn.into.items ++ flat_map change_octets (take l.change-index l.changes))
    × AllByRecursion HasFewBlocks (drop l.change-index l.changes)
