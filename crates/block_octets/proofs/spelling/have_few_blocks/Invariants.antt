use Rattle.std.proofs.Common.{drop}
use Rattle.std.specs.Prelude.{◌↔◌}
use Rattle.std.specs.List.{AllByRecursion}
use Rattle.block_octets.specs.Octets.{HasFewBlocks}
use Rattle.block_octets.proofs.spelling.have_few_blocks.Given as goal

abbrev pub invariant-loop-change : goal.invariant-loop-change
invariant-loop-change l = AllByRecursion HasFewBlocks l.changes
    ↔ AllByRecursion HasFewBlocks (drop l.change-index l.changes)
