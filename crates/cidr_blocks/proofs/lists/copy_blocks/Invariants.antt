use Rattle.std.proofs.Common.{◌≡◌, take}
use Rattle.cidr_blocks.proofs.lists.copy_blocks.Given as goal

abbrev pub invariant-loop-block : goal.invariant-loop-block
invariant-loop-block l = l.list.items ≡ take l.block-index l.blocks
