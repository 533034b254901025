use Rattle.std.proofs.Common.{◌≡◌, ◌++◌, take}
use Rattle.std.specs.List.{flat_map}
use Rattle.block_octets.specs.Octets.{block_octets}
use Rattle.block_octets.proofs.writing.append_blocks.Given as goal

abbrev pub invariant-loop-block : goal.invariant-loop-block
invariant-loop-block l =
    l.into.items ≡ l.fn.into.items ++ flat_map block_octets (take l.block-index l.blocks)
