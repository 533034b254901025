use Rattle.std.proofs.Common.{drop}
use Rattle.std.specs.List.{AllByRecursion}
use Rattle.std.specs.Prelude.{◌↔◌}
use Rattle.cidr_blocks.specs.Places.{IsBlock}
use Rattle.cidr_blocks.proofs.judging.are_blocks.Given as goal

abbrev pub invariant-loop-block : goal.invariant-loop-block
invariant-loop-block l = AllByRecursion IsBlock l.blocks
    ↔ AllByRecursion IsBlock (drop l.block-index l.blocks)
