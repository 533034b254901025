use Rattle.std.proofs.Common.{take}
use Rattle.std.specs.List.{AllByRecursion}
use Rattle.cidr_changes.specs.Prefixes.{IsPrefix, Prefix}
use Rattle.cidr_commands.proofs.command.are_prefixes.Given as goal

abbrev pub invariant-loop-block : goal.invariant-loop-block
invariant-loop-block l =
    AllByRecursion (λ (block : Prefix). IsPrefix block.address block.length) (take l.block-index l.blocks)
