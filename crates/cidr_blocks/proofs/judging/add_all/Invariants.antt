use Rattle.std.proofs.Common.{◌≡◌, ◌++◌, drop}
use Rattle.cidr_blocks.specs.Places.{StandOnce, rows_at}
use Rattle.cidr_blocks.proofs.judging.add_all.Given as goal

abbrev pub invariant-loop-block : goal.invariant-loop-block
invariant-loop-block l = record {
  once : StandOnce l.table;
  rows : l.table ++ rows_at l.fn.location.name (drop l.block-index l.fn.location.blocks)
      ≡ l.fn.table ++ rows_at l.fn.location.name l.fn.location.blocks;
}
