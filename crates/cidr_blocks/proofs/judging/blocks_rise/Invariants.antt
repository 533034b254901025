use Rattle.std.proofs.Common.{◌≡◌, ℕ, ◌+◌, ◌<◌, get_or}
use Rattle.std.specs.declared.cmp.Ordering.TheVariants.{Less}
use Rattle.ip_table.specs.Prefixes.{Prefix}
use Rattle.cidr_blocks.specs.Places.{block_cmp}
use Rattle.cidr_blocks.proofs.judging.blocks_rise.Given as goal

abbrev pub invariant-loop-i : goal.invariant-loop-i
invariant-loop-i l = (k : ℕ) (p : Prefix) → k + 1 < l.i
    → block_cmp (get_or l.blocks k p) (get_or l.blocks (k + 1) p) ≡ Less
