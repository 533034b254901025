use Rattle.std.proofs.Common.{◌≡◌, drop}
use Rattle.cidr_changes.specs.Changes.{has_bad_length}
use Rattle.cidr_changes.proofs.rows.has_bad_length.Given as goal

abbrev pub invariant-loop-block : goal.invariant-loop-block
invariant-loop-block l =
    has_bad_length (drop l.block-index l.blocks) ≡ has_bad_length l.blocks
