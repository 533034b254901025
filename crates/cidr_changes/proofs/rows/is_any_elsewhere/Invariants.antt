use Rattle.std.proofs.Common.{◌≡◌, drop}
use Rattle.std.specs.List.{list_any}
use Rattle.cidr_changes.specs.Changes.{is_elsewhere}
use Rattle.cidr_changes.proofs.rows.is_any_elsewhere.Given as goal

abbrev pub invariant-loop-block : goal.invariant-loop-block
invariant-loop-block l =
    list_any (is_elsewhere l.name l.rows.entries) (drop l.block-index l.blocks)
    ≡ list_any (is_elsewhere l.name l.rows.entries) l.blocks
