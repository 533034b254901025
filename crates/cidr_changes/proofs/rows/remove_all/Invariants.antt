use Rattle.std.proofs.Common.{◌≡◌, drop}
use Rattle.cidr_changes.specs.Changes.{removed_all}
use Rattle.cidr_changes.proofs.rows.remove_all.Given as goal

abbrev pub invariant-loop-block : goal.invariant-loop-block
invariant-loop-block l = removed_all l.name (drop l.block-index l.blocks) l.rows.entries
    ≡ removed_all l.name l.blocks l.fn.rows.entries
