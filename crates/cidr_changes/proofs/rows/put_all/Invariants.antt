use Rattle.std.proofs.Common.{◌≡◌, drop}
use Rattle.cidr_changes.specs.Changes.{put_all}
use Rattle.cidr_changes.proofs.rows.put_all.Given as goal

abbrev pub invariant-loop-block : goal.invariant-loop-block
invariant-loop-block l = put_all l.name (drop l.block-index l.blocks) l.rows.entries
    ≡ put_all l.name l.blocks l.fn.rows.entries
