use Rattle.std.proofs.Common.{◌≡◌, drop}
use Rattle.cidr_changes.specs.Changed.{after_changes}
use Rattle.cidr_changes.proofs.changing.apply_all.Given as goal

abbrev pub invariant-loop-change : goal.invariant-loop-change
invariant-loop-change l =
    after_changes (drop l.change-index l.changes) l.rows.entries
    ≡ after_changes l.changes l.fn.rows.entries
