use Rattle.std.proofs.Common.{◌<◌, ℕ, drop}
use Rattle.std.specs.List.{AllByRecursion}
use Rattle.std.specs.Prelude.{◌↔◌}
use Rattle.cidr_changes.specs.CollectionRecord.{Collection}
use Rattle.cidr_commands.proofs.soundness.are_above.Given as goal

abbrev pub invariant-loop-other : goal.invariant-loop-other
invariant-loop-other l =
    AllByRecursion (λ (other : ℕ × Collection). l.id < other.0) l.list
    ↔ AllByRecursion (λ (other : ℕ × Collection). l.id < other.0) (drop l.other-index l.list)
