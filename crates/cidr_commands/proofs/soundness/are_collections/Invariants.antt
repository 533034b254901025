use Rattle.std.proofs.Common.{ℕ, drop}
use Rattle.std.specs.List.{AllByRecursion}
use Rattle.std.specs.Prelude.{◌↔◌}
use Rattle.cidr_changes.specs.CollectionRecord.{Collection}
use Rattle.cidr_changes.specs.Places.{IsCollection}
use Rattle.cidr_commands.proofs.soundness.are_collections.Given as goal

abbrev pub invariant-loop-held : goal.invariant-loop-held
invariant-loop-held l =
    AllByRecursion (λ (held : ℕ × Collection). IsCollection held.1) l.list
    ↔ AllByRecursion (λ (held : ℕ × Collection). IsCollection held.1) (drop l.held-index l.list)
