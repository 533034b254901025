use Rattle.std.proofs.Common.{◌≤◌, ◌<◌, ℕ, drop}
use Rattle.std.specs.List.{AllByRecursion}
use Rattle.std.specs.Prelude.{◌↔◌}
use Rattle.cidr_changes.specs.CollectionRecord.{Collection}
use Rattle.cidr_commands.proofs.soundness.have_ids.Given as goal

abbrev pub invariant-loop-held : goal.invariant-loop-held
invariant-loop-held l =
    AllByRecursion (λ (held : ℕ × Collection). (1 ≤ held.0) × (held.0 < l.next)) l.list
    ↔ AllByRecursion (λ (held : ℕ × Collection). (1 ≤ held.0) × (held.0 < l.next))
    (drop l.held-index l.list)
