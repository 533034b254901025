use Rattle.std.proofs.Common.{drop}
use Rattle.std.specs.List.{AllByRecursion}
use Rattle.std.specs.Prelude.{◌↔◌}
use Rattle.zone_soundness.specs.Parts.{IsSoundSet}
use Rattle.zone_soundness.proofs.setting.are_sound_sets.Given as goal

abbrev pub invariant-loop-set : goal.invariant-loop-set
invariant-loop-set l =
    AllByRecursion (IsSoundSet l.checks.checks.list l.collections.list l.apex)
    (drop l.set-index l.sets)
    ↔ AllByRecursion (IsSoundSet l.checks.checks.list l.collections.list l.apex) l.sets
