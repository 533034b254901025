use Rattle.std.proofs.Common.{◌≡◌, ℕ, ◌-◌, ◌≤◌, List, length, take}
use Rattle.std.specs.List.{flat_map, AllByRecursion}
use Rattle.dns_name.specs.Labels.{frame, IsRawLabel}
use Rattle.dns_name.proofs.scan.name_len.Given as goal

abbrev pub invariant-loop-at : goal.invariant-loop-at
invariant-loop-at l = (l.at ≤ length l.bytes) × (raw : List (List ℕ))
    × AllByRecursion IsRawLabel raw × (take l.at l.bytes ≡ flat_map frame raw)

abbrev pub decreases-loop-at : goal.decreases-loop-at
decreases-loop-at l = length l.bytes - l.at
