use Rattle.std.proofs.Common.{◌≡◌, ℕ, ◌++◌, take, drop}
use Rattle.std.specs.List.{AllByRecursion, flat_map}
use Rattle.check_model.specs.Checks.{IsBounded}
use Rattle.check_model.specs.declared.checks.Check.{Check}
use Rattle.snapshot_octets.specs.Octets.{numbered_check_octets}
use Rattle.snapshot_writing.proofs.numbers.append_held_checks.Given as goal

abbrev pub invariant-loop-held : goal.invariant-loop-held
invariant-loop-held l =
    (l.into.items ≡ l.fn.into.items ++ flat_map (numbered_check_octets 2) (take l.held-index l.checks))
    × AllByRecursion (λ (held : ℕ × Check). IsBounded held.1) (drop l.held-index l.checks)
