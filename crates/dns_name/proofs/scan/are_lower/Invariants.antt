use Rattle.std.proofs.Common.{◌≡◌, drop}
use Rattle.std.specs.Prelude.{◌↔◌}
use Rattle.std.specs.Char.{to_ascii_lowercase}
use Rattle.std.specs.List.{AllByRecursion}
use Rattle.dns_name.proofs.scan.are_lower.Given as goal

abbrev pub invariant-loop-b : goal.invariant-loop-b
invariant-loop-b l =
    AllByRecursion (λ b. to_ascii_lowercase b ≡ b) l.octets
    ↔ AllByRecursion (λ b. to_ascii_lowercase b ≡ b) (drop l.b-index l.octets)
