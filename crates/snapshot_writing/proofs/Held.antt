-- Checks have the same octets in all versions but the first.
use Rattle.std.proofs.Common.{◌≡◌, ℕ, List, [], ◌∷◌, ◌++◌, ap, ◌∙◌, refl}
use Rattle.std.specs.List.{flat_map}
use Rattle.octets.specs.Numbers.{four_octets}
use Rattle.check_model.specs.declared.checks.Check.{Check}
use Rattle.check_model.specs.declared.checks.Check.TheVariants.{Calculated, Endpoint}
use Rattle.check_octets.specs.Octets.{check_octets}
use Rattle.snapshot_octets.specs.Octets.{numbered_check_octets}

same_check : (check : Check) → check_octets 2 check ≡ check_octets 3 check
same_check (Endpoint threshold inverted disabled) = refl
same_check (Calculated threshold inverted disabled children) = refl

pub same_checks : (list : List (ℕ × Check))
    → flat_map (numbered_check_octets 2) list ≡ flat_map (numbered_check_octets 3) list
same_checks [] = refl
same_checks (held ∷ list) =
    ap (λ (t : List ℕ). numbered_check_octets 2 held ++ t) (same_checks list)
    ∙ ap (λ (t : List ℕ). (four_octets held.0 ++ t) ++ flat_map (numbered_check_octets 3) list)
    (same_check held.1)
