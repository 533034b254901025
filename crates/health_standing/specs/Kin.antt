-- The children of calculated checks, one check behind the other.
use Rattle.std.specs.Prelude.{ℕ, List, [], ◌∷◌, ◌++◌, length}
use Rattle.check_model.specs.declared.checks.Check.{Check}
use Rattle.check_model.specs.declared.checks.Check.TheVariants.{Endpoint, Calculated}

-- The number of a calculated check, how many children it has, and these; nothing of an endpoint's.
abbrev pub its_kin : (id : ℕ) → Check → List ℕ
its_kin id (Endpoint threshold inverted disabled) = []
its_kin id (Calculated threshold inverted disabled children) = id ∷ length children ∷ children

-- those of all checks, one check behind the other
abbrev pub kin_of : List (ℕ × Check) → List ℕ
kin_of [] = []
kin_of (held ∷ list) = its_kin held.0 held.1 ++ kin_of list
