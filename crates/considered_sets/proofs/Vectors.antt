-- The definitions at values from outside.
use Rattle.std.proofs.Common.{◌≡◌, true, false, [], ◌∷◌, refl}
use Rattle.considered_sets.specs.Considered.{places}

-- two of three are healthy
two_healthy : places (true ∷ false ∷ true ∷ []) ≡ 0 ∷ 2 ∷ []
two_healthy = refl

-- none is: all are considered
none_healthy : places (false ∷ false ∷ false ∷ []) ≡ 0 ∷ 1 ∷ 2 ∷ []
none_healthy = refl

no_set : places [] ≡ []
no_set = refl
