-- The definitions at values from outside: nine sets, of which the first has place 0.
use Rattle.std.proofs.Common.{◌≡◌, true, false, [], ◌∷◌, refl, replicate}
use Rattle.multivalue.specs.Choice.{chosen}
use Rattle.multivalue.specs.Answer.{picked}

-- from the eighth set on
from_the_eighth : chosen (replicate 9 true) 7 ≡ 7 ∷ 8 ∷ 0 ∷ 1 ∷ 2 ∷ 3 ∷ 4 ∷ 5 ∷ []
from_the_eighth = refl

-- none is healthy: the same
none_healthy : chosen (replicate 9 false) 7 ≡ 7 ∷ 8 ∷ 0 ∷ 1 ∷ 2 ∷ 3 ∷ 4 ∷ 5 ∷ []
none_healthy = refl

-- a word above the count
twice_round : chosen (replicate 9 true) 18446744073709551615 ≡ 6 ∷ 7 ∷ 8 ∷ 0 ∷ 1 ∷ 2 ∷ 3 ∷ 4 ∷ []
twice_round = refl

-- eight of nine are healthy: all eight, in the group's order
eight_healthy : chosen (true ∷ true ∷ false ∷ true ∷ true ∷ true ∷ true ∷ true ∷ true ∷ []) 7
    ≡ 0 ∷ 1 ∷ 3 ∷ 4 ∷ 5 ∷ 6 ∷ 7 ∷ 8 ∷ []
eight_healthy = refl

two_of_three : chosen (true ∷ false ∷ true ∷ []) 1 ≡ 0 ∷ 2 ∷ []
two_of_three = refl

-- 0 behind the places
with_zeros : picked (0 ∷ 2 ∷ []) ≡ record { places = 0 ∷ 2 ∷ 0 ∷ 0 ∷ 0 ∷ 0 ∷ 0 ∷ 0 ∷ []; count = 2 }
with_zeros = refl
