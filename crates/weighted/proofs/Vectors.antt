-- The definitions at values from outside: three sets of the weights 1, 0 and 3.
use Rattle.std.proofs.Common.{◌≡◌, Bool, true, false, List, [], ◌∷◌, ℕ, refl}
use Rattle.weighted.specs.Choice.{stretches, chosen}
use Rattle.weighted.specs.Laws.{times_chosen}

abbrev weights : List ℕ
weights = 1 ∷ 0 ∷ 3 ∷ []

abbrev all : List Bool
all = true ∷ true ∷ true ∷ []

laid : stretches weights all ≡ 0 ∷ 2 ∷ 2 ∷ 2 ∷ []
laid = refl

word_0 : chosen weights all 0 ≡ 0
word_0 = refl

word_1 : chosen weights all 1 ≡ 2
word_1 = refl

word_3 : chosen weights all 3 ≡ 2
word_3 = refl

word_4 : chosen weights all 4 ≡ 0
word_4 = refl

-- the one healthy set has weight 0
zero_alone : chosen weights (false ∷ true ∷ false ∷ []) 7 ≡ 1
zero_alone = refl

-- none is healthy: all are considered
none_0 : chosen weights (false ∷ false ∷ false ∷ []) 0 ≡ 0
none_0 = refl

none_1 : chosen weights (false ∷ false ∷ false ∷ []) 1 ≡ 2
none_1 = refl

-- all weights are 0: one chance each
zeros : stretches (0 ∷ 0 ∷ 0 ∷ []) (true ∷ false ∷ true ∷ []) ≡ 0 ∷ 2 ∷ []
zeros = refl

-- the last word
last_word : chosen weights all 18446744073709551615 ≡ 2
last_word = refl

counts : times_chosen weights all 0 ∷ times_chosen weights all 1 ∷ times_chosen weights all 2 ∷ []
    ≡ weights
counts = refl
