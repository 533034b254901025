-- The definitions at values from outside: the rules' own examples. Results stand newest first.
use Rattle.std.proofs.Common.{◌≡◌, ℕ, Bool, true, false, List, [], ◌∷◌, refl, nat_lt, if◌then◌else◌}
use Rattle.checker_state.specs.View.{view_of, EndsRun}
use Rattle.checker_state.specs.Standing.{kept, numbers, nothing, with_result, passing_of}

-- a new checker sees a pass
new_one : view_of 3 [] ≡ true
new_one = refl

-- fail, fail, pass, fail, fail: no three in a row
broken : view_of 3 (false ∷ false ∷ true ∷ false ∷ false ∷ []) ≡ true
broken = refl

-- one more fail
turned : view_of 3 (false ∷ false ∷ false ∷ true ∷ false ∷ false ∷ []) ≡ false
turned = refl

-- two passes behind it leave the view
still_failing : view_of 3 (true ∷ true ∷ false ∷ false ∷ false ∷ []) ≡ false
still_failing = refl

back : view_of 3 (true ∷ true ∷ true ∷ false ∷ false ∷ false ∷ []) ≡ true
back = refl

-- at threshold 1 the view is the last result
each_one : view_of 1 (false ∷ true ∷ []) ≡ false
each_one = refl

-- nine in a row are not ten
nine : view_of 10 (false ∷ false ∷ false ∷ false ∷ false ∷ false ∷ false ∷ false ∷ false ∷ [])
    ≡ true
nine = refl

-- a row of three ends at the second newest result
row : EndsRun 3 false (true ∷ false ∷ false ∷ false ∷ true ∷ []) 1
row = refl

-- what is kept after a pass and two fails
two_fails : kept 3 (false ∷ false ∷ true ∷ []) ≡ record { view = true; last = false; run = 2 }
two_fails = refl

-- a run is counted up to the threshold
five_fails : kept 3 (false ∷ false ∷ false ∷ false ∷ false ∷ [])
    ≡ record { view = false; last = false; run = 3 }
five_fails = refl

-- fifty of them, from 0 to 49
fifty : passing_of 3 nothing ≡ 50
unfolding numbers
fifty = refl

-- three fails from the checkers 0 to 39: ten see a pass
abbrev failed_below : ℕ → ℕ → List Bool
failed_below n k = if nat_lt k n then false ∷ false ∷ false ∷ [] else []

ten : passing_of 3 (failed_below 40) ≡ 10
unfolding numbers
ten = refl

-- and from checker 40
nine_left : passing_of 3
    (with_result 40 false (with_result 40 false (with_result 40 false (failed_below 40)))) ≡ 9
unfolding numbers
nine_left = refl
