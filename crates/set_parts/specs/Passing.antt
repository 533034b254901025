-- How parts are passed over, by the octets that say their kinds and lengths (FORMATS, Octets of
-- sets). That what is left is what stands behind the part is a clause of each call.
use Rattle.std.specs.Prelude.{ℕ, List, [], ◌∷◌, drop, ◌==◌, if◌then◌else◌}

abbrev pub past_text : List ℕ → List ℕ
past_text [] = []
past_text (size ∷ octets) = drop size octets

abbrev pub past_place : List ℕ → List ℕ
past_place [] = []
past_place (kind ∷ octets) =
    if kind == 1 then drop 1 octets
    else if kind == 2 then drop 2 octets
    else if kind == 3 then past_text (drop 2 octets)
    else octets

abbrev pub past_policy : List ℕ → List ℕ
past_policy [] = []
past_policy (kind ∷ octets) =
    if kind == 1 then drop 1 (past_text octets)
    else if kind == 2 then drop 1 (past_text octets)
    else if kind == 3 then past_place (past_text octets)
    else if kind == 4 then past_text (past_text octets)
    else if kind == 5 then past_text octets
    else if kind == 6 then past_text (drop 4 (past_text octets))
    else octets

abbrev pub past_check : List ℕ → List ℕ
past_check [] = []
past_check (kind ∷ octets) = if kind == 0 then octets else drop 4 octets
