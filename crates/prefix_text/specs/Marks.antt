-- The places of marks in texts.
use Rattle.std.specs.Prelude.{ℕ, ◌+◌, ◌==◌, List, [], ◌∷◌, Option, None, Some, if◌then◌else◌}

-- the first place at which the separator stands, where the first byte has this place
abbrev pub place_from : (separator at : ℕ) → List ℕ → Option ℕ
place_from separator at [] = None
place_from separator at (b ∷ rest) = if b == separator then Some at else place_from separator (at + 1) rest

abbrev pub place_of : (separator : ℕ) → List ℕ → Option ℕ
place_of separator text = place_from separator 0 text
