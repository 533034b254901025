-- Random words that are given, as a generator.
use Rattle.std.specs.Prelude.{ℕ, List, [], ◌∷◌}

-- the first word that is left, and those behind it; then zeros
abbrev pub next_of : List ℕ → ℕ × List ℕ
next_of [] = (0, [])
next_of (word ∷ rest) = (word, rest)
