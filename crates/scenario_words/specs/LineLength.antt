-- Lines of a scenario: a line goes on in those below it that begin with a space.
use Rattle.std.specs.Prelude.{ℕ, ◌+◌, ◌==◌, ◌&&◌, not, List, [], ◌∷◌, Bool, false, if◌then◌else◌}

abbrev pub begins_with_space : List ℕ → Bool
begins_with_space [] = false
begins_with_space (octet ∷ rest) = octet == 0x20

-- A line ends with the first octet: a line feed, behind which no space stands.
abbrev pub ends_line : List ℕ → Bool
ends_line [] = false
ends_line (octet ∷ rest) = octet == 0x0A && not (begins_with_space rest)

-- how many octets the first line has
abbrev pub line_length : List ℕ → ℕ
line_length [] = 0
line_length (octet ∷ rest) =
    if ends_line (octet ∷ rest) then 1 else 1 + line_length rest
