-- Names as a reply writes them (RFC 1035, 4.1.4).
use Rattle.std.specs.Prelude.{ℕ, ◌+◌, List, [], ◌∷◌, ◌++◌, length, Option, None, Some, if◌then◌else◌}
use Rattle.octets.specs.Numbers.{two_octets}
use Rattle.rdata_layout.specs.Labels.{frame}
use Rattle.rdata_layout.specs.Order.{same_labels}

-- The place in the message at which these labels end the name in the question, of which what is left begins at `place`.
abbrev pub place_in : (place : ℕ) → (name labels : List (List ℕ)) → Option ℕ
place_in place [] labels = None
place_in place (first ∷ rest) labels =
    if same_labels labels (first ∷ rest) then Some place else place_in (place + (length first + 1)) rest labels

-- a pointer: two bits of one, and a place in 14 bits
abbrev pub pointer_to : ℕ → List ℕ
pointer_to place = two_octets (0xC000 + place)

abbrev pub as_pointer : Option ℕ → List ℕ → List ℕ
as_pointer None octets = octets
as_pointer (Some place) octets = pointer_to place

-- A name, where `name` is that in the question, which begins behind the header of 12 octets: the labels before the first
-- suffix that is one of the question's name too, and a pointer to that. A name without such a suffix is whole. Suffixes
-- have a label at least: the root is its zero octet.
abbrev pub name_octets : (name labels : List (List ℕ)) → List ℕ
name_octets name [] = 0 ∷ []
name_octets name (label ∷ labels) =
    as_pointer (place_in 12 name (label ∷ labels)) (frame label ++ name_octets name labels)
