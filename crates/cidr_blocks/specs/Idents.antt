-- The names of collections and of their locations (API Reference, CidrCollection and
-- CidrRoutingConfig).
use Rattle.std.specs.Prelude.{◌≡◌, ℕ, ◌⊎◌, List, [], ◌∷◌}
use Rattle.routing.specs.Texts.{IsText, is_location_byte}

-- `*`, which names no location: a set of it applies to each client, behind the set of its location
abbrev pub star : List ℕ
star = 0x2A ∷ []

-- the name of a collection: 1 to 64 letters, digits, `_` and `-`
abbrev pub IsCollectionName : List ℕ → Type 0
IsCollectionName text = IsText is_location_byte 64 text

-- such a name, as that of a location is too, or `*`
abbrev pub IsNameOrStar : List ℕ → Type 0
IsNameOrStar text = IsCollectionName text ⊎ (text ≡ star)
