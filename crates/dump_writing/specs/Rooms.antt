-- The room that parts of a line take.
use Rattle.std.specs.Prelude.{ℕ, ◌+◌, ◌*◌, List, [], ◌∷◌, length}
use Rattle.cidr_blocks.specs.declared.places.CidrLocation.{CidrLocation}

-- that of the objects of locations, in octets
abbrev pub room_of : List CidrLocation → ℕ
room_of [] = 0
room_of (location ∷ locations) = 500 + 300 * length location.blocks + room_of locations
