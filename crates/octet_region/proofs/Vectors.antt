-- Numbers of cells, and what links tell, by hand.
use Rattle.std.proofs.Common.{◌≡◌, List, [], ◌∷◌, ◌++◌, map, refl, Some, None, replicate}
use Rattle.octet_region.specs.declared.cells.Cell.{Cell}
use Rattle.octet_region.specs.Cells.{cells_for}
use Rattle.octet_region.specs.Shape.{octets_of}

pub cells : map cells_for (0 ∷ 1 ∷ 32 ∷ 33 ∷ 64 ∷ 65 ∷ 93 ∷ 5000 ∷ []) ≡ 1 ∷ 1 ∷ 1 ∷ 2 ∷ 2 ∷ 3 ∷ 3 ∷ 157 ∷ []
cells = refl

-- a chain of 34 octets in the first and the third cell, one of 32 in the second, and a cell that is free
pub three : List Cell
three =
    (record { octets = replicate 32 7; link = 71 })
    ∷ (record { octets = replicate 32 8; link = 65 })
    ∷ (record { octets = replicate 32 9; link = 4 })
    ∷ (record { octets = replicate 32 0; link = 66 })
    ∷ []

pub links : map (octets_of three) (0 ∷ 1 ∷ 2 ∷ 3 ∷ 4 ∷ [])
    ≡ Some (replicate 32 7 ++ 9 ∷ 9 ∷ []) ∷ Some (replicate 32 8) ∷ None ∷ None ∷ None ∷ []
unfolding three
links = refl
