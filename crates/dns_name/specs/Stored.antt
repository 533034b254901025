use Rattle.std.specs.Prelude.{◌≡◌, ℕ, ◌-◌, List, [], ◌∷◌, ◌++◌, length, map, zero, suc}
use Rattle.std.specs.List.{AllByRecursion}
use Rattle.std.specs.Char.{to_ascii_lowercase}
use Rattle.std.proofs.Math.ListN.{replicate}
use Rattle.dns_name.specs.Labels.{wire, IsRawName}

-- The labels of a name on the wire, where `need` bytes of the first are still to come: that
-- label, and those after it.
abbrev pub split : ℕ → List ℕ → List ℕ × List (List ℕ)
split need [] = ([], [])
split zero (zero ∷ bytes) = ([], [])
split zero (suc n ∷ bytes) = let r = split (suc n) bytes in ([], r.0 ∷ r.1)
split (suc need) (b ∷ bytes) = let r = split need bytes in (b ∷ r.0, r.1)

-- the labels of a name on the wire
abbrev pub labels_of : List ℕ → List (List ℕ)
labels_of bytes = (split 0 bytes).1

-- the bytes of a name in its array
abbrev pub stored : List (List ℕ) → List ℕ
stored labels = wire labels ++ replicate (255 - length (wire labels)) 0

-- each byte is in lower case
abbrev pub IsLowerLabel : List ℕ → Type 0
IsLowerLabel label = map to_ascii_lowercase label ≡ label

-- what an array and a length are for a name
pub record IsStored (array : List ℕ) (n : ℕ) : Type 0 where
  pub name : IsRawName (labels_of array)
  pub lower : AllByRecursion IsLowerLabel (labels_of array)
  pub bytes : array ≡ stored (labels_of array)
  pub len : n ≡ length (wire (labels_of array))
