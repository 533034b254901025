-- Domain names as lists of labels, and as octets (RFC 1035, 2.3.4 and 3.1).
use Rattle.std.specs.Prelude.{ℕ, ◌<◌, ◌≤◌, List, [], ◌∷◌, ◌++◌, length, map}
use Rattle.std.specs.List.{flat_map, AllByRecursion}
use Rattle.std.specs.Char.{to_ascii_lowercase}

-- a label on the wire: one length octet, then so many octets
abbrev pub frame : List ℕ → List ℕ
frame label = length label ∷ label

-- a name on the wire: its labels, then the zero octet of the root's label
abbrev pub wire : List (List ℕ) → List ℕ
wire labels = flat_map frame labels ++ 0 ∷ []

-- a label of 1 to 63 octets, in either case
pub record IsRawLabel (label : List ℕ) : Type 0 where
  pub filled : 0 < length label
  pub short : length label < 64

-- labels, in either case, that are 255 octets or less on the wire
pub record IsRawName (labels : List (List ℕ)) : Type 0 where
  pub each : AllByRecursion IsRawLabel labels
  pub fits : length (wire labels) ≤ 255

-- Labels in lower case: names are equal up to ASCII case (RFC 1035, 2.3.3).
abbrev pub lowered : List (List ℕ) → List (List ℕ)
lowered labels = map (map to_ascii_lowercase) labels
