-- Names below a name (RFC 1034, 3.1).
use Rattle.std.specs.Prelude.{◌≡◌, ℕ, List, ◌++◌}

-- The labels of the other name are the last ones of this one's.
abbrev pub EndsWith : (labels other : List (List ℕ)) → Type 0
EndsWith labels other = (first : List (List ℕ)) × (labels ≡ first ++ other)
