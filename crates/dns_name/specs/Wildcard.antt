-- The wildcard label (RFC 4592, 2.1.1).
use Rattle.std.specs.Prelude.{ℕ, List, [], ◌∷◌}

-- the label of the one octet `*`
abbrev pub wildcard : List ℕ
wildcard = 0x2A ∷ []
