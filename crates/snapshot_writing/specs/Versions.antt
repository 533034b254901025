-- The versions that are written.
use Rattle.std.specs.Prelude.{ℕ, Bool, true, false}

-- the third where collections are told, else the second
abbrev pub version_spelled : (told : Bool) → ℕ
version_spelled true = 3
version_spelled false = 2
