-- Texts of numbers.
use Rattle.std.specs.Prelude.{◌≡◌, ◌≢◌, ℕ, List, length, slice_index}

-- no plus in front, and no zero that more digits follow
abbrev pub IsUnpadded : List ℕ → Type 0
IsUnpadded text = (slice_index text 0 ≢ 0x2B) × (slice_index text 0 ≡ 0x30 → length text ≡ 1)
