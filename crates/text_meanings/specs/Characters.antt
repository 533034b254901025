-- The characters of texts: an octet that stands for itself, or an escape (RFC 1035, 5.1; the guide
-- to Route 53, DNS domain name format).
use Rattle.std.specs.Prelude.{◌≡◌, ℕ, ◌+◌, ◌*◌, ◌<◌, ◌≤◌, ◌⊎◌, List, [], ◌∷◌}
use Rattle.std.specs.List.{AllZip, concat}

-- `.` and the backslash
abbrev pub dot : ℕ
dot = 0x2E

abbrev pub backslash : ℕ
backslash = 0x5C

-- a byte that stands for itself in a name: printable ASCII but the space, the dot and the backslash
pub record IsBare (b : ℕ) : Type 0 where
  pub above_space : 0x20 < b
  pub below_delete : b < 0x7F
  pub no_dot : b ≡ dot → ⊥
  pub no_backslash : b ≡ backslash → ⊥

-- A backslash and three octal digits spell the octet of their value, which is at most 255.
pub record IsEscape (piece : List ℕ) (octet : ℕ) : Type 0 where
  pub first : ℕ
  pub second : ℕ
  pub third : ℕ
  pub digits : (first < 8) × (second < 8) × (third < 8)
  pub value : octet ≡ first * 64 + second * 8 + third
  pub small : octet ≤ 255
  pub spelled : piece ≡ backslash ∷ (0x30 + first) ∷ (0x30 + second) ∷ (0x30 + third) ∷ []

-- one character of a name's text, and the octet that it spells
abbrev pub IsCharacter : (piece : List ℕ) (octet : ℕ) → Type 0
IsCharacter piece octet = (IsBare octet × (piece ≡ octet ∷ [])) ⊎ IsEscape piece octet

-- A text is the characters of these octets, one after another.
pub record AreCharacters (IsOne : (piece : List ℕ) (octet : ℕ) → Type 0)
    (text octets : List ℕ) : Type 0 where
  pub pieces : List (List ℕ)
  pub each : AllZip IsOne pieces octets
  pub together : text ≡ concat pieces
