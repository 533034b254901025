-- The texts of strings, by what they spell (RFC 1035, 3.3 and 5.1; FORMATS, Texts of values).
use Rattle.std.specs.Prelude.{◌≡◌, ℕ, ◌<◌, ◌≤◌, ◌⊎◌, List, [], ◌∷◌, ◌++◌, length}
use Rattle.text_meanings.specs.Characters.{backslash, IsEscape, AreCharacters}

-- `"`
abbrev pub quote : ℕ
quote = 0x22

-- a byte that stands for itself in a string: printable ASCII but the quote and the backslash
pub record IsBareInString (b : ℕ) : Type 0 where
  pub at_least_space : 0x20 ≤ b
  pub below_delete : b < 0x7F
  pub no_quote : b ≡ quote → ⊥
  pub no_backslash : b ≡ backslash → ⊥

-- One character of a string's text, and the octet that it spells: a byte that stands for itself; a
-- quote or a backslash behind a backslash; an escape.
abbrev pub IsStringCharacter : (piece : List ℕ) (octet : ℕ) → Type 0
IsStringCharacter piece octet =
    (IsBareInString octet × (piece ≡ octet ∷ []))
    ⊎ ((((octet ≡ quote) ⊎ (octet ≡ backslash)) × (piece ≡ backslash ∷ octet ∷ []))
    ⊎ IsEscape piece octet)

-- A text spells a string of at most 255 octets: the characters of its octets, one after another,
-- between quotes.
pub record SpellsString (text string : List ℕ) : Type 0 where
  pub inside : List ℕ
  pub characters : AreCharacters IsStringCharacter inside string
  pub quoted : text ≡ quote ∷ (inside ++ quote ∷ [])
  pub short : length string ≤ 255
