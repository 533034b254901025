-- The fields of a value's text (FORMATS, Texts of values): RFC 1035, 5.1, without comments and
-- parentheses.
use Rattle.std.specs.Prelude.{ℕ, suc, ◌+◌, List, [], ◌∷◌, Bool, true, false, ◌||◌, ◌==◌}
use Rattle.std.specs.Prelude.{if◌then◌else◌, Option, None, Some}
use Rattle.value_text.specs.declared.fields.Field.{Field}

-- the quote, and the backslash
abbrev pub quote : ℕ
quote = 0x22

abbrev pub backslash : ℕ
backslash = 0x5C

-- a space or a tab
abbrev pub is_blank : ℕ → Bool
is_blank b = b == 0x20 || b == 0x09

-- how many bytes of a field without quotes stand here: those before a space or tab
abbrev pub plain_len : List ℕ → ℕ
plain_len [] = 0
plain_len (b ∷ rest) = if is_blank b then 0 else suc (plain_len rest)

-- How many bytes of a quoted field stand behind its opening quote: those up to the first quote
-- that is not part of an escape, or all. A backslash and the byte behind it are an escape here.
-- Octal digits are neither quotes nor backslashes, so the end of a field is the same whether one
-- or three of them belong to the escape, and whether they are an escape at all; StringIsOneField
-- (Laws) says so of all strings.
abbrev pub quoted_len : (escaped : Bool) → List ℕ → ℕ
quoted_len escaped [] = 0
quoted_len true (b ∷ rest) = suc (quoted_len false rest)
quoted_len false (b ∷ rest) = if b == quote then 1 else suc (quoted_len (b == backslash) rest)

-- how many bytes the field has that begins here
abbrev pub field_len : List ℕ → ℕ
field_len [] = 0
field_len (b ∷ rest) = if b == quote then suc (quoted_len false rest) else suc (plain_len rest)

-- The first field of what stands at a place of a text and behind it: spaces and tabs before it
-- are skipped.
abbrev pub next_field : (at : ℕ) → List ℕ → Option Field
next_field at [] = None
next_field at (b ∷ rest) =
    if is_blank b then next_field (at + 1) rest
    else Some (record { start = at; end = at + field_len (b ∷ rest) })
