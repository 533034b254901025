-- Strings of 0 to 255 bytes and their texts (RFC 1035, 3.3 and 5.1; FORMATS, Texts of values).
use Rattle.std.specs.Prelude.{ℕ, zero, suc, ◌+◌, ◌/◌, ◌%◌, List, [], ◌∷◌, ◌++◌, length}
use Rattle.std.specs.Prelude.{slice_index, Bool, ◌&&◌, ◌||◌, ◌==◌}
use Rattle.std.specs.Prelude.{nat_le, if◌then◌else◌, Option, None, Some}
use Rattle.std.specs.List.{flat_map}
use Rattle.octets.specs.Octal.{has_octal, octal_of}
use Rattle.value_text.specs.Fields.{quote, backslash}
use Rattle.value_text.specs.declared.strings.Character.{Character}

-- printable ASCII with the space
abbrev pub is_printable : ℕ → Bool
is_printable b = nat_le 0x20 b && nat_le b 0x7E

-- the bytes that stand for themselves behind a backslash, and not without one
abbrev pub is_escaped : ℕ → Bool
is_escaped b = b == quote || b == backslash

-- the character of a backslash, with what stands behind it
abbrev pub escape : List ℕ → Option Character
escape rest =
    if is_escaped (slice_index rest 0) then Some (record { value = slice_index rest 0; more = 1 })
    else (if has_octal rest then Some (record { value = octal_of rest; more = 3 }) else None)

-- the character of a byte that is no quote, with what stands behind it
abbrev pub character : (b : ℕ) (rest : List ℕ) → Option Character
character b rest =
    if b == backslash then escape rest
    else (if is_printable b then Some (record { value = b; more = 0 }) else None)

-- How far a text is read: before its opening quote; behind so many characters, where so many
-- bytes of the last are still to be passed over; behind the closing quote; or not the text of a
-- string.
pub data Progress : Type 0 where
  Opening : Progress
  Reading : (passing : ℕ) (string : List ℕ) → Progress
  Closed : (string : List ℕ) → Progress
  Broken : Progress

abbrev pub add_character : (string : List ℕ) → Option Character → Progress
add_character string None = Broken
add_character string (Some c) = Reading c.more (string ++ c.value ∷ [])

-- the byte at a place, with what stands behind it
abbrev pub after_byte : Progress → (b : ℕ) (rest : List ℕ) → Progress
after_byte Opening b rest = if b == quote then Reading 0 [] else Broken
after_byte (Reading zero string) b rest =
    if b == quote then Closed string else add_character string (character b rest)
after_byte (Reading (suc passing) string) b rest = Reading passing string
after_byte (Closed string) b rest = Broken
after_byte Broken b rest = Broken

abbrev pub read_from : Progress → List ℕ → Progress
read_from progress [] = progress
read_from progress (b ∷ rest) = read_from (after_byte progress b rest) rest

-- at the end of a text: a string that is closed, of at most 255 bytes
abbrev pub at_the_end : Progress → Option (List ℕ)
at_the_end Opening = None
at_the_end (Reading passing string) = None
at_the_end (Closed string) = if nat_le (length string) 255 then Some string else None
at_the_end Broken = None

-- the bytes of the string that a text spells between its quotes
abbrev pub string_of_text : List ℕ → Option (List ℕ)
string_of_text text = at_the_end (read_from Opening text)

-- a byte in three octal digits behind a backslash
abbrev pub octal_text : ℕ → List ℕ
octal_text b = backslash ∷ (0x30 + b / 64) ∷ (0x30 + b / 8 % 8) ∷ (0x30 + b % 8) ∷ []

-- a byte as it is written
abbrev pub character_text : ℕ → List ℕ
character_text b =
    if is_escaped b then backslash ∷ b ∷ []
    else (if is_printable b then b ∷ [] else octal_text b)

-- a string as it is written
abbrev pub string_text : List ℕ → List ℕ
string_text string = quote ∷ (flat_map character_text string ++ quote ∷ [])
