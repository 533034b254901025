-- Texts of values by their bytes: from RFC 1035 and RFC 8659, from the guide to Route 53 (Supported
-- DNS record types, TXT),
-- and worked by hand.
use Rattle.std.proofs.Common.{◌≡◌, [], ◌∷◌, ◌++◌, drop, replicate, refl, codes, map, None, Some}
use Rattle.std.specs.List.{flat_map}
use Rattle.value_text.specs.Fields.{next_field}
use Rattle.value_text.specs.Numbers.{number}
use Rattle.value_text.specs.Strings.{string_of_text, string_text}

-- MX (RFC 1035, 5.3): `10      VENERA`
pub preference : next_field 0 (codes "10      VENERA") ≡ Some (record { start = 0; end = 2 })
preference = refl

pub exchange : next_field 2 (drop 2 (codes "10      VENERA"))
    ≡ Some (record { start = 8; end = 14 })
exchange = refl

pub no_third : next_field 14 (drop 14 (codes "10      VENERA")) ≡ None
no_third = refl

-- CAA (RFC 8659, 4.2): `0 issue "ca1.example.net; account=230123"`
pub issuer : next_field 7 (0x20 ∷ 0x22 ∷ codes "ca1.example.net; account=230123" ++ 0x22 ∷ [])
    ≡ Some (record { start = 8; end = 41 })
issuer = refl

pub issuer_read : string_of_text (0x22 ∷ codes "ca1.example.net; account=230123" ++ 0x22 ∷ [])
    ≡ Some (codes "ca1.example.net; account=230123")
issuer_read = refl

-- two tabs and a space in front, and a space behind
pub blanks : next_field 4 (0x09 ∷ 0x09 ∷ 0x20 ∷ 0x61 ∷ 0x20 ∷ [])
    ≡ Some (record { start = 7; end = 8 })
blanks = refl

pub only_blanks : next_field 0 (0x20 ∷ 0x09 ∷ []) ≡ None
only_blanks = refl

-- `"a""b"` is two fields
pub first_of_two : next_field 0 (0x22 ∷ 0x61 ∷ 0x22 ∷ 0x22 ∷ 0x62 ∷ 0x22 ∷ [])
    ≡ Some (record { start = 0; end = 3 })
first_of_two = refl

pub second_of_two : next_field 3 (0x22 ∷ 0x62 ∷ 0x22 ∷ []) ≡ Some (record { start = 3; end = 6 })
second_of_two = refl

-- `"a b" c`: a space inside quotes
pub space_inside : next_field 0 (0x22 ∷ 0x61 ∷ 0x20 ∷ 0x62 ∷ 0x22 ∷ 0x20 ∷ 0x63 ∷ [])
    ≡ Some (record { start = 0; end = 5 })
space_inside = refl

-- `"\""`: a quote that is escaped
pub quote_inside : next_field 0 (0x22 ∷ 0x5C ∷ 0x22 ∷ 0x22 ∷ [])
    ≡ Some (record { start = 0; end = 4 })
quote_inside = refl

-- `"\\"x`: a backslash that is escaped, and a quote that is not
pub backslash_inside : next_field 0 (0x22 ∷ 0x5C ∷ 0x5C ∷ 0x22 ∷ 0x78 ∷ [])
    ≡ Some (record { start = 0; end = 4 })
backslash_inside = refl

-- `"\1" x`: a backslash that begins no escape takes no quote with it
pub no_escape : next_field 0 (0x22 ∷ 0x5C ∷ 0x31 ∷ 0x22 ∷ 0x20 ∷ 0x78 ∷ [])
    ≡ Some (record { start = 0; end = 4 })
no_escape = refl

-- `"\042"x`: the octal digits of a quote
pub octal_inside : next_field 0 (0x22 ∷ 0x5C ∷ 0x30 ∷ 0x34 ∷ 0x32 ∷ 0x22 ∷ 0x78 ∷ [])
    ≡ Some (record { start = 0; end = 6 })
octal_inside = refl

-- `"a b`: a quote that is not closed takes the rest
pub unclosed : next_field 0 (0x22 ∷ 0x61 ∷ 0x20 ∷ 0x62 ∷ []) ≡ Some (record { start = 0; end = 4 })
unclosed = refl

-- `a"b" c`: a quote inside a field that does not begin with one
pub quote_behind : next_field 0 (0x61 ∷ 0x22 ∷ 0x62 ∷ 0x22 ∷ 0x20 ∷ 0x63 ∷ [])
    ≡ Some (record { start = 0; end = 4 })
quote_behind = refl

-- EXPIRE of the SOA of RFC 1035, 5.3
pub expire : number 4294967295 (codes "3600000") ≡ Some 3600000
expire = refl

-- the largest number of four octets, and one above it
pub largest : number 4294967295 (codes "4294967295") ≡ Some 4294967295
largest = refl

pub one_above : number 4294967295 (codes "4294967296") ≡ None
one_above = refl

pub leading_zeros : number 255 (codes "0000000000000000000000255") ≡ Some 255
leading_zeros = refl

pub no_digits : number 255 [] ≡ None
no_digits = refl

pub sign : number 255 (codes "+1") ≡ None
sign = refl

pub slash : number 255 (codes "1/") ≡ None
slash = refl

pub colon : number 255 (codes "1:") ≡ None
colon = refl

-- `"ex\344mple.com"`: the guide's example of an octet outside ASCII
pub umlaut : string_of_text (0x22 ∷ 0x65 ∷ 0x78 ∷ 0x5C ∷ 0x33 ∷ 0x34 ∷ 0x34 ∷ 0x6D ∷ 0x70 ∷ 0x6C
    ∷ 0x65 ∷ 0x22 ∷ []) ≡ Some
    (0x65 ∷ 0x78 ∷ 0xE4 ∷ 0x6D ∷ 0x70 ∷ 0x6C ∷ 0x65 ∷ [])
umlaut = refl

pub umlaut_written : string_text (0x65 ∷ 0x78 ∷ 0xE4 ∷ []) ≡ 0x22 ∷ 0x65 ∷ 0x78 ∷ 0x5C ∷ 0x33 ∷ 0x34
    ∷ 0x34 ∷ 0x22 ∷ []
umlaut_written = refl

-- `"\"\\ "`
pub marks : string_of_text (0x22 ∷ 0x5C ∷ 0x22 ∷ 0x5C ∷ 0x5C ∷ 0x20 ∷ 0x22 ∷ [])
    ≡ Some (0x22 ∷ 0x5C ∷ 0x20 ∷ [])
marks = refl

pub marks_written : string_text (0x22 ∷ 0x5C ∷ 0x20 ∷ 0x7F ∷ 0x00 ∷ [])
    ≡ 0x22 ∷ 0x5C ∷ 0x22 ∷ 0x5C ∷ 0x5C ∷ 0x20 ∷ 0x5C ∷ 0x31 ∷
    0x37 ∷ 0x37 ∷ 0x5C ∷ 0x30 ∷ 0x30 ∷ 0x30 ∷ 0x22 ∷ []
marks_written = refl

-- `""`
pub empty : string_of_text (0x22 ∷ 0x22 ∷ []) ≡ Some []
empty = refl

-- `"\377"` and `"\400"`
pub octal_255 : string_of_text (0x22 ∷ 0x5C ∷ 0x33 ∷ 0x37 ∷ 0x37 ∷ 0x22 ∷ []) ≡ Some (0xFF ∷ [])
octal_255 = refl

pub octal_256 : string_of_text (0x22 ∷ 0x5C ∷ 0x34 ∷ 0x30 ∷ 0x30 ∷ 0x22 ∷ []) ≡ None
octal_256 = refl

-- `"\a"`: any other escape, and a tab and the byte 0x7F inside
pub other_escape : string_of_text (0x22 ∷ 0x5C ∷ 0x61 ∷ 0x22 ∷ []) ≡ None
other_escape = refl

pub tab_inside : string_of_text (0x22 ∷ 0x09 ∷ 0x22 ∷ []) ≡ None
tab_inside = refl

pub delete_inside : string_of_text (0x22 ∷ 0x7F ∷ 0x22 ∷ []) ≡ None
delete_inside = refl

-- `"a`, `a`, and `"a"b`
pub not_closed : string_of_text (0x22 ∷ 0x61 ∷ []) ≡ None
not_closed = refl

pub not_opened : string_of_text (0x61 ∷ []) ≡ None
not_opened = refl

pub more_behind : string_of_text (0x22 ∷ 0x61 ∷ 0x22 ∷ 0x62 ∷ []) ≡ None
more_behind = refl

-- 255 and 256 bytes
pub longest : string_of_text (0x22 ∷ replicate 255 0x61 ++ 0x22 ∷ []) ≡ Some (replicate 255 0x61)
longest = refl

pub too_long : string_of_text (0x22 ∷ replicate 256 0x61 ++ 0x22 ∷ []) ≡ None
too_long = refl

-- a 256th byte as an escape, and 255 escapes
pub too_long_escaped : string_of_text (0x22 ∷ replicate 255 0x61 ++ 0x5C ∷ 0x22 ∷ 0x22 ∷ []) ≡ None
too_long_escaped = refl

pub longest_escaped : string_of_text (0x22
    ∷ flat_map (λ b. 0x5C ∷ 0x33 ∷ 0x37 ∷ b ∷ []) (replicate 255 0x37) ++ 0x22 ∷ [])
    ≡ Some (replicate 255 255)
longest_escaped = refl

-- The bytes that stand for themselves go from 0x20 to 0x7E, without the quote and the backslash.
pub own_bytes : string_of_text (0x22 ∷ 0x20 ∷ 0x21 ∷ 0x23 ∷ 0x5B ∷ 0x5D ∷ 0x7E ∷ 0x22 ∷ [])
    ≡ Some (0x20 ∷ 0x21 ∷ 0x23 ∷ 0x5B ∷ 0x5D ∷ 0x7E ∷ [])
own_bytes = refl

pub other_bytes : map (λ b. string_of_text (0x22 ∷ b ∷ 0x22 ∷ [])) (0x00 ∷ 0x1F ∷ 0x22 ∷ 0x5C ∷ 0x7F
    ∷ 0x80 ∷ 0xFF ∷ []) ≡ replicate 7 None
other_bytes = refl

pub ends_written : string_text (0x1F ∷ 0x20 ∷ 0x21 ∷ 0x23 ∷ 0x5B ∷ 0x5D ∷ 0x7E ∷ 0x7F ∷ 0x80 ∷ [])
    ≡ 0x22 ∷ 0x5C ∷ 0x30 ∷ 0x33 ∷ 0x37 ∷ 0x20 ∷ 0x21 ∷ 0x23 ∷ 0x5B ∷ 0x5D ∷ 0x7E ∷ 0x5C ∷ 0x31
    ∷ 0x37 ∷ 0x37 ∷ 0x5C ∷ 0x32 ∷ 0x30 ∷ 0x30 ∷ 0x22 ∷ []
ends_written = refl
