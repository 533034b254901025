-- Names from RFC 1035, RFC 2181 and RFC 4592, and the faults of texts, each at its place.
use Rattle.std.proofs.Common.{◌≡◌, ℕ, List, [], ◌∷◌, ◌++◌, refl, codes, map, Ok, Err, Less, Greater, Equal}
use Rattle.std.proofs.Math.ListN.{replicate}
use Rattle.dns_name.specs.Labels.{wire, lowered}
use Rattle.dns_name.specs.Order.{zone_cmp}
use Rattle.dns_name.specs.Text.{name_of_text}
use Rattle.dns_name.specs.Written.{text_of}
use Rattle.dns_name.specs.declared.fault.NameFault.TheVariants.{BadEscape, LabelTooLong, NameTooLong, EmptyLabel, BadByte}

-- the first name of the example in RFC 1035, 4.1.4
pub f_isi_arpa : wire (codes "F" ∷ codes "ISI" ∷ codes "ARPA" ∷ [])
    ≡ 1 ∷ 0x46 ∷ 3 ∷ 0x49 ∷ 0x53 ∷ 0x49 ∷ 4 ∷ 0x41 ∷ 0x52 ∷ 0x50 ∷ 0x41 ∷ 0 ∷ []
f_isi_arpa = refl

pub root : wire [] ≡ 0 ∷ []
root = refl

-- names are equal up to case (RFC 1035, 2.3.3)
pub lower : lowered (codes "F" ∷ codes "ISI" ∷ []) ≡ codes "f" ∷ codes "isi" ∷ []
lower = refl

-- texts that read as names
pub read_f_isi_arpa : name_of_text (codes "f.isi.arpa")
    ≡ Ok (codes "f" ∷ codes "isi" ∷ codes "arpa" ∷ [])
read_f_isi_arpa = refl

pub read_final_dot : name_of_text (codes "f.isi.arpa.")
    ≡ Ok (codes "f" ∷ codes "isi" ∷ codes "arpa" ∷ [])
read_final_dot = refl

pub read_upper_case : name_of_text (codes "F.ISI.ARPA")
    ≡ Ok (codes "f" ∷ codes "isi" ∷ codes "arpa" ∷ [])
read_upper_case = refl

pub read_root : name_of_text (codes ".") ≡ Ok []
read_root = refl

-- the wildcard as itself and as an escape, and an escaped letter in upper case
pub read_wildcard : name_of_text (codes "*.example.com")
    ≡ Ok (codes "*" ∷ codes "example" ∷ codes "com" ∷ [])
read_wildcard = refl

pub read_escaped_wildcard : name_of_text (codes "\\052.example.com")
    ≡ Ok (codes "*" ∷ codes "example" ∷ codes "com" ∷ [])
read_escaped_wildcard = refl

pub read_escaped_upper_case : name_of_text (codes "\\101.b") ≡ Ok (codes "a" ∷ codes "b" ∷ [])
read_escaped_upper_case = refl

-- a dot within a label, and the highest octet
pub read_escaped_dot : name_of_text (codes "a\\056b.c") ≡ Ok (codes "a.b" ∷ codes "c" ∷ [])
read_escaped_dot = refl

pub read_highest_octet : name_of_text (codes "\\377") ≡ Ok ((255 ∷ []) ∷ [])
read_highest_octet = refl

-- faults
pub two_dots : name_of_text (codes "a..b") ≡ Err (EmptyLabel 2)
two_dots = refl

pub empty_text : name_of_text [] ≡ Err (EmptyLabel 0)
empty_text = refl

pub first_dot : name_of_text (codes ".a") ≡ Err (EmptyLabel 0)
first_dot = refl

pub short_escape : name_of_text (codes "a\\9") ≡ Err (BadEscape 1)
short_escape = refl

pub two_digits : name_of_text (codes "a\\12") ≡ Err (BadEscape 1)
two_digits = refl

pub above_255 : name_of_text (codes "\\400") ≡ Err (BadEscape 0)
above_255 = refl

pub decimal_digit : name_of_text (codes "\\058") ≡ Err (BadEscape 0)
decimal_digit = refl

pub escaped_dot : name_of_text (codes "a\\.b") ≡ Err (BadEscape 1)
escaped_dot = refl

pub space : name_of_text (codes "a b") ≡ Err (BadByte 1)
space = refl

pub delete : name_of_text (0x61 ∷ 0x7F ∷ []) ≡ Err (BadByte 1)
delete = refl

-- labels of 63 and 64 octets (RFC 1035, 2.3.4)
pub label_of_63 : name_of_text (replicate 63 0x61) ≡ Ok (replicate 63 0x61 ∷ [])
label_of_63 = refl

pub label_of_64 : name_of_text (replicate 64 0x61) ≡ Err (LabelTooLong 63)
label_of_64 = refl

-- a bad byte as the 64th
pub bad_byte_of_64 : name_of_text (replicate 63 0x61 ++ 0x20 ∷ []) ≡ Err (BadByte 63)
bad_byte_of_64 = refl

-- an escape as the 64th: a good one is a character too many, a bad one is no character
pub escape_of_64 : name_of_text (replicate 63 0x61 ++ codes "\\142") ≡ Err (LabelTooLong 63)
escape_of_64 = refl

pub bad_escape_of_64 : name_of_text (replicate 63 0x61 ++ codes "\\400") ≡ Err (BadEscape 63)
bad_escape_of_64 = refl

-- three labels of 63 octets and a dot behind each
abbrev pub long : List ℕ
long = replicate 63 0x61 ++ (0x2E ∷ replicate 63 0x62 ++ (0x2E ∷ replicate 63 0x63 ++ 0x2E ∷ []))

-- names of 255 and 256 octets (RFC 1035, 2.3.4)
pub name_of_255 : name_of_text (long ++ replicate 61 0x64)
    ≡ Ok (replicate 63 0x61 ∷ replicate 63 0x62 ∷ replicate 63 0x63 ∷ replicate 61 0x64 ∷ [])
name_of_255 = refl

pub name_of_256 : name_of_text (long ++ replicate 62 0x64) ≡ Err (NameTooLong 253)
name_of_256 = refl

-- a dot behind 255 octets ends them; a character behind that dot is one too many, and a bad byte is
-- no character
pub dot_behind_255 : name_of_text (long ++ (replicate 61 0x64 ++ 0x2E ∷ [])) ≡ Ok
    (replicate 63 0x61 ∷ replicate 63 0x62 ∷ replicate 63 0x63 ∷ replicate 61 0x64 ∷ [])
dot_behind_255 = refl

pub label_behind_255 : name_of_text (long ++ (replicate 61 0x64 ++ 0x2E ∷ 0x65 ∷ []))
    ≡ Err (NameTooLong 254)
label_behind_255 = refl

pub bad_byte_behind_255 : name_of_text (long ++ (replicate 61 0x64 ++ 0x20 ∷ []))
    ≡ Err (BadByte 253)
bad_byte_behind_255 = refl

pub bad_escape_behind_255 : name_of_text (long ++ (replicate 61 0x64 ++ codes "\\8"))
    ≡ Err (BadEscape 253)
bad_escape_behind_255 = refl

-- labels of 63, 63, 61 and 63 octets are 255 on the wire: one octet more makes the last label and
-- the name too long
abbrev pub full : List ℕ
full =
    replicate 63 0x61
    ++ (0x2E ∷ replicate 63 0x62 ++ (0x2E ∷ replicate 61 0x63 ++ (0x2E ∷ replicate 63 0x64)))

pub full_name : name_of_text full
    ≡ Ok (replicate 63 0x61 ∷ replicate 63 0x62 ∷ replicate 61 0x63 ∷ replicate 63 0x64 ∷ [])
full_name = refl

pub label_before_name : name_of_text (full ++ 0x64 ∷ []) ≡ Err (LabelTooLong 253)
label_before_name = refl

-- The bytes that stand for themselves go from 0x21 to 0x7E, without the dot and the backslash; A to
-- Z are read as a to z.
pub read_first_bytes : name_of_text (0x21 ∷ 0x29 ∷ 0x2D ∷ 0x2F ∷ 0x30 ∷ 0x39 ∷ 0x3A ∷ 0x40 ∷ [])
    ≡ Ok ((0x21 ∷ 0x29 ∷ 0x2D ∷ 0x2F ∷ 0x30 ∷ 0x39 ∷ 0x3A ∷ 0x40 ∷ []) ∷ [])
read_first_bytes = refl

pub read_last_bytes : name_of_text (0x41 ∷ 0x5A ∷ 0x5B ∷ 0x5D ∷ 0x60 ∷ 0x61 ∷ 0x7A ∷ 0x7B ∷ 0x7E
    ∷ [])
    ≡ Ok ((0x61 ∷ 0x7A ∷ 0x5B ∷ 0x5D ∷ 0x60 ∷ 0x61 ∷ 0x7A ∷ 0x7B ∷ 0x7E ∷ []) ∷ [])
read_last_bytes = refl

pub other_bytes : map name_of_text ((0x20 ∷ []) ∷ (0x7F ∷ []) ∷ (0 ∷ []) ∷ (0x80 ∷ []) ∷ (255 ∷ [])
    ∷ [])
    ≡ Err (BadByte 0) ∷ Err (BadByte 0) ∷ Err (BadByte 0) ∷ Err (BadByte 0) ∷ Err (BadByte 0) ∷ []
other_bytes = refl

-- places count the bytes of the text: an escape has four
pub behind_an_escape : map name_of_text (codes "\\052 b" ∷ codes "\\052..b" ∷ codes "\\052\\8"
    ∷ codes "a.\\052\\056 " ∷ [])
    ≡ Err (BadByte 4) ∷ Err (EmptyLabel 5) ∷ Err (BadEscape 4) ∷ Err (BadByte 10) ∷ []
behind_an_escape = refl

-- a label of an escape and 63 bytes: its 64th octet is byte 66
pub long_behind_an_escape : name_of_text (codes "\\052" ++ replicate 63 0x61)
    ≡ Err (LabelTooLong 66)
long_behind_an_escape = refl

-- written texts
pub written_wildcard : text_of (codes "*" ∷ codes "example" ∷ codes "com" ∷ [])
    ≡ codes "\\052.example.com."
written_wildcard = refl

pub written_root : text_of [] ≡ codes "."
written_root = refl

pub written_octets : text_of ((0 ∷ 0x2D ∷ 0x5F ∷ 0x2E ∷ 0x5C ∷ 255 ∷ []) ∷ codes "az09" ∷ [])
    ≡ codes "\\000-_\\056\\134\\377.az09."
written_octets = refl

-- the neighbours of what is written as it is, and its ends
pub written_neighbours : text_of
    ((0x2C ∷ 0x2D ∷ 0x2F ∷ 0x30 ∷ 0x39 ∷ 0x3A ∷ 0x5E ∷ 0x5F ∷ 0x60 ∷ 0x61 ∷ 0x7A ∷ 0x7B ∷ []) ∷ [])
    ≡ codes "\\054-\\05709\\072\\136_\\140az\\173."
written_neighbours = refl

-- the order of the names in RFC 4034, 6.1, where escapes are decimal: example, a.example,
-- yljkjljk.a.example, Z.a.example,
-- zABC.a.EXAMPLE, z.example, \001.z.example, *.z.example, \200.z.example
pub parent_first : zone_cmp (codes "example" ∷ []) (codes "a" ∷ codes "example" ∷ []) ≡ Less
parent_first = refl

pub deeper_before_later : zone_cmp (codes "yljkjljk" ∷ codes "a" ∷ codes "example" ∷ []) (codes "z"
    ∷ codes "a" ∷ codes "example" ∷ []) ≡ Less
deeper_before_later = refl

pub front_of_label : zone_cmp (codes "zabc" ∷ codes "a" ∷ codes "example" ∷ []) (codes "z"
    ∷ codes "a" ∷ codes "example" ∷ []) ≡ Greater
front_of_label = refl

pub from_the_root : zone_cmp (codes "zabc" ∷ codes "a" ∷ codes "example" ∷ []) (codes "z"
    ∷ codes "example" ∷ []) ≡ Less
from_the_root = refl

pub below_a_later_name : zone_cmp (codes "z" ∷ codes "example" ∷ []) ((1 ∷ []) ∷ codes "z"
    ∷ codes "example" ∷ []) ≡ Less
below_a_later_name = refl

pub low_octet : zone_cmp ((1 ∷ []) ∷ codes "z" ∷ codes "example" ∷ []) (codes "*" ∷ codes "z"
    ∷ codes "example" ∷ []) ≡ Less
low_octet = refl

pub high_octet : zone_cmp (codes "*" ∷ codes "z" ∷ codes "example" ∷ []) ((200 ∷ []) ∷ codes "z"
    ∷ codes "example" ∷ []) ≡ Less
high_octet = refl

pub same_name : zone_cmp (codes "z" ∷ codes "example" ∷ []) (codes "z" ∷ codes "example" ∷ [])
    ≡ Equal
same_name = refl
