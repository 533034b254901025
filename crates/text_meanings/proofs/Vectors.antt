-- Texts of names and strings from RFC 1035 and the guide to Route 53, with what they spell; and
-- the faults of names' texts, each at its place.
use Rattle.std.proofs.Common.{◌≡◌, ℕ, ◌+◌, ◌*◌, ◌<◌, ◌≤◌, List, [], ◌∷◌, ◌++◌, length, arith, refl, codes, Bool, true, false, inl, inr, zero, suc, None}
use Rattle.std.proofs.Math.ListN.{replicate}
use Rattle.std.specs.Prelude.{nat_le, nat_lt, ◌&&◌, ◌||◌}
use Rattle.std.specs.List.{AllZip, AllByRecursion, flat_map}
use Rattle.std.proofs.lemmas.Bool.{and_parts, or_cases, ltb-true, leb-true}
use Rattle.dns_name.specs.Labels.{wire, IsRawLabel, IsRawName}
use Rattle.dns_name.specs.declared.fault.NameFault.TheVariants.{BadEscape, LabelTooLong, NameTooLong, EmptyLabel, BadByte}
use Rattle.text_meanings.specs.Characters.{dot, backslash, IsBare, IsEscape, IsCharacter, AreCharacters}
use Rattle.text_meanings.specs.Names.{SpellsLabel, between, IsTextOf}
use Rattle.text_meanings.specs.Faults.{StandsAt, HasFault, labels_so_far}
use Rattle.text_meanings.proofs.Pieces.{no_characters}
use Rattle.text_meanings.proofs.Fronts.{no_escape}
use Rattle.text_meanings.proofs.Told.{never_both}
use Rattle.text_meanings.proofs.Quoted.{strings_spelled}
use Rattle.text_meanings.specs.Strings.{quote, IsStringCharacter, SpellsString}
use Rattle.value_text.specs.Strings.{string_of_text}
use Rattle.octets.specs.Octal.{has_octal}

-- bytes that stand for themselves: from 0x21 to 0x7E without 0x2E and 0x5C
abbrev in_range : (low high b : ℕ) → Bool
in_range low high b = nat_le low b && nat_le b high

abbrev bare : ℕ → Bool
bare b = in_range 0x21 0x2D b || in_range 0x2F 0x5B b || in_range 0x5D 0x7E b

abbrev all_bare : List ℕ → Bool
all_bare [] = true
all_bare (b ∷ label) = bare b && all_bare label

is_bare : (b : ℕ) → bare b ≡ true → IsBare b
is_bare b h = elim (or_cases (in_range 0x21 0x2D b || in_range 0x2F 0x5B b) (in_range 0x5D 0x7E b) h) [
  | inl g ↦ elim (or_cases (in_range 0x21 0x2D b) (in_range 0x2F 0x5B b) g) [
    | inl e ↦ within b 0x21 0x2D e (omega arith) (omega arith) (λ low high. omega arith)
        (λ low high. omega arith)
    | inr e ↦ within b 0x2F 0x5B e (omega arith) (omega arith) (λ low high. omega arith)
        (λ low high. omega arith)
  ]
  | inr e ↦ within b 0x5D 0x7E e (omega arith) (omega arith) (λ low high. omega arith)
      (λ low high. omega arith)
]
  where
    within : (b low high : ℕ) → in_range low high b ≡ true → 0x20 < low → high < 0x7F
        → (low ≤ b → b ≤ high → b ≡ dot → ⊥) → (low ≤ b → b ≤ high → b ≡ backslash → ⊥) → IsBare b
    within b low high e above below d s =
        let p = and_parts (nat_le low b) (nat_le b high) e in
        let x = leb-true low b p.0 in
        let y = leb-true b high p.1 in
        record {
          above_space = omega arith;
          below_delete = omega arith;
          no_dot = d x y;
          no_backslash = s x y;
        }

-- a label of such bytes
bare_label : (label : List ℕ) → all_bare label ≡ true → SpellsLabel label label
bare_label [] h = no_characters IsCharacter
bare_label (b ∷ label) h =
    let p = and_parts (bare b) (all_bare label) h in
    let s = bare_label label p.1 in
    record {
      pieces = (b ∷ []) ∷ s.pieces;
      each = (inl (is_bare b p.0, refl), s.each);
      together = let e = s.together in cc;
    }

abbrev all_labels : List (List ℕ) → Bool
all_labels [] = true
all_labels (label ∷ labels) = all_bare label && all_labels labels

bare_labels : (labels : List (List ℕ)) → all_labels labels ≡ true → AllZip SpellsLabel labels labels
bare_labels [] h = tt
bare_labels (label ∷ labels) h =
    let p = and_parts (all_bare label) (all_labels labels) h in
    (bare_label label p.0, bare_labels labels p.1)

-- labels of 1 to 63 octets
abbrev all_short : List (List ℕ) → Bool
all_short [] = true
all_short (label ∷ labels) = in_range 1 63 (length label) && all_short labels

raw_labels : (labels : List (List ℕ)) → all_short labels ≡ true → AllByRecursion IsRawLabel labels
raw_labels [] h = tt
raw_labels (label ∷ labels) h =
    let p = and_parts (in_range 1 63 (length label)) (all_short labels) h in
    let q = and_parts (nat_le 1 (length label)) (nat_le (length label) 63) p.0 in
    let low = leb-true 1 (length label) q.0 in
    let high = leb-true (length label) 63 q.1 in
    (record { filled = omega arith; short = omega arith }, raw_labels labels p.1)

named : (labels : List (List ℕ)) → all_short labels ≡ true
    → nat_le (length (wire labels)) 255 ≡ true → IsRawName labels
named labels h k =
    record { each = raw_labels labels h; fits = leb-true (length (wire labels)) 255 k }

-- an escape of these digits
escape_of : (a b c : ℕ) → (nat_lt a 8 && nat_lt b 8 && nat_lt c 8) ≡ true
    → nat_le (a * 64 + b * 8 + c) 255 ≡ true
    → IsEscape (backslash ∷ (0x30 + a) ∷ (0x30 + b) ∷ (0x30 + c) ∷ []) (a * 64 + b * 8 + c)
escape_of a b c h k =
    let p = and_parts (nat_lt a 8 && nat_lt b 8) (nat_lt c 8) h in
    let q = and_parts (nat_lt a 8) (nat_lt b 8) p.0 in
    record {
      first = a;
      second = b;
      third = c;
      digits = (ltb-true a 8 q.0, ltb-true b 8 q.1, ltb-true c 8 p.1);
      value = refl;
      small = leb-true (a * 64 + b * 8 + c) 255 k;
      spelled = refl;
    }

escape : (a b c : ℕ) → (nat_lt a 8 && nat_lt b 8 && nat_lt c 8) ≡ true
    → nat_le (a * 64 + b * 8 + c) 255 ≡ true
    → IsCharacter (backslash ∷ (0x30 + a) ∷ (0x30 + b) ∷ (0x30 + c) ∷ []) (a * 64 + b * 8 + c)
escape a b c h k = inr (escape_of a b c h k)

-- a byte that stands for itself in a string: from 0x20 to 0x7E without 0x22 and 0x5C
abbrev bare_in_string : ℕ → Bool
bare_in_string b = in_range 0x20 0x21 b || in_range 0x23 0x5B b || in_range 0x5D 0x7E b

in_string : (b : ℕ) → bare_in_string b ≡ true → IsStringCharacter (b ∷ []) b
in_string b h =
    elim (or_cases (in_range 0x20 0x21 b || in_range 0x23 0x5B b) (in_range 0x5D 0x7E b) h) [
      | inl g ↦ elim (or_cases (in_range 0x20 0x21 b) (in_range 0x23 0x5B b) g) [
        | inl e ↦ within b 0x20 0x21 e (omega arith) (omega arith) (λ low high. omega arith)
            (λ low high. omega arith)
        | inr e ↦ within b 0x23 0x5B e (omega arith) (omega arith) (λ low high. omega arith)
            (λ low high. omega arith)
      ]
      | inr e ↦ within b 0x5D 0x7E e (omega arith) (omega arith) (λ low high. omega arith)
          (λ low high. omega arith)
    ]
  where
    within : (b low high : ℕ) → in_range low high b ≡ true → 0x20 ≤ low → high < 0x7F
        → (low ≤ b → b ≤ high → b ≡ quote → ⊥) → (low ≤ b → b ≤ high → b ≡ backslash → ⊥)
        → IsStringCharacter (b ∷ []) b
    within b low high e above below q s =
        let p = and_parts (nat_le low b) (nat_le b high) e in
        let x = leb-true low b p.0 in
        let y = leb-true b high p.1 in
        inl (
          record {
            at_least_space = omega arith;
            below_delete = omega arith;
            no_quote = q x y;
            no_backslash = s x y;
          },
          refl,
        )

one_character : (piece : List ℕ) (octet : ℕ) → IsCharacter piece octet
    → SpellsLabel (piece ++ []) (octet ∷ [])
one_character piece octet c = record { pieces = piece ∷ []; each = (c, tt); together = refl }

-- names as they stand, and a dot at the end
pub f_isi_arpa : IsTextOf (codes "F.ISI.ARPA") (codes "F" ∷ codes "ISI" ∷ codes "ARPA" ∷ [])
f_isi_arpa = record {
  spelled = record {
    texts = codes "F" ∷ codes "ISI" ∷ codes "ARPA" ∷ [];
    each = bare_labels (codes "F" ∷ codes "ISI" ∷ codes "ARPA" ∷ []) refl;
    together = inl refl;
  };
  name = named (codes "F" ∷ codes "ISI" ∷ codes "ARPA" ∷ []) refl refl;
}

pub final_dot : IsTextOf (codes "F.ISI.ARPA.") (codes "F" ∷ codes "ISI" ∷ codes "ARPA" ∷ [])
final_dot = record {
  spelled = record {
    texts = codes "F" ∷ codes "ISI" ∷ codes "ARPA" ∷ [];
    each = bare_labels (codes "F" ∷ codes "ISI" ∷ codes "ARPA" ∷ []) refl;
    together = inr refl;
  };
  name = named (codes "F" ∷ codes "ISI" ∷ codes "ARPA" ∷ []) refl refl;
}

pub root : IsTextOf (codes ".") []
root = record { spelled = refl; name = named [] refl refl }

-- the wildcard as an escape (the guide, DNS domain name format)
pub wildcard : IsTextOf (codes "\\052.example.com.") (codes "*" ∷ codes "example" ∷ codes "com" ∷ [])
wildcard = record {
  spelled = record {
    texts = codes "\\052" ∷ codes "example" ∷ codes "com" ∷ [];
    each = (
      one_character (codes "\\052") 0x2A (escape 0 5 2 refl refl),
      bare_labels (codes "example" ∷ codes "com" ∷ []) refl,
    );
    together = inr refl;
  };
  name = named (codes "*" ∷ codes "example" ∷ codes "com" ∷ []) refl refl;
}

-- an escaped letter in upper case, a dot within a label, and the lowest and the highest octet
pub escaped_letter : IsTextOf (codes "\\101.b") (codes "A" ∷ codes "b" ∷ [])
escaped_letter = record {
  spelled = record {
    texts = codes "\\101" ∷ codes "b" ∷ [];
    each = (
      one_character (codes "\\101") 0x41 (escape 1 0 1 refl refl),
      bare_labels (codes "b" ∷ []) refl,
    );
    together = inl refl;
  };
  name = named (codes "A" ∷ codes "b" ∷ []) refl refl;
}

pub escaped_dot : SpellsLabel (codes "a\\056b") (codes "a.b")
escaped_dot = record {
  pieces = codes "a" ∷ codes "\\056" ∷ codes "b" ∷ [];
  each = (inl (is_bare 0x61 refl, refl), (escape 0 5 6 refl refl, (inl (is_bare 0x62 refl, refl), tt)));
  together = refl;
}

pub lowest_and_highest : SpellsLabel (codes "\\000\\377") (0 ∷ 255 ∷ [])
lowest_and_highest = record {
  pieces = codes "\\000" ∷ codes "\\377" ∷ [];
  each = (escape 0 0 0 refl refl, (escape 3 7 7 refl refl, tt));
  together = refl;
}

-- labels of 63 octets, and 255 octets on the wire (RFC 1035, 2.3.4)
abbrev long : List (List ℕ)
long = replicate 63 0x61 ∷ replicate 63 0x62 ∷ replicate 63 0x63 ∷ []

abbrev longest : List (List ℕ)
longest = replicate 63 0x61 ∷ replicate 63 0x62 ∷ replicate 63 0x63 ∷ replicate 61 0x64 ∷ []

abbrev dotted : List (List ℕ) → List ℕ
dotted labels = flat_map (λ text. text ++ dot ∷ []) labels

pub name_of_255 : IsTextOf (dotted long ++ replicate 61 0x64) longest
name_of_255 = record {
  spelled = record { texts = longest; each = bare_labels longest refl; together = inl refl };
  name = named longest refl refl;
}

-- what stands behind whole labels and a part of the next, all of bytes that stand for themselves
bare_stands : (done : List (List ℕ)) (label rest : List ℕ) → all_labels done ≡ true
    → all_bare label ≡ true → all_short (labels_so_far done label) ≡ true
    → nat_le (length (wire (labels_so_far done label))) 255 ≡ true
    → StandsAt ((dotted done ++ label) ++ rest) (length (dotted done ++ label)) done label rest
bare_stands done label rest h k short fits = record {
  before = dotted done ++ label;
  front = record {
    texts = done;
    part = label;
    whole = bare_labels done h;
    begun = bare_label label k;
    together = refl;
    name = named (labels_so_far done label) short fits;
  };
  place = refl;
  here = refl;
}

-- faults
pub empty_text : HasFault [] (EmptyLabel 0)
empty_text = inl (refl, refl)

pub first_dot : HasFault (codes ".a") (EmptyLabel 0)
first_dot = inr (record {
  done = [];
  rest = codes "a";
  stands = bare_stands [] [] (codes ".a") refl refl refl refl;
  no_root = λ e. cc;
})

pub two_dots : HasFault (codes "a..b") (EmptyLabel 2)
two_dots = inr (record {
  done = codes "a" ∷ [];
  rest = codes "b";
  stands = bare_stands (codes "a" ∷ []) [] (codes ".b") refl refl refl refl;
  no_root = λ e. cc;
})

pub two_dots_no_name : (labels : List (List ℕ)) → IsTextOf (codes "a..b") labels → ⊥
two_dots_no_name labels s = never_both (codes "a..b") labels (EmptyLabel 2) s two_dots

-- a digit that isn't octal, a value above 255, two digits, a dot, nothing
bad_escape : (done : List (List ℕ)) (label rest : List ℕ) → all_labels done ≡ true
    → all_bare label ≡ true → all_short (labels_so_far done label) ≡ true
    → nat_le (length (wire (labels_so_far done label))) 255 ≡ true → has_octal rest ≡ false
    → HasFault ((dotted done ++ label) ++ backslash ∷ rest)
    (BadEscape (length (dotted done ++ label)))
bad_escape done label rest h k short fits absent = record {
  done = done;
  label = label;
  rest = rest;
  stands = bare_stands done label (backslash ∷ rest) h k short fits;
  none = λ piece behind octet e bytes. no_escape rest piece behind octet absent e bytes;
}

pub short_escape : HasFault (codes "a\\9") (BadEscape 1)
short_escape = bad_escape [] (codes "a") (codes "9") refl refl refl refl refl

pub decimal_digit : HasFault (codes "\\058") (BadEscape 0)
decimal_digit = bad_escape [] [] (codes "058") refl refl refl refl refl

pub above_255 : HasFault (codes "\\400") (BadEscape 0)
above_255 = bad_escape [] [] (codes "400") refl refl refl refl refl

pub two_digits : HasFault (codes "a\\12") (BadEscape 1)
two_digits = bad_escape [] (codes "a") (codes "12") refl refl refl refl refl

pub dot_behind_backslash : HasFault (codes "a.b\\.c") (BadEscape 3)
dot_behind_backslash = bad_escape (codes "a" ∷ []) (codes "b") (codes ".c") refl refl refl refl refl

pub backslash_alone : HasFault (codes "a.\\") (BadEscape 2)
backslash_alone = bad_escape (codes "a" ∷ []) [] [] refl refl refl refl refl

-- where a label's 64th octet would stand too
pub bad_escape_of_64 : HasFault (replicate 63 0x61 ++ codes "\\400") (BadEscape 63)
bad_escape_of_64 = bad_escape [] (replicate 63 0x61) (codes "400") refl refl refl refl refl

-- a space, and the first byte above the printable ones
pub space : HasFault (codes "a b") (BadByte 1)
space = record {
  done = [];
  label = codes "a";
  b = 0x20;
  rest = codes "b";
  stands = bare_stands [] (codes "a") (codes " b") refl refl refl refl;
  outside = inl (omega arith);
}

pub delete : HasFault (codes "a." ++ 0x7F ∷ []) (BadByte 2)
delete = record {
  done = codes "a" ∷ [];
  label = [];
  b = 0x7F;
  rest = [];
  stands = bare_stands (codes "a" ∷ []) [] (0x7F ∷ []) refl refl refl refl;
  outside = inr (omega arith);
}

pub bad_byte_of_64 : HasFault (replicate 63 0x61 ++ 0x20 ∷ []) (BadByte 63)
bad_byte_of_64 = record {
  done = [];
  label = replicate 63 0x61;
  b = 0x20;
  rest = [];
  stands = bare_stands [] (replicate 63 0x61) (0x20 ∷ []) refl refl refl refl;
  outside = inl (omega arith);
}

-- a place counts the bytes of the text: an escape has four
pub behind_an_escape : HasFault (codes "\\052 b") (BadByte 4)
behind_an_escape = record {
  done = [];
  label = codes "*";
  b = 0x20;
  rest = codes "b";
  stands = record {
    before = codes "\\052";
    front = record {
      texts = [];
      part = codes "\\052";
      whole = tt;
      begun = one_character (codes "\\052") 0x2A (escape 0 5 2 refl refl);
      together = refl;
      name = named (codes "*" ∷ []) refl refl;
    };
    place = refl;
    here = refl;
  };
  outside = inl (omega arith);
}

-- a label of 64 octets, its last one bare or an escape
pub label_of_64 : HasFault (replicate 64 0x61) (LabelTooLong 63)
label_of_64 = record {
  done = [];
  label = replicate 63 0x61;
  piece = codes "a";
  octet = 0x61;
  rest = [];
  stands = bare_stands [] (replicate 63 0x61) (codes "a") refl refl refl refl;
  character = inl (is_bare 0x61 refl, refl);
  full = refl;
}

pub escape_of_64 : HasFault (replicate 63 0x61 ++ codes "\\142.c") (LabelTooLong 63)
escape_of_64 = record {
  done = [];
  label = replicate 63 0x61;
  piece = codes "\\142";
  octet = 0x62;
  rest = codes ".c";
  stands = bare_stands [] (replicate 63 0x61) (codes "\\142.c") refl refl refl refl;
  character = escape 1 4 2 refl refl;
  full = refl;
}

-- a name of 256 octets: one more in its last label, or behind the dot of a name of 255
pub name_of_256 : HasFault (dotted long ++ replicate 62 0x64) (NameTooLong 253)
name_of_256 = record {
  done = long;
  label = replicate 61 0x64;
  piece = codes "d";
  octet = 0x64;
  rest = [];
  stands = bare_stands long (replicate 61 0x64) (codes "d") refl refl refl refl;
  character = inl (is_bare 0x64 refl, refl);
  short = omega arith;
  long = omega arith;
}

pub label_behind_255 : HasFault (dotted longest ++ codes "e") (NameTooLong 254)
label_behind_255 = record {
  done = longest;
  label = [];
  piece = codes "e";
  octet = 0x65;
  rest = [];
  stands = bare_stands longest [] (codes "e") refl refl refl refl;
  character = inl (is_bare 0x65 refl, refl);
  short = omega arith;
  long = omega arith;
}

-- labels of 63, 63, 61 and 63 octets are 255 on the wire: one octet more makes the last label and
-- the name too long
pub label_before_name : HasFault
    (dotted (replicate 63 0x61 ∷ replicate 63 0x62 ∷ replicate 61 0x63 ∷ []) ++ replicate 64 0x64)
    (LabelTooLong 253)
label_before_name = record {
  done = replicate 63 0x61 ∷ replicate 63 0x62 ∷ replicate 61 0x63 ∷ [];
  label = replicate 63 0x64;
  piece = codes "d";
  octet = 0x64;
  rest = [];
  stands = bare_stands (replicate 63 0x61 ∷ replicate 63 0x62 ∷ replicate 61 0x63 ∷ [])
      (replicate 63 0x64) (codes "d") refl refl refl refl;
  character = inl (is_bare 0x64 refl, refl);
  full = refl;
}

-- the guide's example of an octet outside ASCII in a string, cut short; and
-- both marks
pub umlaut : SpellsString (0x22 ∷ codes "ex\\344m" ++ 0x22 ∷ []) (0x65 ∷ 0x78 ∷ 0xE4 ∷ 0x6D ∷ [])
umlaut = record {
  inside = codes "ex\\344m";
  characters = record {
    pieces = codes "e" ∷ codes "x" ∷ codes "\\344" ∷ codes "m" ∷ [];
    each = (
      in_string 0x65 refl,
      (
        in_string 0x78 refl,
        (
          inr (inr (escape_of 3 4 4 refl refl)),
          (in_string 0x6D refl, tt),
        ),
      ),
    );
    together = refl;
  };
  quoted = refl;
  short = omega arith;
}

pub marks : SpellsString (0x22 ∷ 0x5C ∷ 0x22 ∷ 0x5C ∷ 0x5C ∷ 0x20 ∷ 0x22 ∷ []) (0x22 ∷ 0x5C ∷ 0x20 ∷ [])
marks = record {
  inside = 0x5C ∷ 0x22 ∷ 0x5C ∷ 0x5C ∷ 0x20 ∷ [];
  characters = record {
    pieces = (0x5C ∷ 0x22 ∷ []) ∷ (0x5C ∷ 0x5C ∷ []) ∷ (0x20 ∷ []) ∷ [];
    each = (inr (inl (inl refl, refl)), (inr (inl (inr refl, refl)), (in_string 0x20 refl, tt)));
    together = refl;
  };
  quoted = refl;
  short = omega arith;
}

pub empty_string : SpellsString (0x22 ∷ 0x22 ∷ []) []
empty_string = record {
  inside = [];
  characters = no_characters IsStringCharacter;
  quoted = refl;
  short = omega arith;
}

letters : (n : ℕ) → AreCharacters IsStringCharacter (replicate n 0x61) (replicate n 0x61)
letters zero = no_characters IsStringCharacter
letters (suc n) =
    let s = letters n in
    record {
      pieces = codes "a" ∷ s.pieces;
      each = (in_string 0x61 refl, s.each);
      together = let e = s.together in cc;
    }

pub longest_string : SpellsString (0x22 ∷ replicate 255 0x61 ++ 0x22 ∷ []) (replicate 255 0x61)
longest_string = record {
  inside = replicate 255 0x61;
  characters = letters 255;
  quoted = refl;
  short = omega arith;
}

-- 256 bytes, an octal value of 256, another escape, a tab, no closing quote, none at the start,
-- something behind the closing one
none : (text : List ℕ) → string_of_text text ≡ None → (string : List ℕ) → SpellsString text string → ⊥
none text e string = (strings_spelled text).1.0 e string

pub too_long : (string : List ℕ) → SpellsString (0x22 ∷ replicate 256 0x61 ++ 0x22 ∷ []) string → ⊥
too_long = none (0x22 ∷ replicate 256 0x61 ++ 0x22 ∷ []) refl

pub octal_256 : (string : List ℕ) → SpellsString (0x22 ∷ codes "\\400" ++ 0x22 ∷ []) string → ⊥
octal_256 = none (0x22 ∷ codes "\\400" ++ 0x22 ∷ []) refl

pub other_escape : (string : List ℕ) → SpellsString (0x22 ∷ codes "\\a" ++ 0x22 ∷ []) string → ⊥
other_escape = none (0x22 ∷ codes "\\a" ++ 0x22 ∷ []) refl

pub tab_inside : (string : List ℕ) → SpellsString (0x22 ∷ 0x09 ∷ 0x22 ∷ []) string → ⊥
tab_inside = none (0x22 ∷ 0x09 ∷ 0x22 ∷ []) refl

pub not_closed : (string : List ℕ) → SpellsString (0x22 ∷ 0x61 ∷ []) string → ⊥
not_closed = none (0x22 ∷ 0x61 ∷ []) refl

pub not_opened : (string : List ℕ) → SpellsString (0x61 ∷ 0x22 ∷ []) string → ⊥
not_opened = none (0x61 ∷ 0x22 ∷ []) refl

pub more_behind : (string : List ℕ) → SpellsString (0x22 ∷ 0x61 ∷ 0x22 ∷ 0x62 ∷ []) string → ⊥
more_behind = none (0x22 ∷ 0x61 ∷ 0x22 ∷ 0x62 ∷ []) refl

-- the mail exchange of RFC 1035, 5.3, with one space
pub mail_exchange : between 0x20 (codes "10" ∷ codes "VENERA" ∷ []) ≡ codes "10 VENERA"
mail_exchange = refl
