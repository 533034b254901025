-- What is wrong with a text that is no name's, and where (FORMATS, Texts of names).
use Rattle.std.specs.Prelude.{◌≡◌, ℕ, ◌+◌, ◌<◌, ◌≤◌, ◌⊎◌, List, [], ◌∷◌, ◌++◌, length, take, drop}
use Rattle.std.specs.List.{AllZip, flat_map}
use Rattle.dns_name.specs.Labels.{wire, IsRawName}
use Rattle.dns_name.specs.declared.fault.NameFault.{NameFault}
use Rattle.dns_name.specs.declared.fault.NameFault.TheVariants.{BadEscape, LabelTooLong}
use Rattle.dns_name.specs.declared.fault.NameFault.TheVariants.{NameTooLong, EmptyLabel}
use Rattle.dns_name.specs.declared.fault.NameFault.TheVariants.{BadByte}
use Rattle.text_meanings.specs.Characters.{dot, backslash, IsEscape, IsCharacter}
use Rattle.text_meanings.specs.Names.{SpellsLabel, IsTextOf, GoesOn}

-- whole labels, and behind them the label that has begun, if it has
abbrev pub labels_so_far : (done : List (List ℕ)) (label : List ℕ) → List (List ℕ)
labels_so_far done [] = done
labels_so_far done (b ∷ label) = done ++ (b ∷ label) ∷ []

-- Bytes spell whole labels with a dot behind each, and then a part of a label, or nothing of one;
-- so far they are a name's.
pub record IsFront (bytes : List ℕ) (done : List (List ℕ)) (label : List ℕ) : Type 0 where
  pub texts : List (List ℕ)
  pub part : List ℕ
  pub whole : AllZip SpellsLabel texts done
  pub begun : SpellsLabel part label
  pub together : bytes ≡ flat_map (λ text. text ++ dot ∷ []) texts ++ part
  pub name : IsRawName (labels_so_far done label)

-- The bytes of a text before a place are whole labels and a part of the next, and this is what
-- stands at the place and behind it.
pub record StandsAt (text : List ℕ) (at : ℕ) (done : List (List ℕ)) (label : List ℕ)
    (rest : List ℕ) : Type 0 where
  pub before : List ℕ
  pub front : IsFront before done label
  pub place : at ≡ length before
  pub here : text ≡ before ++ rest

-- A backslash without three octal digits of value at most 255 behind it.
pub record HasBadEscape (text : List ℕ) (at : ℕ) : Type 0 where
  pub done : List (List ℕ)
  pub label : List ℕ
  pub rest : List ℕ
  pub stands : StandsAt text at done label (backslash ∷ rest)
  pub none : (piece behind : List ℕ) (octet : ℕ) → IsEscape piece octet
      → backslash ∷ rest ≡ piece ++ behind → ⊥

-- A byte that is not printable ASCII, or the space.
pub record HasBadByte (text : List ℕ) (at : ℕ) : Type 0 where
  pub done : List (List ℕ)
  pub label : List ℕ
  pub b : ℕ
  pub rest : List ℕ
  pub stands : StandsAt text at done label (b ∷ rest)
  pub outside : (b ≤ 0x20) ⊎ (0x7F ≤ b)

-- A dot where a label would begin, in a text that isn't the root's; or the empty text.
pub record HasEmptyLabel (text : List ℕ) (at : ℕ) : Type 0 where
  pub done : List (List ℕ)
  pub rest : List ℕ
  pub stands : StandsAt text at done [] (dot ∷ rest)
  pub no_root : text ≡ dot ∷ [] → ⊥

-- A character, whole, behind 63 octets of its label.
pub record HasLongLabel (text : List ℕ) (at : ℕ) : Type 0 where
  pub done : List (List ℕ)
  pub label : List ℕ
  pub piece : List ℕ
  pub octet : ℕ
  pub rest : List ℕ
  pub stands : StandsAt text at done label (piece ++ rest)
  pub character : IsCharacter piece octet
  pub full : length label ≡ 63

-- A character, whole, with which the labels so far would be longer than 255 octets on the wire. It
-- isn't its label's 64th.
pub record HasLongName (text : List ℕ) (at : ℕ) : Type 0 where
  pub done : List (List ℕ)
  pub label : List ℕ
  pub piece : List ℕ
  pub octet : ℕ
  pub rest : List ℕ
  pub stands : StandsAt text at done label (piece ++ rest)
  pub character : IsCharacter piece octet
  pub short : length label < 63
  pub long : 255 < length (wire (done ++ (label ++ octet ∷ []) ∷ []))

-- The fault of a text.
abbrev pub HasFault : (text : List ℕ) → NameFault → Type 0
HasFault text (BadEscape at) = HasBadEscape text at
HasFault text (BadByte at) = HasBadByte text at
HasFault text (EmptyLabel at) = ((text ≡ []) × (at ≡ 0)) ⊎ HasEmptyLabel text at
HasFault text (LabelTooLong at) = HasLongLabel text at
HasFault text (NameTooLong at) = HasLongName text at

abbrev pub place_of : NameFault → ℕ
place_of (BadEscape at) = at
place_of (BadByte at) = at
place_of (EmptyLabel at) = at
place_of (LabelTooLong at) = at
place_of (NameTooLong at) = at

-- No name's text begins with the bytes of a text up to its fault and with what stands there: the
-- byte at that place; of an escape all four bytes. Three faults are apart. An escape that the text's
-- end cuts off is the beginning of one; a dot at the start begins the root's text, and no other
-- name's; and every name's text begins with the empty text.
abbrev pub StopsAt : (text : List ℕ) → NameFault → Type 0
StopsAt text (BadEscape at) =
    GoesOn (take (at + 4) text)
    → (more : List ℕ) × (octet : ℕ) × IsEscape (drop at text ++ more) octet
StopsAt text (BadByte at) = GoesOn (take (at + 1) text) → ⊥
StopsAt text (EmptyLabel at) =
    (text ≡ [])
    ⊎ (((at ≡ 0) × ((more : List ℕ) (labels : List (List ℕ))
    → IsTextOf (take (at + 1) text ++ more) labels → labels ≡ []))
    ⊎ (GoesOn (take (at + 1) text) → ⊥))
StopsAt text (LabelTooLong at) = GoesOn (take (at + 1) text) → ⊥
StopsAt text (NameTooLong at) = GoesOn (take (at + 1) text) → ⊥
