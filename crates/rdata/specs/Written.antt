-- The written text of a value: its fields with a space between (FORMATS, Texts of values).
use Rattle.std.specs.Prelude.{ℕ, zero, suc, List, [], ◌∷◌, ◌++◌, map, take, drop}
use Rattle.field_text.specs.Strings.{string_text}
use Rattle.field_text.specs.RTypeRecord.{RType}
use Rattle.field_text.specs.FieldRecord.{Field}
use Rattle.field_text.specs.TailRecord.{Tail}
use Rattle.field_text.specs.TailRecord.TheVariants as tail
use Rattle.field_text.specs.Fields.{field_size}
use Rattle.field_text.specs.Layout.{fields_of, tail_of}
use Rattle.field_text.specs.Written.{text_of_field}

-- The strings of octets, where `need` octets of the first are still to come: that string, and those
-- behind it.
abbrev pub split_strings : (need : ℕ) → List ℕ → List ℕ × List (List ℕ)
split_strings need [] = ([], [])
split_strings zero (n ∷ octets) = let r = split_strings n octets in ([], r.0 ∷ r.1)
split_strings (suc need) (b ∷ octets) = let r = split_strings need octets in (b ∷ r.0, r.1)

abbrev pub strings_of : List ℕ → List (List ℕ)
strings_of octets = (split_strings 0 octets).1

abbrev pub tail_texts : Tail → List ℕ → List (List ℕ)
tail_texts tail.Nothing octets = []
tail_texts tail.Strings octets = map string_text (strings_of octets)
tail_texts tail.Value octets = string_text octets ∷ []

-- the texts of these fields and of the tail
abbrev pub field_texts : List Field → Tail → List ℕ → List (List ℕ)
field_texts [] end octets = tail_texts end octets
field_texts (first ∷ fields) end octets =
    text_of_field first (take (field_size first octets) octets)
    ∷ field_texts fields end (drop (field_size first octets) octets)

-- a text that another stands behind: with a space at its end, where it isn't empty
abbrev pub separated : List ℕ → List ℕ
separated [] = []
separated (b ∷ before) = (b ∷ before) ++ 0x20 ∷ []

-- texts behind a text, with a space between
abbrev pub joined_from : (before : List ℕ) → List (List ℕ) → List ℕ
joined_from before [] = before
joined_from before (text ∷ texts) = joined_from (separated before ++ text) texts

-- the text of a value of the type
abbrev pub text_of : RType → (octets : List ℕ) → List ℕ
text_of rtype octets = joined_from [] (field_texts (fields_of rtype) (tail_of rtype) octets)
