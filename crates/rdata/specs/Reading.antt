-- What a text gives as a value of a type: its octets, or the first fault from the left (FORMATS,
-- Texts of values).
use Rattle.std.specs.Prelude.{◌≡◌, ℕ, ◌<◌, ◌≤◌, ◌⊎◌, List, [], ◌∷◌, ◌++◌, length, Option, Some, None, Result, Ok, Err}
use Rattle.field_text.specs.FieldRecordOfValueText.{Field}
use Rattle.field_text.specs.Strings.{string_of_text}
use Rattle.field_text.specs.RTypeRecord.{RType}
use Rattle.field_text.specs.FieldRecord as kind
use Rattle.field_text.specs.TailRecord.{Tail}
use Rattle.field_text.specs.TailRecord.TheVariants as tail
use Rattle.field_text.specs.Layout.{fields_of, tail_of, string_octets}
use Rattle.field_text.specs.Spelling.{Spells}
use Rattle.rdata.specs.TextFields.{bytes_of, AreTheFields}
use Rattle.rdata.specs.declared.faults.ValueFault.{ValueFault}
use Rattle.rdata.specs.declared.faults.ValueFault.TheVariants.{BadField, MissingField, SurplusField, TooLong}

-- octets in front of those that the rest of a text gives
abbrev pub in_front : List ℕ → Result (List ℕ) ValueFault → Result (List ℕ) ValueFault
in_front octets (Ok rest) = Ok (octets ++ rest)
in_front octets (Err fault) = Err fault

-- no field is left, or the first of those is too many
abbrev pub at_the_end : List Field → Result (List ℕ) ValueFault
at_the_end [] = Ok []
at_the_end (field ∷ fields) = Err (SurplusField field.start)

-- a string's field, in front of what the rest gives
abbrev pub string_first : Field → Option (List ℕ) → (List ℕ → List ℕ) → Result (List ℕ) ValueFault
    → Result (List ℕ) ValueFault
string_first field None octets rest = Err (BadField field.start)
string_first field (Some string) octets rest = in_front (octets string) rest

-- each field a string
abbrev pub strings_of : (text : List ℕ) → List Field → Result (List ℕ) ValueFault
strings_of text [] = Ok []
strings_of text (field ∷ fields) =
    string_first field (string_of_text (bytes_of text field)) string_octets (strings_of text fields)

-- What the fields behind the first ones give: none for most types; one string or more, each with
-- its octet of length; one string, whose bytes stand there alone.
abbrev pub tail_gives : (text : List ℕ) → Tail → List Field → Result (List ℕ) ValueFault
tail_gives text tail.Nothing fields = at_the_end fields
tail_gives text tail.Strings [] = Err (MissingField (length text))
tail_gives text tail.Strings (field ∷ fields) = strings_of text (field ∷ fields)
tail_gives text tail.Value [] = Err (MissingField (length text))
tail_gives text tail.Value (field ∷ fields) =
    string_first field (string_of_text (bytes_of text field)) (λ string. string) (at_the_end fields)

-- What fields give that are of these kinds, one after another, and then the tail. Where a text has
-- a field less, the fault stands at its end.
abbrev pub ReadsFields : (text : List ℕ) → List kind.Field → Tail → List Field
    → Result (List ℕ) ValueFault → Type 0
ReadsFields text [] end fields read = read ≡ tail_gives text end fields
ReadsFields text (first ∷ kinds) end [] read = read ≡ Err (MissingField (length text))
ReadsFields text (first ∷ kinds) end (field ∷ fields) read =
    (((octets : List ℕ) → Spells first (bytes_of text field) octets → ⊥)
    × (read ≡ Err (BadField field.start)))
    ⊎ ((octets : List ℕ) × (rest : Result (List ℕ) ValueFault)
    × Spells first (bytes_of text field) octets
    × ReadsFields text kinds end fields rest × (read ≡ in_front octets rest))

-- the most bytes of a text (own)
abbrev pub most_text : ℕ
most_text = 4000

-- a text that is longer
pub record IsTooLong (text : List ℕ) (read : Result (List ℕ) ValueFault) : Type 0 where
  pub long : most_text < length text
  pub fault : read ≡ Err TooLong

-- another text, by its fields
pub record IsRead (rtype : RType) (text : List ℕ) (read : Result (List ℕ) ValueFault) : Type 0 where
  pub short : length text ≤ most_text
  pub fields : List Field
  pub all : AreTheFields text 0 fields
  pub reads : ReadsFields text (fields_of rtype) (tail_of rtype) fields read

-- What a text gives.
abbrev pub Reads : RType → (text : List ℕ) → Result (List ℕ) ValueFault → Type 0
Reads rtype text read = IsTooLong text read ⊎ IsRead rtype text read
