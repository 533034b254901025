-- Laws over the definitions of this crate.
use Rattle.std.specs.Prelude.{◌≡◌, ℕ, ◌+◌, ◌^◌, ◌<◌, ◌≤◌, ◌↔◌, List, ◌++◌, length, All, true}
use Rattle.std.specs.Prelude.{None, Some}
use Rattle.std.specs.Fmt.{decimal}
use Rattle.value_text.specs.declared.fields.Field.{Field}
use Rattle.value_text.specs.Fields.{is_blank, next_field}
use Rattle.value_text.specs.Numbers.{number}
use Rattle.value_text.specs.Strings.{string_of_text, string_text}

-- No field is found exactly where nothing but spaces and tabs is left.
abbrev pub NoFieldInBlanks : Type 0
NoFieldInBlanks = (at : ℕ) (text : List ℕ)
    → (next_field at text ≡ None) ↔ All (λ b. is_blank b ≡ true) text

-- A text that reads as a string is one whole field, whatever stands behind it: strings and fields
-- agree on which quote is escaped.
abbrev pub StringIsOneField : Type 0
StringIsOneField =
    (at : ℕ) (text behind string : List ℕ) → string_of_text text ≡ Some string
    → next_field at (text ++ behind) ≡ Some (record { start = at; end = at + length text })

-- The decimal digits of a number without leading zeros read as that number.
abbrev pub WrittenNumberReadsBack : Type 0
WrittenNumberReadsBack = (n most : ℕ) → n ≤ most → n < 2 ^ 64 → number most (decimal n) ≡ Some n

-- The text of at most 255 bytes, each below 256, reads as those bytes.
abbrev pub WrittenStringReadsBack : Type 0
WrittenStringReadsBack =
    (string : List ℕ) → All (λ b. b < 256) string → length string ≤ 255
    → string_of_text (string_text string) ≡ Some string

-- A field stands at the place that it is looked for from or behind it, within the text, and has
-- one byte at least.
abbrev pub FieldsGoOn : Type 0
FieldsGoOn =
    (at : ℕ) (text : List ℕ) (field : Field) → next_field at text ≡ Some field
    → (at ≤ field.start) × (field.start < field.end) × (field.end ≤ at + length text)
