-- The fields of a value's text, in their order (RFC 1035, 5.1; FORMATS, Texts of values).
use Rattle.std.specs.Prelude.{◌≡◌, ℕ, ◌-◌, List, [], ◌∷◌, take, drop, None, Some}
use Rattle.field_text.specs.FieldRecordOfValueText.{Field}
use Rattle.field_text.specs.FieldsOfValueText.{next_field}

-- the bytes of a field
abbrev pub bytes_of : (text : List ℕ) → Field → List ℕ
bytes_of text field = take (field.end - field.start) (drop field.start text)

-- These are the fields that a text has from a place on, all of them.
abbrev pub AreTheFields : (text : List ℕ) (at : ℕ) → List Field → Type 0
AreTheFields text at [] = next_field at (drop at text) ≡ None
AreTheFields text at (field ∷ fields) =
    (next_field at (drop at text) ≡ Some field) × AreTheFields text field.end fields
