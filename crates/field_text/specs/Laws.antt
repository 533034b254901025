-- Laws over the definitions of this crate.
use Rattle.std.specs.Prelude.{◌≡◌, ℕ, ◌+◌, ◌≤◌, ◌↔◌, List, [], ◌∷◌, ◌++◌, length, true, Some}
use Rattle.rdata_layout.specs.Names.{AreOctets}
use Rattle.rdata_layout.specs.Fields.{IsField}
use Rattle.rdata_layout.specs.declared.fields.Field.{Field}
use Rattle.value_text.specs.Fields.{is_blank, next_field}
use Rattle.field_text.specs.OctetsOfText.{octets_of_text}
use Rattle.field_text.specs.Spelling.{Spells}
use Rattle.field_text.specs.Written.{text_of_field}

-- A text spells one field of a kind at most.
abbrev pub OneReading : Type 0
OneReading = (field : Field) (text octets others : List ℕ) → Spells field text octets
    → Spells field text others → octets ≡ others

-- What a text spells is a field of that kind, of at most 255 octets.
abbrev pub SpelledIsField : Type 0
SpelledIsField = (field : Field) (text octets : List ℕ) → Spells field text octets
    → IsField field octets × (length octets ≤ 255)

-- The octets of a text are those that it spells, and there are none where it spells no field.
abbrev pub OctetsOfText : Type 0
OctetsOfText =
    (field : Field) (text octets : List ℕ)
    → (octets_of_text field text ≡ Some octets) ↔ Spells field text octets

-- The text written of a field spells that field.
abbrev pub WrittenFieldReadsBack : Type 0
WrittenFieldReadsBack =
    (field : Field) (octets : List ℕ) → IsField field octets → AreOctets octets
    → Spells field (text_of_field field octets) octets

-- a field ends before this: before a space or tab, or at the end of a text
abbrev pub EndsField : List ℕ → Type 0
EndsField [] = Unit {0}
EndsField (b ∷ rest) = is_blank b ≡ true

-- The text written of a field is one whole field of a value's text, wherever it stands.
abbrev pub WrittenFieldIsOneField : Type 0
WrittenFieldIsOneField =
    (field : Field) (octets : List ℕ) → IsField field octets → AreOctets octets
    → (at : ℕ) (behind : List ℕ) → EndsField behind
    → next_field at (text_of_field field octets ++ behind)
    ≡ Some (record { start = at; end = at + length (text_of_field field octets) })
