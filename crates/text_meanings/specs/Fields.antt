-- The fields of a value's text, by the blanks between them (RFC 1035, 5.1; FORMATS, Texts of
-- values).
use Rattle.std.specs.Prelude.{◌≡◌, ℕ, ◌+◌, ◌⊎◌, List, [], ◌∷◌, ◌++◌, length}
use Rattle.std.specs.List.{AllByRecursion, concat}
use Rattle.value_text.specs.declared.fields.Field.{Field}
use Rattle.rdata.specs.TextFields.{bytes_of}
use Rattle.text_meanings.specs.Characters.{backslash}
use Rattle.text_meanings.specs.Strings.{quote}

-- a space or a tab
abbrev pub IsBlank : ℕ → Type 0
IsBlank b = (b ≡ 0x20) ⊎ (b ≡ 0x09)

-- What stands between quotes, as far as their end is concerned: bytes that are no quote and no
-- backslash, and backslashes each with the byte behind it, whatever that is.
abbrev pub IsUnit : List ℕ → Type 0
IsUnit piece =
    ((b : ℕ) × (b ≡ quote → ⊥) × (b ≡ backslash → ⊥) × (piece ≡ b ∷ []))
    ⊎ ((b : ℕ) × (piece ≡ backslash ∷ b ∷ []))

pub record AreUnits (bytes : List ℕ) : Type 0 where
  pub pieces : List (List ℕ)
  pub each : AllByRecursion IsUnit pieces
  pub together : bytes ≡ concat pieces

-- no byte, or a blank and more
abbrev pub EndsField : (rest : List ℕ) → Type 0
EndsField [] = Unit {0}
EndsField (b ∷ rest) = IsBlank b

-- A field that doesn't begin with a quote goes up to a blank or to the text's end.
pub record IsPlainField (bytes rest : List ℕ) : Type 0 where
  pub first : ℕ
  pub more : List ℕ
  pub all : bytes ≡ first ∷ more
  pub no_quote : first ≡ quote → ⊥
  pub no_blank : AllByRecursion (λ b. IsBlank b → ⊥) (first ∷ more)
  pub ends : EndsField rest

-- One that does goes up to the next quote that no backslash escapes.
pub record IsClosedField (bytes : List ℕ) : Type 0 where
  pub inside : List ℕ
  pub units : AreUnits inside
  pub all : bytes ≡ quote ∷ (inside ++ quote ∷ [])

-- Where there is none, it goes up to the text's end, which may stand behind a backslash.
pub record IsOpenField (bytes rest : List ℕ) : Type 0 where
  pub inside : List ℕ
  pub units : AreUnits inside
  pub all : (bytes ≡ quote ∷ inside) ⊎ (bytes ≡ quote ∷ (inside ++ backslash ∷ []))
  pub last : rest ≡ []

-- These bytes are a field, with this behind it.
abbrev pub IsField : (bytes rest : List ℕ) → Type 0
IsField bytes rest =
    IsPlainField bytes rest ⊎ (IsClosedField bytes ⊎ IsOpenField bytes rest)

-- the bytes of a field, and the place of the first
pub record FieldText : Type 0 where
  pub place : ℕ
  pub bytes : List ℕ

-- What stands from a place on is these fields, with a run of blanks, or none, in front of each and
-- behind the last.
abbrev pub HasFields : (at : ℕ) (text : List ℕ) → List FieldText → Type 0
HasFields at text [] = AllByRecursion IsBlank text
HasFields at text (field ∷ fields) =
    (blanks : List ℕ) × (rest : List ℕ) × AllByRecursion IsBlank blanks
    × (text ≡ blanks ++ (field.bytes ++ rest)) × (field.place ≡ at + length blanks)
    × IsField field.bytes rest × HasFields (field.place + length field.bytes) rest fields

-- the places of a field: of its first byte, and behind its last
abbrev pub places : FieldText → Field
places field = record { start = field.place; end = field.place + length field.bytes }

-- Between these places of a text stand the bytes of the fields.
abbrev pub HaveBytes : (text : List ℕ) → List FieldText → Type 0
HaveBytes text fields =
    AllByRecursion (λ field. bytes_of text (places field) ≡ field.bytes) fields
