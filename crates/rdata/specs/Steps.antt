-- The steps in which a text is read.
use Rattle.std.specs.Prelude.{◌≡◌, ℕ, ◌+◌, ◌≤◌, List, ◌++◌, length, Result, Ok, Err, ⊤}
use Rattle.field_text.specs.FieldRecordOfValueText as text_field
use Rattle.field_text.specs.FieldRecord.{Field}
use Rattle.field_text.specs.TailRecord.{Tail}
use Rattle.field_text.specs.TailRecord.TheVariants as tail
use Rattle.rdata.specs.TextFields.{AreTheFields}
use Rattle.rdata.specs.Reading.{ReadsFields, tail_gives, strings_of, in_front}
use Rattle.rdata.specs.declared.faults.ValueFault.{ValueFault}
use Rattle.rdata.specs.declared.faults.ValueFault.TheVariants.{BadField, MissingField, SurplusField, TooLong, OutOfMemory}

-- A fault has this of what is read. Of want of memory nothing is said.
abbrev pub FailsWith : (Result (List ℕ) ValueFault → Type 0) → ValueFault → Type 0
FailsWith Reads (BadField at) = Reads (Err (BadField at))
FailsWith Reads (MissingField at) = Reads (Err (MissingField at))
FailsWith Reads (SurplusField at) = Reads (Err (SurplusField at))
FailsWith Reads TooLong = Reads (Err TooLong)
FailsWith Reads OutOfMemory = ⊤

-- Of all fields these are left, and what they give as these kinds and the tail stands behind the
-- octets so far.
pub record Left (text : List ℕ) (kinds rest : List Field) (end : Tail) (all : List text_field.Field)
    (at : ℕ) (octets : List ℕ) : Type 0 where
  pub left : List text_field.Field
  pub fields : AreTheFields text at left
  pub goes : (read : Result (List ℕ) ValueFault) → ReadsFields text rest end left read
      → ReadsFields text kinds end all (in_front octets read)

-- A text is read up to a place, and fields of these kinds are still to come.
abbrev pub ReadsUpTo : (text : List ℕ) → (kinds rest : List Field) → (at : ℕ) → (octets : List ℕ)
    → Type 0
ReadsUpTo text kinds rest at octets =
    (end : Tail) (all : List text_field.Field) → AreTheFields text 0 all
    → Left text kinds rest end all at octets

-- what the fields of a text give as these kinds, whatever stands behind them
abbrev pub ReadsAll : (text : List ℕ) → List Field → Result (List ℕ) ValueFault → Type 0
ReadsAll text kinds read =
    (end : Tail) (all : List text_field.Field) → AreTheFields text 0 all
    → ReadsFields text kinds end all read

-- what the fields from a place on give as a tail
abbrev pub ReadsTail : (text : List ℕ) → (at : ℕ) → Tail → Result (List ℕ) ValueFault → Type 0
ReadsTail text at end read = (left : List text_field.Field) → AreTheFields text at left
    → tail_gives text end left ≡ read

-- what they give as strings
abbrev pub ReadsStrings : (text : List ℕ) → (at : ℕ) → Result (List ℕ) ValueFault → Type 0
ReadsStrings text at read = (left : List text_field.Field) → AreTheFields text at left
    → strings_of text left ≡ read

-- Of these fields some are left, and what they give as strings stands behind the octets so far.
pub record StringsLeft (text : List ℕ) (fields : List text_field.Field) (at : ℕ)
    (octets : List ℕ) : Type 0 where
  pub left : List text_field.Field
  pub are : AreTheFields text at left
  pub goes : strings_of text fields ≡ in_front octets (strings_of text left)

-- Strings are read from one place of a text to another, and appended.
pub record PassesStrings (text : List ℕ) (from at : ℕ) (before after : List ℕ) : Type 0 where
  pub octets : List ℕ
  pub appended : after ≡ before ++ octets
  pub size : from + length octets ≤ at
  pub within : at ≤ length text
  pub left : (fields : List text_field.Field) → AreTheFields text from fields
      → StringsLeft text fields at octets

-- the most octets of a tail
abbrev pub tail_most : (text : List ℕ) → Tail → ℕ
tail_most text tail.Nothing = 0
tail_most text tail.Strings = length text
tail_most text tail.Value = 255

-- The octets that the fields from a place on give as a tail are appended.
pub record AppendsTail (text : List ℕ) (at : ℕ) (end : Tail) (before after : List ℕ) : Type 0 where
  pub octets : List ℕ
  pub appended : after ≡ before ++ octets
  pub reads : ReadsTail text at end (Ok octets)
  pub size : length octets ≤ tail_most text end
