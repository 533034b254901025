-- Laws over the texts of values.
use Rattle.std.specs.Prelude.{◌≡◌, ℕ, ◌↔◌, List, map, Result, Some}
use Rattle.value_text.specs.Numbers.{number}
use Rattle.field_text.specs.FieldRecord.{Field}
use Rattle.field_text.specs.Spelling.{Spells}
use Rattle.rdata.specs.RTypeRecord.{RType}
use Rattle.rdata.specs.Layout.{fields_of, tail_of}
use Rattle.rdata.specs.Reading.{Reads}
use Rattle.rdata.specs.TextFields.{AreTheFields}
use Rattle.rdata.specs.ValueOfText.{value_of_text}
use Rattle.rdata.specs.Written.{field_texts, text_of}
use Rattle.rdata.specs.declared.faults.ValueFault.{ValueFault}
use Rattle.text_meanings.specs.Fields.{FieldText, HasFields, places, HaveBytes}
use Rattle.text_meanings.specs.Kinds.{SpellsNumber, SpellsField}
use Rattle.text_meanings.specs.Names.{between}
use Rattle.text_meanings.specs.Values.{Gives}

-- The written text of a value is the texts of its fields with one space between each two (FORMATS,
-- Texts of values).
abbrev pub WrittenTextIsJoined : Type 0
WrittenTextIsJoined =
    (rtype : RType) (octets : List ℕ)
    → text_of rtype octets ≡ between 0x20 (field_texts (fields_of rtype) (tail_of rtype) octets)

-- Reading a text gives this number exactly where it spells it.
abbrev pub NumbersAsSpelled : Type 0
NumbersAsSpelled =
    (most : ℕ) (text : List ℕ) (n : ℕ) → (number most text ≡ Some n) ↔ SpellsNumber most text n

-- Reading a text gives octets as a field of a kind exactly where its characters spell them. Of
-- addresses and tags both are said by the same grammar.
abbrev pub FieldsAsSpelled : Type 0
FieldsAsSpelled =
    (field : Field) (text octets : List ℕ)
    → Spells field text octets ↔ SpellsField field text octets

-- What is read of a text is what its fields give, and so is the value as a function of the text.
abbrev pub ValuesAsSpelled : Type 0
ValuesAsSpelled =
    (rtype : RType) (text : List ℕ) (read : Result (List ℕ) ValueFault)
    → (Reads rtype text read ↔ Gives rtype text read)
    × ((value_of_text rtype text ≡ read) ↔ Gives rtype text read)

-- A text has a list of fields, and no other.
abbrev pub OneListOfFields : Type 0
OneListOfFields =
    (text : List ℕ)
    → ((fields : List FieldText) × HasFields 0 text fields)
    × ((fields others : List FieldText) → HasFields 0 text fields → HasFields 0 text others
    → fields ≡ others)

-- Fields that blanks part are those that are looked for one after another, and nothing else is.
abbrev pub FieldsAsFound : Type 0
FieldsAsFound =
    (text : List ℕ) (fields : List FieldText)
    → HasFields 0 text fields
    ↔ (AreTheFields text 0 (map places fields) × HaveBytes text fields)
