-- The value of a text as a function of it (FORMATS, Texts of values; RFC 1035, 5.1).
use Rattle.std.specs.Prelude.{ℕ, zero, suc, pred, ◌+◌, List, [], ◌∷◌, length, nat_lt, if◌then◌else◌, Result, Err}
use Rattle.field_text.specs.FieldRecordOfValueText.{Field}
use Rattle.field_text.specs.FieldsOfValueText.{is_blank, field_len}
use Rattle.field_text.specs.RTypeRecord.{RType}
use Rattle.field_text.specs.FieldRecord as kind
use Rattle.field_text.specs.TailRecord.{Tail}
use Rattle.field_text.specs.Layout.{fields_of, tail_of}
use Rattle.field_text.specs.OctetsOfText.{octets_of_text}
use Rattle.rdata.specs.TextFields.{bytes_of}
use Rattle.rdata.specs.Reading.{string_first, tail_gives, most_text}
use Rattle.rdata.specs.declared.faults.ValueFault.{ValueFault}
use Rattle.rdata.specs.declared.faults.ValueFault.TheVariants.{MissingField, TooLong}

-- The fields of what stands from a place on, where so many bytes of the one before are still to be
-- passed over. Each begins at the first byte behind it that is no space and no tab.
abbrev pub fields_from : (passing at : ℕ) → List ℕ → List Field
fields_from passing at [] = []
fields_from zero at (b ∷ rest) =
    if is_blank b then fields_from 0 (at + 1) rest
    else record { start = at; end = at + field_len (b ∷ rest) }
    ∷ fields_from (pred (field_len (b ∷ rest))) (at + 1) rest
fields_from (suc passing) at (b ∷ rest) = fields_from passing (at + 1) rest

-- What fields give that are of these kinds, one after another, and then the tail: the first that
-- spells none of its kind is the fault, and where a text has a field less, its end.
abbrev pub fields_give : (text : List ℕ) → List kind.Field → Tail → List Field
    → Result (List ℕ) ValueFault
fields_give text [] end fields = tail_gives text end fields
fields_give text (first ∷ kinds) end [] = Err (MissingField (length text))
fields_give text (first ∷ kinds) end (field ∷ fields) =
    string_first field (octets_of_text first (bytes_of text field)) (λ octets. octets)
    (fields_give text kinds end fields)

-- The octets of a text's value, or its first fault; a text that is too long is told as such.
unfoldable pub value_of_text : RType → (text : List ℕ) → Result (List ℕ) ValueFault
value_of_text rtype text =
    if nat_lt most_text (length text) then Err TooLong
    else fields_give text (fields_of rtype) (tail_of rtype) (fields_from 0 0 text)
