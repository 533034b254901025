-- A text gives one value, or one fault.
use Rattle.std.proofs.Common.{◌≡◌, ℕ, inl, inr, List, [], ◌∷◌, arith, ap, sym, ◌∙◌, subst, Result}
use Rattle.field_text.specs.FieldRecordOfValueText as text_field
use Rattle.field_text.specs.RTypeRecord.{RType}
use Rattle.field_text.specs.FieldRecord.{Field}
use Rattle.field_text.specs.TailRecord.{Tail}
use Rattle.field_text.specs.Layout.{fields_of, tail_of}
use Rattle.field_text.specs.Laws as fields
use Rattle.rdata.specs.TextFields.{AreTheFields, bytes_of}
use Rattle.rdata.specs.Reading.{Reads, ReadsFields, in_front}
use Rattle.rdata.specs.declared.faults.ValueFault.{ValueFault}
use Rattle.rdata.proofs.Fields.{begins, none_left}

-- a text has one list of fields from a place on
pub same_fields : (text : List ℕ) (at : ℕ) (all others : List text_field.Field)
    → AreTheFields text at all → AreTheFields text at others
    → all ≡ others
same_fields text at [] others a b = sym (none_left text at others a b)
same_fields text at (field ∷ all) others a b =
    let o = begins text at field others a.0 b in
    ap (λ fs. field ∷ fs) (same_fields text field.end all o.rest a.1 o.are) ∙ sym o.whole

-- fields give one value as these kinds and the tail
one_of_fields : fields.OneReading
    → (text : List ℕ) (kinds : List Field) (end : Tail) (all : List text_field.Field)
    (read other : Result (List ℕ) ValueFault)
    → ReadsFields text kinds end all read → ReadsFields text kinds end all other → read ≡ other
one_of_fields law text [] end all read other a b = a ∙ sym b
one_of_fields law text (kind ∷ kinds) end [] read other a b = a ∙ sym b
one_of_fields law text (kind ∷ kinds) end (field ∷ all) read other (inl a) (inl b) = a.1 ∙ sym b.1
one_of_fields law text (kind ∷ kinds) end (field ∷ all) read other (inl a) (inr b) =
    absurd (a.0 b.0 b.2)
one_of_fields law text (kind ∷ kinds) end (field ∷ all) read other (inr a) (inl b) =
    absurd (b.0 a.0 a.2)
one_of_fields law text (kind ∷ kinds) end (field ∷ all) read other (inr a) (inr b) =
    let octets : a.0 ≡ b.0 = law kind (bytes_of text field) a.0 b.0 a.2 b.2 in
    let rest : a.1 ≡ b.1 = one_of_fields law text kinds end all a.1 b.1 a.3 b.3 in
    a.4 ∙ ap (λ o. in_front o a.1) octets ∙ ap (in_front b.0) rest ∙ sym b.4

pub one_of_text : fields.OneReading
    → (rtype : RType) (text : List ℕ) (read other : Result (List ℕ) ValueFault)
    → Reads rtype text read
    → Reads rtype text other → read ≡ other
one_of_text law rtype text read other (inl a) (inl b) = a.fault ∙ sym b.fault
one_of_text law rtype text read other (inl a) (inr b) = absurd (omega (arith, a.long, b.short))
one_of_text law rtype text read other (inr a) (inl b) = absurd (omega (arith, b.long, a.short))
one_of_text law rtype text read other (inr a) (inr b) =
    one_of_fields law text (fields_of rtype) (tail_of rtype) b.fields read other
    (subst (λ fs. ReadsFields text (fields_of rtype) (tail_of rtype) fs read)
    (same_fields text 0 a.fields b.fields a.all b.all) a.reads) b.reads
