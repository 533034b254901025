-- A whole text.
use Rattle.std.proofs.Common.{◌≡◌, ℕ, ◌*◌, ◌≤◌, List, [], length, arith, sym, Result, Ok, Err, subst}
use Rattle.field_text.specs.LawsOfValueText.{FieldsGoOn}
use Rattle.field_text.specs.RTypeRecord.{RType}
use Rattle.field_text.specs.FieldRecord.{Field}
use Rattle.field_text.specs.TailRecord.{Tail}
use Rattle.field_text.specs.Layout.{fields_of, tail_of, IsLayout}
use Rattle.field_text.specs.Laws.{SpelledIsField}
use Rattle.field_text.specs.FieldRecordOfValueText as text_field
use Rattle.rdata.specs.TextFields.{AreTheFields}
use Rattle.rdata.specs.Reading.{ReadsFields, IsRead, in_front, most_text}
use Rattle.rdata.specs.Steps.{FailsWith, ReadsUpTo, ReadsAll, ReadsTail, AppendsTail, tail_most}
use Rattle.rdata.specs.declared.faults.ValueFault.{ValueFault}
use Rattle.rdata.specs.declared.faults.ValueFault.TheVariants.{BadField, MissingField, SurplusField, TooLong, OutOfMemory}
use Rattle.rdata.proofs.Fields.{the_fields}
use Rattle.rdata.proofs.Layouts.{fields_layout, few_octets}

-- what its fields give
pub all_read : FieldsGoOn
    → (rtype : RType) (text : List ℕ) (kinds : List Field) (read : Result (List ℕ) ValueFault)
    → length text ≤ most_text
    → kinds ≡ fields_of rtype → ReadsAll text kinds read → IsRead rtype text read
all_read go rtype text kinds read short e reads =
    let all = the_fields go text (length text) 0 (omega arith) in
    record {
      short = short;
      fields = all.0;
      all = all.1;
      reads =
          subst (λ ks. ReadsFields text ks (tail_of rtype) all.0 read) e
          (reads (tail_of rtype) all.0 all.1);
    }

-- what its first fields and the tail give
pub tail_read : FieldsGoOn
    → (rtype : RType) (text : List ℕ) (kinds : List Field) (end : Tail) (at : ℕ) (first : List ℕ)
    (read : Result (List ℕ) ValueFault) → length text ≤ most_text
    → kinds ≡ fields_of rtype → end ≡ tail_of rtype → ReadsUpTo text kinds [] at first
    → ReadsTail text at end read
    → IsRead rtype text (in_front first read)
tail_read go rtype text kinds end at first read short e f passes reads =
    all_read_of (the_fields go text (length text) 0 (omega arith))
  where
    all_read_of : (fields : List text_field.Field) × AreTheFields text 0 fields
        → IsRead rtype text (in_front first read)
    all_read_of all =
        let l = passes end all.0 all.1 in
        let gives : ReadsFields text kinds end all.0 (in_front first read) =
        l.goes read (sym (reads l.left l.fields)) in
        record {
          short = short;
          fields = all.0;
          all = all.1;
          reads = subst (λ t. ReadsFields text (fields_of rtype) t all.0 (in_front first read)) f
              (subst (λ ks. ReadsFields text ks end all.0 (in_front first read)) e gives);
        }

-- the same of each fault but want of memory
pub fails : (P Q : Result (List ℕ) ValueFault → Type 0)
    → ((fault : ValueFault) → P (Err fault) → Q (Err fault)) → (fault : ValueFault)
    → FailsWith P fault → FailsWith Q fault
fails P Q f (BadField at) h = f (BadField at) h
fails P Q f (MissingField at) h = f (MissingField at) h
fails P Q f (SurplusField at) h = f (SurplusField at) h
fails P Q f TooLong h = f TooLong h
fails P Q f OutOfMemory h = tt

-- the octets that are read are in the type's layout
pub in_layout : SpelledIsField
    → (rtype : RType) (text first octets : List ℕ) (kinds : List Field) (end : Tail) (at : ℕ)
    → kinds ≡ fields_of rtype
    → end ≡ tail_of rtype
    → length text ≤ most_text → length first ≤ 255 * length kinds
    → AppendsTail text at end first octets → IsRead rtype text (Ok octets)
    → IsLayout rtype octets
in_layout law rtype text first octets kinds end at e f short size tail read =
    let few : length first ≤ 255 * length (fields_of rtype) =
    subst (λ ks. length first ≤ 255 * length ks) e size in
    let rest : length tail.octets ≤ tail_most text (tail_of rtype) =
    subst (λ t. length tail.octets ≤ tail_most text t) f tail.size in
    record {
      short = few_octets rtype text first tail.octets octets short few rest tail.appended;
      fields =
          fields_layout law text (fields_of rtype) (tail_of rtype) read.fields octets read.reads;
    }
