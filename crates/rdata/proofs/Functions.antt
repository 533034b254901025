-- The function that gives the value of a text, beside what the text gives.
use Rattle.std.proofs.Common.{Ok, ◌≡◌, ℕ, zero, suc, pred, ◌+◌, inl, inr, List, [], ◌∷◌, length, drop, drop-drop, nat_eq, nat_lt, Bool, true, false, cond, Option, None, Some, Result, Err, ltb-true, ltb-false, arith, refl, sym, ap, ◌∙◌, subst}
use Rattle.std.specs.Prelude.{◌↔◌}
use Rattle.std.proofs.Math.Seq.{drop-nil}
use Rattle.std.proofs.lemmas.Option.{none-some}
use Rattle.field_text.specs.FieldRecordOfValueText.{Field}
use Rattle.field_text.specs.FieldsOfValueText.{is_blank, field_len, next_field, plain_len, quoted_len, quote}
use Rattle.field_text.specs.RTypeRecord.{RType}
use Rattle.field_text.specs.FieldRecord as kind
use Rattle.field_text.specs.TailRecord.{Tail}
use Rattle.field_text.specs.Layout.{fields_of, tail_of}
use Rattle.field_text.specs.Laws as fields
use Rattle.field_text.specs.OctetsOfText.{octets_of_text}
use Rattle.rdata.specs.Datum.{Datum}
use Rattle.rdata.specs.Gives.{IsValueOfText, GivesText}
use Rattle.rdata.specs.Laws as laws
use Rattle.rdata.specs.TextFields.{AreTheFields, bytes_of}
use Rattle.rdata.specs.Reading.{Reads, ReadsFields, string_first, most_text}
use Rattle.rdata.specs.ValueOfText.{fields_from, fields_give, value_of_text}
use Rattle.rdata.specs.declared.faults.ValueFault.{ValueFault}
use Rattle.rdata.specs.declared.faults.ValueFault.TheVariants.{BadField, MissingField, SurplusField, TooLong, OutOfMemory}
use Rattle.rdata.proofs.One.{one_of_text}

-- where the next field is the same, the fields are
same_next : (text : List ℕ) (at later : ℕ) (fields : List Field)
    → next_field at (drop at text) ≡ next_field later (drop later text)
    → AreTheFields text later fields → AreTheFields text at fields
same_next text at later [] e h = e ∙ h
same_next text at later (field ∷ fields) e h = (e ∙ h.0, h.1)

some_bytes : (b : ℕ) (rest : List ℕ) → field_len (b ∷ rest) ≡ suc (pred (field_len (b ∷ rest)))
some_bytes b rest = go (nat_eq b quote)
  where
    go : (t : Bool)
        → cond t (suc (quoted_len false rest)) (suc (plain_len rest))
        ≡ suc (pred (cond t (suc (quoted_len false rest)) (suc (plain_len rest))))
    go true = refl
    go false = refl

module _ (text : List ℕ) where
  are_from : (rest : List ℕ) (passing at : ℕ) → drop at text ≡ rest
      → AreTheFields text (at + passing) (fields_from passing at rest)
  are_from [] passing at e =
      ap (next_field (at + passing)) (sym (drop-drop passing at text) ∙ ap (drop passing) e
      ∙ drop-nil passing)
  are_from (b ∷ rest) (suc passing) at e =
      let further : at + 1 + passing ≡ at + suc passing = omega arith in
      let next : drop (at + 1) text ≡ rest = sym (drop-drop 1 at text) ∙ ap (drop 1) e in
      subst (λ n. AreTheFields text n (fields_from passing (at + 1) rest)) further
      (are_from rest passing (at + 1) next)
  are_from (b ∷ rest) zero at e =
      let here : at ≡ at + 0 = omega arith in
      let next : drop (at + 1) text ≡ rest = sym (drop-drop 1 at text) ∙ ap (drop 1) e in
      subst (λ n. AreTheFields text n (fields_from zero at (b ∷ rest))) here
      (go next (λ passing. are_from rest passing (at + 1) next) (is_blank b) refl)
    where
      field : Field
      field = record { start = at; end = at + field_len (b ∷ rest) }

      behind : List Field
      behind = fields_from (pred (field_len (b ∷ rest))) (at + 1) rest

      go : drop (at + 1) text ≡ rest
          → ((passing : ℕ)
          → AreTheFields text (at + 1 + passing) (fields_from passing (at + 1) rest))
          → (t : Bool) → is_blank b ≡ t
          → AreTheFields text at (cond t (fields_from 0 (at + 1) rest) (field ∷ behind))
      go next later true blank =
          let skipped : next_field at (b ∷ rest) ≡ next_field (at + 1) rest =
          ap (λ t. cond t (next_field (at + 1) rest) (Some field)) blank in
          let one : at + 1 + 0 ≡ at + 1 = omega arith in
          same_next text at (at + 1) (fields_from 0 (at + 1) rest) (ap (next_field at) e ∙ skipped
          ∙ ap (next_field (at + 1)) (sym next))
          (subst (λ n. AreTheFields text n (fields_from 0 (at + 1) rest)) one (later 0))
      go next later false full =
          let found : next_field at (b ∷ rest) ≡ Some field =
          ap (λ t. cond t (next_field (at + 1) rest) (Some field)) full in
          let end : at + 1 + pred (field_len (b ∷ rest)) ≡ field.end =
          omega (arith, some_bytes b rest) in (
            ap (next_field at) e
                ∙ found,
            subst (λ n. AreTheFields text n behind) end
                (later (pred (field_len (b ∷ rest)))),
          )

  the_fields : AreTheFields text 0 (fields_from 0 0 text)
  the_fields = are_from text 0 0 refl

  module _ (law : fields.OctetsOfText) where
    fields_read : (kinds : List kind.Field) (end : Tail) (all : List Field)
        → ReadsFields text kinds end all (fields_give text kinds end all)
    fields_read [] end all = refl
    fields_read (first ∷ kinds) end [] = refl
    fields_read (first ∷ kinds) end (field ∷ all) =
        go (fields_read kinds end all) (octets_of_text first (bytes_of text field)) refl
      where
        rest : Result (List ℕ) ValueFault
        rest = fields_give text kinds end all

        go : ReadsFields text kinds end all rest → (o : Option (List ℕ))
            → octets_of_text first (bytes_of text field) ≡ o
            → ReadsFields text (first ∷ kinds) end (field ∷ all)
            (string_first field o (λ octets. octets) rest)
        go reads None e =
            inl (
              (λ octets h. none-some octets (sym e
                  ∙ (law first (bytes_of text field) octets).1 h)),
              refl,
            )
        go reads (Some octets) e =
            inr (octets, rest, (law first (bytes_of text field) octets).0 e, reads, refl)

    reads_value : (rtype : RType) → Reads rtype text (value_of_text rtype text)
    unfolding value_of_text
    reads_value rtype = go (nat_lt most_text (length text)) refl
      where
        given : Result (List ℕ) ValueFault
        given = fields_give text (fields_of rtype) (tail_of rtype) (fields_from 0 0 text)

        go : (t : Bool) → nat_lt most_text (length text) ≡ t
            → Reads rtype text (cond t (Err TooLong) given)
        go true e = inl (record { long = ltb-true most_text (length text) e; fault = refl })
        go false e = inr (record {
          short = ltb-false most_text (length text) e;
          fields = fields_from 0 0 text;
          all = the_fields;
          reads = fields_read (fields_of rtype) (tail_of rtype) (fields_from 0 0 text);
        })

pub value_is : fields.OctetsOfText → fields.OneReading
    → (rtype : RType) (text : List ℕ) (read : Result (List ℕ) ValueFault)
    → (value_of_text rtype text ≡ read) ↔ Reads rtype text read
value_is law one rtype text read = (
  λ e. subst (Reads rtype text) e (reads_value text law rtype),
  λ h. one_of_text one rtype text (value_of_text rtype text) read (reads_value text law rtype) h,
)

-- what reading a text answers
pub texts_read : laws.ValueOfText → (rtype : RType) (text : List ℕ) (read : Result Datum ValueFault)
    → GivesText rtype text read ↔ IsValueOfText rtype text read
texts_read law rtype text (Ok datum) = (
  λ h. (h.0, (law rtype text (Ok datum.wire)).1 h.1),
  λ h. (h.0, (law rtype text (Ok datum.wire)).0 h.1),
)
texts_read law rtype text (Err (BadField at)) =
    ((law rtype text (Err (BadField at))).1, (law rtype text (Err (BadField at))).0)
texts_read law rtype text (Err (MissingField at)) =
    ((law rtype text (Err (MissingField at))).1, (law rtype text (Err (MissingField at))).0)
texts_read law rtype text (Err (SurplusField at)) =
    ((law rtype text (Err (SurplusField at))).1, (law rtype text (Err (SurplusField at))).0)
texts_read law rtype text (Err TooLong) =
    ((law rtype text (Err TooLong)).1, (law rtype text (Err TooLong)).0)
texts_read law rtype text (Err OutOfMemory) = (λ h. h, λ h. h)
