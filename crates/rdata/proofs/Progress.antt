-- What is left of a text as it is read.
use Rattle.std.proofs.Common.{◌≡◌, ℕ, ◌+◌, ◌<◌, ◌≤◌, inl, inr, List, [], ◌∷◌, ◌++◌, length, drop, get_or, arith, ap, sym, ◌∙◌, refl, append_assoc, append-nil, length-append, length-drop, add-one, subst, None, Some, Result, Ok, Err}
use Rattle.std.proofs.Math.Seq.{drop-cons}
use Rattle.field_text.specs.FieldRecordOfValueText as text_field
use Rattle.field_text.specs.FieldsOfValueText.{next_field}
use Rattle.field_text.specs.Strings.{string_of_text}
use Rattle.field_text.specs.FieldRecord.{Field}
use Rattle.field_text.specs.TailRecord.TheVariants as tail
use Rattle.field_text.specs.Layout.{string_octets}
use Rattle.field_text.specs.Spelling.{Spells}
use Rattle.rdata.specs.TextFields.{bytes_of}
use Rattle.rdata.specs.Reading.{ReadsFields, tail_gives, strings_of, string_first, in_front, at_the_end}
use Rattle.rdata.specs.Steps.{ReadsUpTo, ReadsAll, ReadsTail, ReadsStrings, PassesStrings}
use Rattle.rdata.specs.declared.faults.ValueFault.{ValueFault}
use Rattle.rdata.specs.declared.faults.ValueFault.TheVariants.{BadField, MissingField, SurplusField}
use Rattle.rdata.proofs.Fields.{begins, none_left}

-- nothing in front, and two pieces in front
pub none_in_front : (read : Result (List ℕ) ValueFault) → in_front [] read ≡ read
none_in_front (Ok octets) = refl
none_in_front (Err fault) = refl

pub both_in_front : (octets more : List ℕ) (read : Result (List ℕ) ValueFault)
    → in_front octets (in_front more read) ≡ in_front (octets ++ more) read
both_in_front octets more (Ok rest) = ap Ok (sym (append_assoc octets more rest))
both_in_front octets more (Err fault) = refl

-- at the start all fields are left
pub starts : (text : List ℕ) (kinds : List Field) → ReadsUpTo text kinds kinds 0 []
starts text kinds end all are =
    record {
      left = all;
      fields = are;
      goes =
          λ read r. subst (λ x. ReadsFields text kinds end all x) (sym (none_in_front read)) r;
    }

-- the kinds from a place on
kinds_at : (kinds : List Field) (i : ℕ) (none : Field) → i < length kinds
    → drop i kinds ≡ get_or kinds i none ∷ drop (i + 1) kinds
kinds_at kinds i none h = drop-cons kinds i none h
    ∙ ap (λ k. get_or kinds i none ∷ drop k kinds) (sym (add-one i))

-- a field of the kind that comes next is passed
pub passes : (text : List ℕ) (kinds : List Field) (i at : ℕ) (none : Field)
    (octets piece bytes after : List ℕ) (field : text_field.Field)
    → i < length kinds
    → next_field at (drop at text) ≡ Some field → bytes ≡ bytes_of text field
    → Spells (get_or kinds i none) bytes piece → after ≡ octets ++ piece
    → ReadsUpTo text kinds (drop i kinds) at octets
    → ReadsUpTo text kinds (drop (i + 1) kinds) field.end after
passes text kinds i at none octets piece bytes after field some next part spelled whole before end
    all are =
    let l = before end all are in
    let b = begins text at field l.left next l.fields in
    let spelled_here : Spells (get_or kinds i none) (bytes_of text field) piece =
    subst (λ t. Spells (get_or kinds i none) t piece) part spelled in
    record {
      left = b.rest;
      fields = b.are;
      goes = λ read r.
          subst (λ x. ReadsFields text kinds end all x) (both_in_front octets piece read
          ∙ ap (λ t. in_front t read) (sym whole))
          (l.goes (in_front piece read)
          (subst (λ ks. ReadsFields text ks end l.left (in_front piece read))
          (sym (kinds_at kinds i none some))
          (subst (λ fs. ReadsFields text (get_or kinds i none ∷ drop (i + 1) kinds) end fs
          (in_front piece read)) (sym b.whole)
          (inr (piece, read, spelled_here, r, refl)))));
    }

-- the next field is of another kind
pub meets_other : (text : List ℕ) (kinds : List Field) (i at : ℕ) (none : Field)
    (octets bytes : List ℕ) (field : text_field.Field) → i < length kinds
    → next_field at (drop at text) ≡ Some field → bytes ≡ bytes_of text field
    → ((piece : List ℕ) → Spells (get_or kinds i none) bytes piece → ⊥)
    → ReadsUpTo text kinds (drop i kinds) at octets → ReadsAll text kinds (Err (BadField field.start))
meets_other text kinds i at none octets bytes field some next part spelled before end all are =
    let l = before end all are in
    let b = begins text at field l.left next l.fields in
    l.goes (Err (BadField field.start))
    (subst (λ ks. ReadsFields text ks end l.left (Err (BadField field.start)))
    (sym (kinds_at kinds i none some))
    (subst (λ fs. ReadsFields text (get_or kinds i none ∷ drop (i + 1) kinds) end fs
    (Err (BadField field.start))) (sym b.whole)
    (inl (
      (λ piece h.
          spelled piece (subst (λ t. Spells (get_or kinds i none) t piece) (sym part) h)),
      refl,
    ))))

-- there is no next field
pub meets_none : (text : List ℕ) (kinds : List Field) (i at : ℕ) (none : Field) (octets : List ℕ)
    → i < length kinds
    → next_field at (drop at text) ≡ None
    → ReadsUpTo text kinds (drop i kinds) at octets
    → ReadsAll text kinds (Err (MissingField (length text)))
meets_none text kinds i at none octets some next before end all are =
    let l = before end all are in
    l.goes (Err (MissingField (length text)))
    (subst (λ ks. ReadsFields text ks end l.left (Err (MissingField (length text))))
    (sym (kinds_at kinds i none some))
    (subst (λ fs. ReadsFields text (get_or kinds i none ∷ drop (i + 1) kinds) end fs
    (Err (MissingField (length text))))
    (sym (none_left text at l.left next l.fields))
    refl))

-- the end of a text, and a field too many
pub no_surplus : (text : List ℕ) (at : ℕ) → next_field at (drop at text) ≡ None
    → ReadsTail text at tail.Nothing (Ok [])
no_surplus text at next left are = ap at_the_end (none_left text at left next are)

pub surplus : (text : List ℕ) (at : ℕ) (field : text_field.Field)
    → next_field at (drop at text) ≡ Some field
    → ReadsTail text at tail.Nothing (Err (SurplusField field.start))
surplus text at field next left are = ap at_the_end (begins text at field left next are).whole

-- no string at all
pub no_strings : (text : List ℕ) (at : ℕ) → next_field at (drop at text) ≡ None
    → ReadsTail text at tail.Strings (Err (MissingField (length text)))
no_strings text at next left are =
    ap (tail_gives text tail.Strings) (none_left text at left next are)

pub no_value : (text : List ℕ) (at : ℕ) → next_field at (drop at text) ≡ None
    → ReadsTail text at tail.Value (Err (MissingField (length text)))
no_value text at next left are = ap (tail_gives text tail.Value) (none_left text at left next are)

-- one string or more are strings
pub some_strings : (text : List ℕ) (at : ℕ) (field : text_field.Field)
    (read : Result (List ℕ) ValueFault) → next_field at (drop at text) ≡ Some field
    → ReadsStrings text at read → ReadsTail text at tail.Strings read
some_strings text at field read next reads left are =
    let b = begins text at field left next are in
    ap (tail_gives text tail.Strings) b.whole ∙ ap (strings_of text) (sym b.whole) ∙ reads left are

-- a value, with nothing behind it or too much
pub bad_value : (text bytes : List ℕ) (at : ℕ) (field : text_field.Field)
    → next_field at (drop at text) ≡ Some field → bytes ≡ bytes_of text field
    → string_of_text bytes ≡ None → ReadsTail text at tail.Value (Err (BadField field.start))
bad_value text bytes at field next part none left are =
    let b = begins text at field left next are in
    ap (tail_gives text tail.Value) b.whole
    ∙ ap (λ o. string_first field o (λ s. s) (at_the_end b.rest)) (ap string_of_text (sym part)
    ∙ none)

pub value_read : (text bytes string : List ℕ) (at : ℕ) (field : text_field.Field)
    (read : Result (List ℕ) ValueFault)
    → next_field at (drop at text) ≡ Some field → bytes ≡ bytes_of text field
    → string_of_text bytes ≡ Some string
    → ReadsTail text field.end tail.Nothing read
    → ReadsTail text at tail.Value (in_front string read)
value_read text bytes string at field read next part some reads left are =
    let b = begins text at field left next are in
    ap (tail_gives text tail.Value) b.whole
    ∙ ap (λ o. string_first field o (λ s. s) (at_the_end b.rest)) (ap string_of_text (sym part)
    ∙ some)
    ∙ ap (in_front string) (reads b.rest b.are)

-- strings: none so far, one more, the end, and a field that is none
pub strings_start : (text before : List ℕ) (at : ℕ) → at ≤ length text
    → PassesStrings text at at before before
strings_start text before at h =
    record {
      octets = [];
      appended = sym (append-nil before);
      size = omega arith;
      within = h;
      left =
          λ fields are. record {
            left = fields;
            are = are;
            goes =
                sym (none_in_front (strings_of text fields));
          };
    }

pub strings_pass : (text before after more string bytes : List ℕ) (from at : ℕ)
    (field : text_field.Field) → PassesStrings text from at before after
    → next_field at (drop at text) ≡ Some field → bytes ≡ bytes_of text field
    → string_of_text bytes ≡ Some string
    → at + length string + 1 ≤ field.end → field.end ≤ length text
    → more ≡ after ++ string_octets string → PassesStrings text from field.end before more
strings_pass text before after more string bytes from at field p next part some size within e =
    record {
      octets = p.octets ++ string_octets string;
      appended = e ∙ ap (λ t. t ++ string_octets string) p.appended
          ∙ append_assoc before p.octets (string_octets string);
      size = omega (arith, p.size, size, length-append p.octets (string_octets string));
      within = within;
      left = λ fields are.
          let l = p.left fields are in
          let b = begins text at field l.left next l.are in
          let first : strings_of text l.left
          ≡ in_front (string_octets string) (strings_of text b.rest) =
          ap (strings_of text) b.whole
          ∙ ap (λ o. string_first field o string_octets (strings_of text b.rest))
          (ap string_of_text (sym part) ∙ some) in
          record {
            left = b.rest;
            are = b.are;
            goes = l.goes ∙ ap (in_front p.octets) first
                ∙ both_in_front p.octets (string_octets string)
                (strings_of text b.rest);
          };
    }

pub strings_end : (text before after : List ℕ) (from at : ℕ)
    → PassesStrings text from at before after → next_field at (drop at text) ≡ None
    → (octets : List ℕ) × (after ≡ before ++ octets) × ReadsStrings text from (Ok octets)
    × (length octets ≤ length text)
strings_end text before after from at p next = (
  p.octets,
  p.appended,
  (λ left are. let l = p.left left are in l.goes
      ∙ ap (λ fs. in_front p.octets (strings_of text fs)) (none_left text at l.left next l.are)
      ∙ ap Ok (append-nil p.octets)),
  omega (arith, p.size, p.within),
)

pub strings_bad : (text before after bytes : List ℕ) (from at : ℕ) (field : text_field.Field)
    → PassesStrings text from at before after
    → next_field at (drop at text) ≡ Some field → bytes ≡ bytes_of text field
    → string_of_text bytes ≡ None
    → ReadsStrings text from (Err (BadField field.start))
strings_bad text before after bytes from at field p next part none left are =
    let l = p.left left are in
    let b = begins text at field l.left next l.are in
    l.goes ∙ ap (in_front p.octets)
    (ap (strings_of text) b.whole
    ∙ ap (λ o. string_first field o string_octets (strings_of text b.rest))
    (ap string_of_text (sym part) ∙ none))

-- behind the last kind none is left
pub drop_all : {X : Type 0} (xs : List X) (i : ℕ) → length xs ≤ i → drop i xs ≡ []
drop_all {X = X} xs i h = none (drop i xs) (omega (arith, length-drop i xs, h))
  where
    none : (ys : List X) → length ys ≡ 0 → ys ≡ []
    none [] e = refl
    none (y ∷ ys) e = absurd (omega (arith, e))
