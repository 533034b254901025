-- The octets that a text gives are in the layout of the type.
use Rattle.std.proofs.Common.{◌≡◌, ℕ, zero, suc, ◌+◌, ◌*◌, ◌-◌, ◌≤◌, inl, inr, List, [], ◌∷◌, ◌++◌, length, take, drop, length-append, length-drop}
use Rattle.std.proofs.Common.{append_assoc, arith, ap, sym, ◌∙◌, refl, Bool, true, false, cond, Option, None, Some, Result, Ok, subst, nat_eq}
use Rattle.std.specs.Prelude.{nat_le}
use Rattle.value_text.specs.declared.fields.Field as text_field
use Rattle.value_text.specs.Fields.{quote}
use Rattle.value_text.specs.Laws.{FieldsGoOn}
use Rattle.value_text.specs.Strings.{Progress, add_character, at_the_end, character, read_from, string_of_text}
use Rattle.value_text.specs.Strings.Progress.{Opening, Reading, Closed, Broken}
use Rattle.rdata_layout.specs.declared.types.RType.{RType}
use Rattle.rdata_layout.specs.declared.fields.Field.{Field}
use Rattle.rdata_layout.specs.declared.fields.Tail.{Tail}
use Rattle.rdata_layout.specs.declared.fields.Tail.TheVariants as tail
use Rattle.rdata_layout.specs.Layout.{IsLayout, fields_of, string_octets, tail_of}
use Rattle.field_text.specs.Laws.{SpelledIsField}
use Rattle.rdata.specs.Laws.{ValueOfText}
use Rattle.rdata.specs.Reading as reading
use Rattle.rdata.specs.Reading.{IsRead, Reads, ReadsFields, string_first, strings_of, tail_gives}
use Rattle.rdata.specs.Steps.{tail_most}
use Rattle.rdata.specs.declared.faults.ValueFault.{ValueFault}
use Rattle.rdata.specs.TextFields.{AreTheFields, bytes_of}
use Rattle.line_bounds.specs.Laws.{TextsAreValues}
use Rattle.rdata.proofs.Layouts.{Front, few_octets, fields_layout, front_of, short_string}

-- ---- a string is two bytes shorter than its text

broken : (text string : List ℕ) → read_from Broken text ≡ Closed string → ⊥
broken [] string e = absurd cc
broken (b ∷ rest) string e = broken rest string e

nothing_behind : (text done string : List ℕ) → read_from (Closed done) text ≡ Closed string
    → length string ≤ length done
nothing_behind [] done string e = let s : done ≡ string = cc in omega (arith, ap length s)
nothing_behind (b ∷ rest) done string e = absurd (broken rest string e)

one_byte_more : (text done string : List ℕ) (passing : ℕ)
    → read_from (Reading passing done) text ≡ Closed string
    → length string + 1 ≤ length done + length text
one_byte_more [] done string passing e = absurd cc
one_byte_more (b ∷ rest) done string (suc passing) e =
    omega (arith, one_byte_more rest done string passing e)
one_byte_more (b ∷ rest) done string zero e =
    at_byte (λ more further h. one_byte_more rest further string more h) (nat_eq b quote) e
  where
    added : ((more : ℕ) (further : List ℕ) → read_from (Reading more further) rest ≡ Closed string
        → length string + 1 ≤ length further + length rest) → (c : Option _)
        → read_from (add_character done c) rest ≡ Closed string
        → length string + 1 ≤ length done + length (b ∷ rest)
    added later None h = absurd (broken rest string h)
    added later (Some c) h =
        omega (arith, later c.more (done ++ c.value ∷ []) h, length-append done (c.value ∷ []))

    at_byte : ((more : ℕ) (further : List ℕ) → read_from (Reading more further) rest ≡ Closed string
        → length string + 1 ≤ length further + length rest) → (t : Bool)
        → read_from (cond t (Closed done) (add_character done (character b rest))) rest
        ≡ Closed string
        → length string + 1 ≤ length done + length (b ∷ rest)
    at_byte later true h = omega (arith, nothing_behind rest done string h)
    at_byte later false h = added later (character b rest) h

closed_in_quotes : (text string : List ℕ) → read_from Opening text ≡ Closed string
    → length string + 2 ≤ length text
closed_in_quotes [] string e = absurd cc
closed_in_quotes (b ∷ rest) string e = at_byte (nat_eq b quote) e
  where
    at_byte : (t : Bool) → read_from (cond t (Reading 0 []) Broken) rest ≡ Closed string
        → length string + 2 ≤ length (b ∷ rest)
    at_byte true h = omega (arith, one_byte_more rest [] string 0 h)
    at_byte false h = absurd (broken rest string h)

in_quotes : (text string : List ℕ) → string_of_text text ≡ Some string
    → length string + 2 ≤ length text
in_quotes text string e = ended (read_from Opening text) refl e
  where
    kept : (done : List ℕ) (t : Bool) → cond t (Some done) None ≡ Some string → done ≡ string
    kept done true h = cc
    kept done false h = absurd cc

    ended : (p : Progress) → read_from Opening text ≡ p → at_the_end p ≡ Some string
        → length string + 2 ≤ length text
    ended Opening r h = absurd cc
    ended (Reading passing done) r h = absurd cc
    ended (Closed done) r h =
        let same : done ≡ string = kept done (nat_le (length done) 255) h in
        omega (arith, closed_in_quotes text done r, ap length same)
    ended Broken r h = absurd cc

-- ---- so the strings of a text have no more octets than the text

few_bytes : (text : List ℕ) (field : text_field.Field)
    → length (bytes_of text field) ≤ field.end - field.start
few_bytes text field = length-take-le' (field.end - field.start) (drop field.start text)
  where
    length-take-le' : (n : ℕ) (xs : List ℕ) → length (take n xs) ≤ n
    length-take-le' zero xs = omega arith
    length-take-le' (suc n) [] = omega arith
    length-take-le' (suc n) (x ∷ xs) = omega (arith, length-take-le' n xs)

-- a string that was read, in front of what the rest gives
record FirstString (o : Option (List ℕ)) (spell : List ℕ → List ℕ)
    (read : Result (List ℕ) ValueFault) (octets : List ℕ) : Type 0 where
  string : List ℕ
  is : o ≡ Some string
  front : Front (spell string) read octets

first_string : (field : text_field.Field) (o : Option (List ℕ)) (spell : List ℕ → List ℕ)
    (read : Result (List ℕ) ValueFault) (octets : List ℕ)
    → string_first field o spell read ≡ Ok octets → FirstString o spell read octets
first_string field None spell read octets e = absurd cc
first_string field (Some string) spell read octets e =
    record { string = string; is = refl; front = front_of (spell string) read octets e }

few_strings : FieldsGoOn → (text : List ℕ) (at : ℕ) (fields : List text_field.Field)
    (octets : List ℕ) → at ≤ length text → AreTheFields text at fields
    → strings_of text fields ≡ Ok octets → length octets + at ≤ length text
few_strings go text at [] octets within are e =
    let none : [] ≡ octets = cc in omega (arith, within, ap length none)
few_strings go text at (field ∷ fields) octets within are e =
    let f = first_string field (string_of_text (bytes_of text field)) string_octets
    (strings_of text fields) octets e in
    let g = go at (drop at text) field are.0 in
    let end : field.end ≤ length text = omega (arith, within, g.2, length-drop at text) in
    omega (
      arith,
      g.0,
      g.1,
      few_bytes text field,
      in_quotes (bytes_of text field) f.string f.is,
      few_strings go text field.end fields f.front.rest end are.1 f.front.read_is,
      ap length f.front.whole,
      length-append (string_octets f.string) f.front.rest,
    )

no_octets : (fields : List text_field.Field) (octets : List ℕ)
    → reading.at_the_end fields ≡ Ok octets → octets ≡ []
no_octets [] octets e = cc
no_octets (field ∷ fields) octets e = absurd cc

few_in_tail : FieldsGoOn → (text : List ℕ) (at : ℕ) (end : Tail) (fields : List text_field.Field)
    (octets : List ℕ) → at ≤ length text → AreTheFields text at fields
    → tail_gives text end fields ≡ Ok octets → length octets ≤ tail_most text end
few_in_tail go text at tail.Nothing fields octets within are e =
    omega (arith, ap length (no_octets fields octets e))
few_in_tail go text at tail.Strings [] octets within are e = absurd cc
few_in_tail go text at tail.Strings (field ∷ fields) octets within are e =
    omega (arith, few_strings go text at (field ∷ fields) octets within are e)
few_in_tail go text at tail.Value [] octets within are e = absurd cc
few_in_tail go text at tail.Value (field ∷ fields) octets within are e =
    let f = first_string field (string_of_text (bytes_of text field)) (λ s. s)
    (reading.at_the_end fields) octets e in
    omega (
      arith,
      ap length f.front.whole,
      length-append f.string f.front.rest,
      ap length (no_octets fields f.front.rest f.front.read_is),
      short_string (bytes_of text field) f.string f.is,
    )

-- ---- the octets of the first fields, and those of the tail

record Parts (text : List ℕ) (kinds : List Field) (end : Tail) (octets : List ℕ) : Type 0 where
  first : List ℕ
  rest : List ℕ
  few : length first ≤ 255 * length kinds
  most : length rest ≤ tail_most text end
  whole : octets ≡ first ++ rest

parts_of : SpelledIsField → FieldsGoOn → (text : List ℕ) (at : ℕ) (kinds : List Field) (end : Tail)
    (fields : List text_field.Field) (octets : List ℕ) → at ≤ length text
    → AreTheFields text at fields → ReadsFields text kinds end fields (Ok octets)
    → Parts text kinds end octets
parts_of law go text at [] end fields octets within are e = record {
  first = [];
  rest = octets;
  few = omega arith;
  most = few_in_tail go text at end fields octets within are (sym e);
  whole = refl;
}
parts_of law go text at (kind ∷ kinds) end [] octets within are e = absurd cc
parts_of law go text at (kind ∷ kinds) end (field ∷ fields) octets within are (inl b) =
    let e = b.1 in absurd cc
parts_of law go text at (kind ∷ kinds) end (field ∷ fields) octets within are (inr b) =
    let f = front_of b.0 b.1 octets (sym b.4) in
    let g = go at (drop at text) field are.0 in
    let last : field.end ≤ length text = omega (arith, within, g.2, length-drop at text) in
    let p =
    parts_of law go text field.end kinds end fields f.rest last are.1
    (subst (λ r. ReadsFields text kinds end fields r) f.read_is b.3) in
    record {
      first = b.0 ++ p.first;
      rest = p.rest;
      few = omega (
        arith,
        p.few,
        length-append b.0 p.first,
        (law kind (bytes_of text field) b.0 b.2).1,
      );
      most = p.most;
      whole = f.whole ∙ ap (λ t. b.0 ++ t) p.whole ∙ sym (append_assoc b.0 p.first p.rest);
    }

layout_of : SpelledIsField → FieldsGoOn → (rtype : RType) (text octets : List ℕ)
    → IsRead rtype text (Ok octets) → IsLayout rtype octets
layout_of law go rtype text octets read =
    let p =
    parts_of law go text 0 (fields_of rtype) (tail_of rtype) read.fields octets (omega arith)
    read.all read.reads in
    record {
      short = few_octets rtype text p.first p.rest octets read.short p.few p.most p.whole;
      fields =
          fields_layout law text (fields_of rtype) (tail_of rtype) read.fields octets read.reads;
    }

pub are_values : SpelledIsField → FieldsGoOn → ValueOfText → TextsAreValues
are_values law go value rtype text octets e = read ((value rtype text (Ok octets)).0 e)
  where
    read : Reads rtype text (Ok octets) → IsLayout rtype octets
    read (inl h) = let f = h.fault in absurd cc
    read (inr h) = layout_of law go rtype text octets h
