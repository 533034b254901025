-- What a text gives is in its type's layout.
use Rattle.std.proofs.Common.{◌≡◌, ℕ, ◌*◌, ◌<◌, ◌≤◌, inl, inr, List, [], ◌∷◌, ◌++◌, length, arith, ap, sym, ◌∙◌, refl, length-append, Bool, true, false, cond, Option, None, Some, Result, Ok, Err, subst}
use Rattle.std.specs.Prelude.{nat_le}
use Rattle.std.proofs.lemmas.Bool.{leb-true}
use Rattle.field_text.specs.FieldRecordOfValueText as text_field
use Rattle.field_text.specs.Strings.{string_of_text, at_the_end, read_from, Progress}
use Rattle.field_text.specs.Strings.Progress.{Opening, Reading, Closed, Broken}
use Rattle.field_text.specs.RTypeRecord.{RType}
use Rattle.field_text.specs.RTypeRecord.TheVariants.{A, Ns, Cname, Soa, Ptr, Mx, Txt, Aaaa, Srv, Spf, Caa}
use Rattle.field_text.specs.FieldRecord.{Field}
use Rattle.field_text.specs.TailRecord.{Tail}
use Rattle.field_text.specs.TailRecord.TheVariants as tail
use Rattle.field_text.specs.Layout.{fields_of, tail_of, string_octets, AreStrings, IsTail, AreFields, most_octets}
use Rattle.field_text.specs.Laws.{SpelledIsField}
use Rattle.rdata.specs.TextFields.{bytes_of}
use Rattle.rdata.specs.Reading as reading
use Rattle.rdata.specs.Reading.{ReadsFields, tail_gives, strings_of, string_first, in_front, most_text}
use Rattle.rdata.specs.Steps.{tail_most}
use Rattle.rdata.specs.declared.faults.ValueFault.{ValueFault}

abbrev octets_of : Result (List ℕ) ValueFault → List ℕ → List ℕ
octets_of (Ok octets) other = octets
octets_of (Err fault) other = other

-- octets in front of others
pub record Front (first : List ℕ) (read : Result (List ℕ) ValueFault) (octets : List ℕ) : Type 0
  where
    pub rest : List ℕ
    pub read_is : read ≡ Ok rest
    pub whole : octets ≡ first ++ rest

pub front_of : (first : List ℕ) (read : Result (List ℕ) ValueFault) (octets : List ℕ)
    → in_front first read ≡ Ok octets → Front first read octets
front_of first (Ok rest) octets e =
    record { rest = rest; read_is = refl; whole = ap (λ r. octets_of r octets) (sym e) }
front_of first (Err fault) octets e = absurd cc

-- a string in front of others
pub record FirstString (o : Option (List ℕ)) (spell : List ℕ
    → List ℕ) (read : Result (List ℕ) ValueFault) (octets : List ℕ) : Type 0 where
  pub string : List ℕ
  pub is : o ≡ Some string
  pub front : Front (spell string) read octets

first_string : (field : text_field.Field) (o : Option (List ℕ)) (spell : List ℕ
    → List ℕ) (read : Result (List ℕ) ValueFault) (octets : List ℕ)
    → string_first field o spell read ≡ Ok octets → FirstString o spell read octets
first_string field None spell read octets e = absurd cc
first_string field (Some string) spell read octets e =
    record { string = string; is = refl; front = front_of (spell string) read octets e }

abbrev string_in : Option (List ℕ) → List ℕ → List ℕ
string_in None other = other
string_in (Some string) other = string

-- a string that was read has at most 255 bytes
pub short_string : (text string : List ℕ) → string_of_text text ≡ Some string → length string ≤ 255
short_string text string e = go (read_from Opening text) e
  where
    closed : (s : List ℕ) (t : Bool) → nat_le (length s) 255 ≡ t
        → cond t (Some s) None ≡ Some string → length string ≤ 255
    closed s true b h =
        subst (λ x. length x ≤ 255) (ap (λ o. string_in o s) h) (leb-true (length s) 255 b)
    closed s false b h = absurd cc

    go : (p : Progress) → at_the_end p ≡ Some string → length string ≤ 255
    go Opening h = absurd cc
    go (Reading passing s) h = absurd cc
    go (Closed s) h = closed s (nat_le (length s) 255) refl h
    go Broken h = absurd cc

strings_layout : (text : List ℕ) (fields : List text_field.Field) (octets : List ℕ)
    → strings_of text fields ≡ Ok octets → AreStrings octets
strings_layout text [] octets e =
    record { strings = []; each = tt; spelled = ap (λ r. octets_of r octets) (sym e) }
strings_layout text (field ∷ fields) octets e =
    let f = first_string field (string_of_text (bytes_of text field)) string_octets
    (strings_of text fields) octets e in
    let rest = strings_layout text fields f.front.rest f.front.read_is in
    record {
      strings = f.string ∷ rest.strings;
      each = (short_string (bytes_of text field) f.string f.is, rest.each);
      spelled = f.front.whole ∙ ap (λ t. string_octets f.string ++ t) rest.spelled;
    }

some_octets : (text : List ℕ) (field : text_field.Field) (fields : List text_field.Field)
    (octets : List ℕ)
    → strings_of text (field ∷ fields) ≡ Ok octets → 0 < length octets
some_octets text field fields octets e =
    let f = first_string field (string_of_text (bytes_of text field)) string_octets
    (strings_of text fields) octets e in
    omega (arith, ap length f.front.whole, length-append (string_octets f.string) f.front.rest)

at_end : (fields : List text_field.Field) (octets : List ℕ) → reading.at_the_end fields ≡ Ok octets
    → octets ≡ []
at_end [] octets e = ap (λ r. octets_of r octets) (sym e)
at_end (field ∷ fields) octets e = absurd cc

pub tail_layout : (text : List ℕ) (end : Tail) (fields : List text_field.Field) (octets : List ℕ)
    → tail_gives text end fields ≡ Ok octets
    → IsTail end octets
tail_layout text tail.Nothing fields octets e = at_end fields octets e
tail_layout text tail.Strings [] octets e = absurd cc
tail_layout text tail.Strings (field ∷ fields) octets e =
    (some_octets text field fields octets e, strings_layout text (field ∷ fields) octets e)
tail_layout text tail.Value [] octets e = absurd cc
tail_layout text tail.Value (field ∷ fields) octets e =
    let f = first_string field (string_of_text (bytes_of text field)) (λ s. s)
    (reading.at_the_end fields) octets e in
    let none = at_end fields f.front.rest f.front.read_is in
    omega (
      arith,
      ap length f.front.whole,
      length-append f.string f.front.rest,
      ap length none,
      short_string (bytes_of text field) f.string f.is,
    )

pub fields_layout : SpelledIsField
    → (text : List ℕ) (kinds : List Field) (end : Tail) (fields : List text_field.Field)
    (octets : List ℕ)
    → ReadsFields text kinds end fields (Ok octets) → AreFields kinds end octets
fields_layout law text [] end fields octets e = tail_layout text end fields octets (sym e)
fields_layout law text (kind ∷ kinds) end [] octets e = absurd cc
fields_layout law text (kind ∷ kinds) end (field ∷ fields) octets (inl b) = let e = b.1 in absurd cc
fields_layout law text (kind ∷ kinds) end (field ∷ fields) octets (inr b) =
    let f = front_of b.0 b.1 octets (sym b.4) in
    let rest =
    fields_layout law text kinds end fields f.rest
    (subst (λ r. ReadsFields text kinds end fields r) f.read_is b.3) in
    (b.0, f.rest, (law kind (bytes_of text field) b.0 b.2).0, f.whole, rest)

-- the octets of a text that isn't too long are not too many
pub few_octets : (rtype : RType) (text first rest octets : List ℕ) → length text ≤ most_text
    → length first ≤ 255 * length (fields_of rtype)
    → length rest ≤ tail_most text (tail_of rtype) → octets ≡ first ++ rest
    → length octets ≤ most_octets
few_octets A text first rest octets t f r e =
    omega (arith, f, r, ap length e, length-append first rest)
few_octets Ns text first rest octets t f r e =
    omega (arith, f, r, ap length e, length-append first rest)
few_octets Cname text first rest octets t f r e =
    omega (arith, f, r, ap length e, length-append first rest)
few_octets Soa text first rest octets t f r e =
    omega (arith, f, r, ap length e, length-append first rest)
few_octets Ptr text first rest octets t f r e =
    omega (arith, f, r, ap length e, length-append first rest)
few_octets Mx text first rest octets t f r e =
    omega (arith, f, r, ap length e, length-append first rest)
few_octets Txt text first rest octets t f r e =
    omega (arith, t, f, r, ap length e, length-append first rest)
few_octets Aaaa text first rest octets t f r e =
    omega (arith, f, r, ap length e, length-append first rest)
few_octets Srv text first rest octets t f r e =
    omega (arith, f, r, ap length e, length-append first rest)
few_octets Spf text first rest octets t f r e =
    omega (arith, t, f, r, ap length e, length-append first rest)
few_octets Caa text first rest octets t f r e =
    omega (arith, f, r, ap length e, length-append first rest)
