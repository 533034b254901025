-- The fields of a text, as blanks part them and as they are looked for.
use Rattle.std.proofs.Common.{◌≡◌, ℕ, zero, suc, ◌+◌, ◌-◌, ◌≤◌, List, [], ◌∷◌, ◌++◌, length, take, drop, arith, ap, ◌∙◌, sym, refl, subst, inl, inr}
use Rattle.std.proofs.Common.{true, false, map, append-nil, append_assoc, length-append, drop-drop, None, Some}
use Rattle.std.specs.Prelude.{◌⊎◌, ◌↔◌, ◌==◌}
use Rattle.std.specs.List.{AllByRecursion, concat}
use Rattle.std.proofs.lemmas.Bool.{or_cases, or_left, or_right, eq-eqb, ne_eqb, eqb-true}
use Rattle.std.proofs.lemmas.Bool.{cond-true, cond-false, cases_Bool, cases_eq, both_ways, false_from_ne_true}
use Rattle.std.proofs.lemmas.List.{drop_at, take_at}
use Rattle.value_text.specs.declared.fields.Field.{Field}
use Rattle.value_text.specs.Fields.{is_blank, plain_len, quoted_len, field_len, next_field}
use Rattle.rdata.specs.TextFields.{bytes_of, AreTheFields}
use Rattle.rdata.proofs.One.{same_fields}
use Rattle.text_meanings.specs.Characters.{backslash}
use Rattle.text_meanings.specs.Strings.{quote}
use Rattle.text_meanings.specs.Fields.{IsBlank, IsUnit, AreUnits, EndsField, IsPlainField, IsClosedField}
use Rattle.text_meanings.specs.Fields.{IsOpenField, IsField, FieldText, HasFields, places, HaveBytes}

-- blanks
blank_seen : (b : ℕ) → IsBlank b → is_blank b ≡ true
blank_seen b h = elim h [
  | inl e ↦ or_left (b == 0x20) (b == 0x09) (eq-eqb b 0x20 e)
  | inr e ↦ or_right (b == 0x20) (b == 0x09) (eq-eqb b 0x09 e)
]

seen_blank : (b : ℕ) → is_blank b ≡ true → IsBlank b
seen_blank b h = elim (or_cases (b == 0x20) (b == 0x09) h) [
  | inl e ↦ inl (eqb-true b 0x20 e)
  | inr e ↦ inr (eqb-true b 0x09 e)
]

no_blank_seen : (b : ℕ) → (IsBlank b → ⊥) → is_blank b ≡ false
no_blank_seen b h = false_from_ne_true (is_blank b) (λ e. h (seen_blank b e))

past_blanks : (blanks rest : List ℕ) (at : ℕ) → AllByRecursion IsBlank blanks
    → next_field at (blanks ++ rest) ≡ next_field (at + length blanks) rest
past_blanks [] rest at h = ap (λ n. next_field n rest) (let e : at ≡ at + 0 = omega arith in e)
past_blanks (b ∷ blanks) rest at h =
    let seen = blank_seen b h.0 in
    cond-true (is_blank b) (next_field (at + 1) (blanks ++ rest)) _ seen
    ∙ past_blanks blanks rest (at + 1) h.1
    ∙ ap (λ n. next_field n rest)
    (let e : at + 1 + length blanks ≡ at + suc (length blanks) = omega arith in e)

blanks_alone : (text : List ℕ) (at : ℕ) → AllByRecursion IsBlank text → next_field at text ≡ None
blanks_alone text at h =
    ap (next_field at) (sym (append-nil text)) ∙ past_blanks text [] at h

-- how long fields are
plain_size : (more rest : List ℕ) → AllByRecursion (λ b. IsBlank b → ⊥) more → EndsField rest
    → plain_len (more ++ rest) ≡ length more
plain_size [] [] h ends = refl
plain_size [] (b ∷ rest) h ends =
    cond-true (is_blank b) 0 (suc (plain_len rest)) (blank_seen b ends)
plain_size (b ∷ more) rest h ends =
    cond-false (is_blank b) 0 (suc (plain_len (more ++ rest))) (no_blank_seen b h.0)
    ∙ ap suc (plain_size more rest h.1 ends)

unit_size : (piece rest : List ℕ) → IsUnit piece
    → quoted_len false (piece ++ rest) ≡ length piece + quoted_len false rest
unit_size piece rest u = elim u [
  | inl e ↦
      let q = ne_eqb e.0 quote e.1 in
      let s = ne_eqb e.0 backslash e.2 in
      let step : quoted_len false (e.0 ∷ rest) ≡ 1 + quoted_len false rest =
      rw (q, s) (let k : suc (quoted_len false rest) ≡ 1 + quoted_len false rest = omega arith in k) in
      ap (λ t. quoted_len false (t ++ rest)) e.3 ∙ step
      ∙ ap (λ t. length t + quoted_len false rest) (sym e.3)
  | inr e ↦
      let step : suc (suc (quoted_len false rest)) ≡ 2 + quoted_len false rest = omega arith in
      ap (λ t. quoted_len false (t ++ rest)) e.1 ∙ step
      ∙ ap (λ t. length t + quoted_len false rest) (sym e.1)
]

units_size : (pieces : List (List ℕ)) (rest : List ℕ) → AllByRecursion IsUnit pieces
    → quoted_len false (concat pieces ++ rest) ≡ length (concat pieces) + quoted_len false rest
units_size [] rest h = let e : quoted_len false rest ≡ 0 + quoted_len false rest = omega arith in e
units_size (piece ∷ pieces) rest h =
    let more = units_size pieces rest h.1 in
    let sum : length piece + (length (concat pieces) + quoted_len false rest)
    ≡ length (piece ++ concat pieces) + quoted_len false rest =
    omega (arith, length-append piece (concat pieces)) in
    ap (quoted_len false) (append_assoc piece (concat pieces) rest)
    ∙ unit_size piece (concat pieces ++ rest) h.0 ∙ ap (λ n. length piece + n) more ∙ sum

inside_size : (inside rest : List ℕ) → AreUnits inside
    → quoted_len false (inside ++ rest) ≡ length inside + quoted_len false rest
inside_size inside rest u =
    ap (λ t. quoted_len false (t ++ rest)) u.together ∙ units_size u.pieces rest u.each
    ∙ ap (λ t. length t + quoted_len false rest) (sym u.together)

-- A field as it is looked for: it doesn't begin with a blank, and it is so long.
record IsNext (bytes rest : List ℕ) : Type 0 where
  first : ℕ
  more : List ℕ
  all : bytes ≡ first ∷ more
  no_blank : is_blank first ≡ false
  size : field_len (bytes ++ rest) ≡ length bytes

plain_next : (bytes rest : List ℕ) → IsPlainField bytes rest → IsNext bytes rest
plain_next bytes rest f =
    let q = ne_eqb f.first quote f.no_quote in
    record {
      first = f.first;
      more = f.more;
      all = f.all;
      no_blank = no_blank_seen f.first f.no_blank.0;
      size =
          ap (λ t. field_len (t ++ rest)) f.all
          ∙ cond-false (f.first == quote) (suc (quoted_len false (f.more ++ rest)))
          (suc (plain_len (f.more ++ rest))) q
          ∙ ap suc (plain_size f.more rest f.no_blank.1 f.ends) ∙ ap length (sym f.all);
    }

quoted_next : (bytes rest inside : List ℕ) → bytes ≡ quote ∷ inside
    → quoted_len false (inside ++ rest) ≡ length inside → IsNext bytes rest
quoted_next bytes rest inside e size = record {
  first = quote;
  more = inside;
  all = e;
  no_blank = refl;
  size = ap (λ t. field_len (t ++ rest)) e ∙ ap suc size ∙ ap length (sym e);
}

closed_next : (bytes rest : List ℕ) → IsClosedField bytes → IsNext bytes rest
closed_next bytes rest f = quoted_next bytes rest (f.inside ++ quote ∷ []) f.all
    (ap (quoted_len false) (append_assoc f.inside (quote ∷ []) rest)
    ∙ inside_size f.inside (quote ∷ rest) f.units
    ∙ sym (length-append f.inside (quote ∷ [])))

open_next : (bytes rest : List ℕ) → IsOpenField bytes rest → IsNext bytes rest
open_next bytes rest f = elim f.all [
  | inl e ↦ quoted_next bytes rest f.inside e
      (ap (λ t. quoted_len false (f.inside ++ t)) f.last ∙ inside_size f.inside [] f.units
      ∙ (let k : length f.inside + 0 ≡ length f.inside = omega arith in k))
  | inr e ↦ quoted_next bytes rest (f.inside ++ backslash ∷ []) e
      (ap (λ t. quoted_len false ((f.inside ++ backslash ∷ []) ++ t)) f.last
      ∙ ap (quoted_len false) (append-nil (f.inside ++ backslash ∷ []))
      ∙ inside_size f.inside (backslash ∷ []) f.units
      ∙ sym (length-append f.inside (backslash ∷ [])))
]

next_of : (bytes rest : List ℕ) → IsField bytes rest → IsNext bytes rest
next_of bytes rest f = elim f [
  | inl p ↦ plain_next bytes rest p
  | inr q ↦ elim q [
    | inl c ↦ closed_next bytes rest c
    | inr o ↦ open_next bytes rest o
  ]
]

found : (bytes rest : List ℕ) (at : ℕ) → IsField bytes rest
    → next_field at (bytes ++ rest) ≡ Some (record { start = at; end = at + length bytes })
found bytes rest at f =
    let k = next_of bytes rest f in
    let step : next_field at (k.first ∷ (k.more ++ rest))
    ≡ Some (record { start = at; end = at + field_len (k.first ∷ (k.more ++ rest)) }) =
    cond-false (is_blank k.first) (next_field (at + 1) (k.more ++ rest))
    (Some (record { start = at; end = at + field_len (k.first ∷ (k.more ++ rest)) })) k.no_blank in
    ap (λ t. next_field at (t ++ rest)) k.all ∙ step
    ∙ ap (λ t. Some (record { start = at; end = at + field_len (t ++ rest) })) (sym k.all)
    ∙ ap (λ n. Some (record { start = at; end = at + n })) k.size

-- what stands behind fields
record Behind (whole : List ℕ) (at : ℕ) (blanks bytes rest : List ℕ) (place : ℕ) : Type 0 where
  at_field : drop place whole ≡ bytes ++ rest
  later : drop (place + length bytes) whole ≡ rest

behind : (whole text : List ℕ) (at : ℕ) (blanks bytes rest : List ℕ) (place : ℕ)
    → drop at whole ≡ text → text ≡ blanks ++ (bytes ++ rest) → place ≡ at + length blanks
    → Behind whole at blanks bytes rest place
behind whole text at blanks bytes rest place e t p =
    let here : drop place whole ≡ bytes ++ rest =
    ap (λ n. drop n whole) p ∙ sym (drop-drop (length blanks) at whole)
    ∙ ap (drop (length blanks)) (e ∙ t) ∙ drop_at blanks (bytes ++ rest) (length blanks) refl in
    record {
      at_field = here;
      later = sym (drop-drop (length bytes) place whole) ∙ ap (drop (length bytes)) here
          ∙ drop_at bytes rest (length bytes) refl;
    }

-- Fields that blanks part are those that are looked for.
pub are : (whole : List ℕ) (fields : List FieldText) (at : ℕ) (text : List ℕ) → drop at whole ≡ text
    → HasFields at text fields → AreTheFields whole at (map places fields)
are whole [] at text e h = ap (next_field at) e ∙ blanks_alone text at h
are whole (field ∷ fields) at text e h =
    let b = behind whole text at h.0 field.bytes h.1 field.place e h.3 h.4 in (
      ap (next_field at) (e ∙ h.3) ∙ past_blanks h.0 (field.bytes ++ h.1) at h.2
          ∙ ap (λ n. next_field n (field.bytes ++ h.1)) (sym h.4) ∙ found field.bytes h.1 field.place h.5,
      are whole fields (field.place + length field.bytes) h.1 b.later h.6,
    )

-- and these are their bytes
pub have_bytes : (whole : List ℕ) (fields : List FieldText) (at : ℕ) (text : List ℕ)
    → drop at whole ≡ text → HasFields at text fields → HaveBytes whole fields
have_bytes whole [] at text e h = tt
have_bytes whole (field ∷ fields) at text e h =
    let b = behind whole text at h.0 field.bytes h.1 field.place e h.3 h.4 in (
      ap (take (field.place + length field.bytes - field.place)) b.at_field
          ∙ take_at field.bytes h.1 (field.place + length field.bytes - field.place) (omega arith),
      have_bytes whole fields (field.place + length field.bytes) h.1 b.later h.6,
    )

-- A field that doesn't begin with a quote, up to a blank or the end.
record Plain (text : List ℕ) : Type 0 where
  more : List ℕ
  rest : List ℕ
  all : text ≡ more ++ rest
  no_blank : AllByRecursion (λ b. IsBlank b → ⊥) more
  ends : EndsField rest

plain : (text : List ℕ) → Plain text
plain [] = record { more = []; rest = []; all = refl; no_blank = tt; ends = tt }
plain (b ∷ text) = elim (cases_Bool (is_blank b)) [
  | inl e ↦
      record { more = []; rest = b ∷ text; all = refl; no_blank = tt; ends = seen_blank b e }
  | inr e ↦
      let p = plain text in
      record {
        more = b ∷ p.more;
        rest = p.rest;
        all = ap (λ t. b ∷ t) p.all;
        no_blank = (λ h. both_ways (is_blank b) e (blank_seen b h), p.no_blank);
        ends = p.ends;
      }
]

-- What stands behind an opening quote: units, then a quote, or the text's end.
record Quoted (text : List ℕ) : Type 0 where
  inside : List ℕ
  units : AreUnits inside
  last : List ℕ
  rest : List ℕ
  all : text ≡ inside ++ (last ++ rest)
  ends : (last ≡ quote ∷ [])
      ⊎ (((last ≡ []) × (rest ≡ [])) ⊎ ((last ≡ backslash ∷ []) × (rest ≡ [])))

no_units : AreUnits []
no_units = record { pieces = []; each = tt; together = refl }

one_more : (piece text : List ℕ) → IsUnit piece → Quoted text → Quoted (piece ++ text)
one_more piece text u q = record {
  inside = piece ++ q.inside;
  units = record {
    pieces = piece ∷ q.units.pieces;
    each = (u, q.units.each);
    together = ap (λ t. piece ++ t) q.units.together;
  };
  last = q.last;
  rest = q.rest;
  all = ap (λ t. piece ++ t) q.all ∙ sym (append_assoc piece q.inside (q.last ++ q.rest));
  ends = q.ends;
}

quoted : (n : ℕ) (text : List ℕ) → length text ≤ n → Quoted text
quoted n [] h = record {
  inside = [];
  units = no_units;
  last = [];
  rest = [];
  all = refl;
  ends = inr (inl (refl, refl));
}
quoted zero (b ∷ text) h = absurd (omega arith)
quoted (suc n) (b ∷ text) h = elim (cases_eq b quote) [
  | inl e ↦ record {
    inside = [];
    units = no_units;
    last = quote ∷ [];
    rest = text;
    all = ap (λ x. x ∷ text) e;
    ends = inl refl;
  }
  | inr q ↦ elim (cases_eq b backslash) [
    | inl e ↦ subst (λ x. Quoted (x ∷ text)) (sym e) (escaped text (omega arith)
        (λ more k. quoted n more k))
    | inr s ↦
        one_more (b ∷ []) text (inl (b, q, s, refl)) (quoted n text (omega arith))
  ]
]
  where
    escaped : (text : List ℕ) → length text ≤ n
        → ((more : List ℕ) → length more ≤ n → Quoted more) → Quoted (backslash ∷ text)
    escaped [] h go = record {
      inside = [];
      units = no_units;
      last = backslash ∷ [];
      rest = [];
      all = refl;
      ends = inr (inr (refl, refl));
    }
    escaped (b ∷ text) h go =
        one_more (backslash ∷ b ∷ []) text (inr (b, refl)) (go text (omega arith))

-- the first field of a text that doesn't begin with a blank
record First (text : List ℕ) : Type 0 where
  first : ℕ
  more : List ℕ
  rest : List ℕ
  all : text ≡ (first ∷ more) ++ rest
  field : IsField (first ∷ more) rest

first_quoted : (text : List ℕ) → Quoted text → First (quote ∷ text)
first_quoted text q = record {
  first = quote;
  more = q.inside ++ q.last;
  rest = q.rest;
  all = ap (λ t. quote ∷ t) (q.all ∙ sym (append_assoc q.inside q.last q.rest));
  field = inr (elim q.ends [
    | inl e ↦ inl (record {
      inside = q.inside;
      units = q.units;
      all = ap (λ t. quote ∷ (q.inside ++ t)) e;
    })
    | inr o ↦ elim o [
      | inl e ↦ inr (record {
        inside = q.inside;
        units = q.units;
        all = inl (ap (λ t. quote ∷ (q.inside ++ t)) e.0
            ∙ ap (λ t. quote ∷ t) (append-nil q.inside));
        last = e.1;
      })
      | inr e ↦ inr (record {
        inside = q.inside;
        units = q.units;
        all = inr (ap (λ t. quote ∷ (q.inside ++ t)) e.0);
        last = e.1;
      })
    ]
  ]);
}

first : (b : ℕ) (text : List ℕ) → is_blank b ≡ false → First (b ∷ text)
first b text e = elim (cases_eq b quote) [
  | inl q ↦
      subst (λ x. First (x ∷ text)) (sym q)
      (first_quoted text (quoted (length text) text (omega arith)))
  | inr q ↦
      let p = plain text in
      record {
        first = b;
        more = p.more;
        rest = p.rest;
        all = ap (λ t. b ∷ t) p.all;
        field = inl (record {
          first = b;
          more = p.more;
          all = refl;
          no_quote = q;
          no_blank = (λ h. both_ways (is_blank b) e (blank_seen b h), p.no_blank);
          ends = p.ends;
        });
      }
]

record Split (at : ℕ) (text : List ℕ) : Type 0 where
  fields : List FieldText
  has : HasFields at text fields

blank_front : (b : ℕ) (text : List ℕ) (at : ℕ) (fields : List FieldText) → IsBlank b
    → HasFields (at + 1) text fields → HasFields at (b ∷ text) fields
blank_front b text at [] k h = (k, h)
blank_front b text at (field ∷ fields) k h =
    let sum : at + 1 + length h.0 ≡ at + suc (length h.0) = omega arith in
    (b ∷ h.0, h.1, (k, h.2), ap (λ t. b ∷ t) h.3, h.4 ∙ sum, h.5, h.6)

split : (n at : ℕ) (text : List ℕ) → length text ≤ n → Split at text
split n at [] h = record { fields = []; has = tt }
split zero at (b ∷ text) h = absurd (omega arith)
split (suc n) at (b ∷ text) h = elim (cases_Bool (is_blank b)) [
  | inl e ↦
      let s = split n (at + 1) text (omega arith) in
      record { fields = s.fields; has = blank_front b text at s.fields (seen_blank b e) s.has }
  | inr e ↦
      let f = first b text e in
      let size : suc (length text) ≡ suc (length f.more) + length f.rest =
      ap length f.all ∙ length-append (f.first ∷ f.more) f.rest in
      let s = split n (at + length (f.first ∷ f.more)) f.rest (omega arith) in
      record {
        fields = record { place = at; bytes = f.first ∷ f.more } ∷ s.fields;
        has = ([], f.rest, tt, f.all, (let k : at ≡ at + 0 = omega arith in k), f.field, s.has);
      }
]

-- each text has fields
pub some_fields : (text : List ℕ) → (fields : List FieldText) × HasFields 0 text fields
some_fields text =
    let s = split (length text) 0 text (omega arith) in (s.fields, s.has)

-- and one list of them
same_field : (whole : List ℕ) (field other : FieldText) → places field ≡ places other
    → bytes_of whole (places field) ≡ field.bytes → bytes_of whole (places other) ≡ other.bytes
    → field ≡ other
same_field whole field other e a b =
    let place : field.place ≡ other.place = ap (λ (f : Field). f.start) e in
    let bytes : field.bytes ≡ other.bytes = sym a ∙ ap (bytes_of whole) e ∙ b in
    let both : (field.place, field.bytes) ≡ (other.place, other.bytes) = cc in
    ap (λ (p : ℕ × List ℕ). record { place = p.0; bytes = p.1 }) both

all_same : (whole : List ℕ) (fields others : List FieldText) → map places fields ≡ map places others
    → HaveBytes whole fields → HaveBytes whole others → fields ≡ others
all_same whole [] [] e a b = refl
all_same whole [] (other ∷ others) e a b = absurd (cc)
all_same whole (field ∷ fields) [] e a b = absurd (cc)
all_same whole (field ∷ fields) (other ∷ others) e a b =
    let head : places field ≡ places other = cc in
    let tail : map places fields ≡ map places others = cc in
    let x = same_field whole field other head a.0 b.0 in
    let y = all_same whole fields others tail a.1 b.1 in
    cc

pub one_list : (text : List ℕ) (fields others : List FieldText) → HasFields 0 text fields
    → HasFields 0 text others → fields ≡ others
one_list text fields others h k =
    all_same text fields others
    (same_fields text 0 (map places fields) (map places others) (are text fields 0 text refl h)
    (are text others 0 text refl k))
    (have_bytes text fields 0 text refl h) (have_bytes text others 0 text refl k)

-- The fields that are looked for, with their bytes, are those that blanks part.
pub as_found : (text : List ℕ) (fields : List FieldText)
    → HasFields 0 text fields
    ↔ (AreTheFields text 0 (map places fields) × HaveBytes text fields)
as_found text fields = (
  λ h. (are text fields 0 text refl h, have_bytes text fields 0 text refl h),
  λ f.
      let s = some_fields text in
      subst (HasFields 0 text)
      (all_same text s.0 fields
      (same_fields text 0 (map places s.0) (map places fields) (are text s.0 0 text refl s.1) f.0)
      (have_bytes text s.0 0 text refl s.1) f.1) s.1,
)
