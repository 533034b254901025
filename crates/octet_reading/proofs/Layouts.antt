-- The test of layouts tells what is a layout.
use Rattle.std.proofs.Common.{◌≡◌, ℕ, zero, suc, ◌-◌, ◌<◌, ◌≤◌, Bool, true, false, List, [], ◌∷◌, ◌++◌, length, take, drop, arith}
use Rattle.std.proofs.Common.{ap, ◌∙◌, sym, refl, length-append, cond, Option, None, Some}
use Rattle.std.specs.Prelude.{◌&&◌, nat_le, nat_lt}
use Rattle.std.specs.List.{list_all, AllByRecursion, flat_map}
use Rattle.std.proofs.lemmas.Bool.{ltb-true, ltb-false, leb-true, lt-ltb, le-ltb, le-leb, eqb-true, and_parts, and_from}
use Rattle.std.proofs.lemmas.List.{take-append-drop, length-take-le, nil_from_length}
use Rattle.std.proofs.Math.Seq.{take-append_seam, drop-append_seam}
use Rattle.rdata_layout.specs.Labels.{wire}
use Rattle.rdata_layout.specs.Names.{IsName}
use Rattle.rdata_layout.specs.declared.types.RType.{RType}
use Rattle.rdata_layout.specs.declared.fields.Field.{Field}
use Rattle.rdata_layout.specs.declared.fields.Field.TheVariants as field
use Rattle.rdata_layout.specs.declared.fields.Tail.{Tail}
use Rattle.rdata_layout.specs.declared.fields.Tail.TheVariants as tail
use Rattle.rdata_layout.specs.Fields.{IsField, IsTag, is_letter_or_digit}
use Rattle.rdata_layout.specs.Layout.{fields_of, tail_of, most_octets, string_octets, IsShort, IsTail, AreFields, IsLayout}
use Rattle.octet_reading.specs.declared.names.NameRead.{NameRead}
use Rattle.octet_reading.specs.declared.names.NameRead.TheVariants.{Whole, Short, Broken}
use Rattle.octet_reading.specs.Names.{name_read}
use Rattle.octet_reading.specs.Layouts.{behind_octets, behind_name, behind_tag, behind_field, are_strings, is_tail, holds_of, are_fields, is_layout}
use Rattle.octet_reading.proofs.Found.{IsBytes, later_bytes, rest_bytes}
use Rattle.octet_reading.proofs.Naming.{whole_begins}
use Rattle.octet_reading.proofs.Again.{front_again, behind_found}
use Rattle.octet_reading.proofs.Texts.{all_from, all_to, chosen_some, refused_some}

-- what a test found: a field, and what stands behind it
pub record Behind (first : Field) (octets rest : List ℕ) : Type 0 where
  pub piece : List ℕ
  pub is : IsField first piece
  pub parts : octets ≡ piece ++ rest

fixed_is : (n : ℕ) (octets rest : List ℕ) → behind_octets n octets ≡ Some rest
    → (length (take n octets) ≡ n) × (octets ≡ take n octets ++ rest)
fixed_is n octets rest e =
    let g = refused_some (nat_lt (length octets) n) (drop n octets) rest e in
    let long : n ≤ length octets = ltb-false _ _ g.0 in (
      length-take-le n octets long,
      sym (take-append-drop n octets)
          ∙ ap (λ t. take n octets ++ t) g.1,
    )

fixed_again : (n : ℕ) (piece rest : List ℕ) → length piece ≡ n
    → behind_octets n (piece ++ rest) ≡ Some rest
fixed_again n piece rest e =
    let long : nat_lt (length (piece ++ rest)) n ≡ false =
    le-ltb _ _ (omega (arith, length-append piece rest)) in
    ap (λ b. cond b None (Some (drop n (piece ++ rest)))) long
    ∙ ap (λ k. Some (drop k (piece ++ rest))) (sym e) ∙ ap Some (drop-append_seam piece rest)

name_is : (octets rest : List ℕ) (front : NameRead) → IsBytes octets → name_read octets ≡ front
    → behind_name octets front ≡ Some rest
    → Behind field.Name octets rest
name_is octets rest (Whole left) bytes e s =
    let w = whole_begins octets left bytes e in
    let same : drop (length octets - left) octets ≡ w.rest =
    cc (w.spelled, sym w.left_is, behind_found w.labels w.rest) in
    let r : w.rest ≡ rest = cc in
    record {
      piece = wire w.labels;
      is = (w.labels, w.name, refl);
      parts = w.spelled
          ∙ ap (λ t. wire w.labels ++ t) r;
    }
name_is octets rest Short bytes e s = absurd cc
name_is octets rest Broken bytes e s = absurd cc

name_again : (labels : List (List ℕ)) (rest : List ℕ) → IsName labels
    → behind_name (wire labels ++ rest) (name_read (wire labels ++ rest)) ≡ Some rest
name_again labels rest name = ap (behind_name (wire labels ++ rest)) (front_again labels rest name)
    ∙ ap Some (behind_found labels rest)

tag_is : (octets rest : List ℕ) → behind_tag octets ≡ Some rest → Behind field.Tag octets rest
tag_is [] rest e = absurd cc
tag_is (n ∷ octets) rest e =
    let g = chosen_some (nat_le 1 n && nat_le n 15 && nat_le n (length octets)
    && list_all is_letter_or_digit (take n octets)) (drop n octets) rest e in
    let a = and_parts (nat_le 1 n && nat_le n 15
    && nat_le n (length octets)) (list_all is_letter_or_digit (take n octets)) g.0 in
    let b = and_parts (nat_le 1 n && nat_le n 15) (nat_le n (length octets)) a.0 in
    let d = and_parts (nat_le 1 n) (nat_le n 15) b.0 in
    let size : length (take n octets) ≡ n = length-take-le n octets (leb-true _ _ b.1) in
    let low = leb-true 1 n d.0 in
    let high = leb-true n 15 d.1 in
    let whole : octets ≡ take n octets ++ rest = sym (take-append-drop n octets)
    ∙ ap (λ t. take n octets ++ t) g.1 in
    record {
      piece = length (take n octets) ∷ take n octets;
      is = (
        take n octets,
        record {
          filled = omega (arith, size, low);
          short = omega (arith, size, high);
          plain = all_from is_letter_or_digit (take n octets) a.1;
        },
        refl,
      );
      parts = ap (λ k. k ∷ octets) (sym size) ∙ ap (λ t. length (take n octets) ∷ t) whole;
    }

tag_again : (tag rest : List ℕ) → IsTag tag → behind_tag (length tag ∷ (tag ++ rest)) ≡ Some rest
tag_again tag rest is =
    let test : (nat_le 1 (length tag) && nat_le (length tag) 15 && nat_le (length tag)
    (length (tag ++ rest)) && list_all is_letter_or_digit (take (length tag) (tag ++ rest)))
    ≡ true =
    and_from _ _
    (and_from _ _
    (and_from _ _ (le-leb 1 (length tag) is.filled) (le-leb (length tag) 15 is.short))
    (le-leb (length tag) (length (tag ++ rest)) (omega (arith, length-append tag rest))))
    (ap (list_all is_letter_or_digit) (take-append_seam tag rest)
    ∙ all_to is_letter_or_digit tag is.plain) in
    ap (λ b. cond b (Some (drop (length tag) (tag ++ rest))) None) test
    ∙ ap Some (drop-append_seam tag rest)

pub behind_is : (first : Field) (octets rest : List ℕ) → IsBytes octets
    → behind_field first octets ≡ Some rest → Behind first octets rest
behind_is field.Ipv4 octets rest bytes e = let f = fixed_is 4 octets rest e in
    record { piece = take 4 octets; is = f.0; parts = f.1 }
behind_is field.Ipv6 octets rest bytes e = let f = fixed_is 16 octets rest e in
    record { piece = take 16 octets; is = f.0; parts = f.1 }
behind_is field.Name octets rest bytes e = name_is octets rest (name_read octets) bytes refl e
behind_is field.Number8 octets rest bytes e = let f = fixed_is 1 octets rest e in
    record { piece = take 1 octets; is = f.0; parts = f.1 }
behind_is field.Number16 octets rest bytes e = let f = fixed_is 2 octets rest e in
    record { piece = take 2 octets; is = f.0; parts = f.1 }
behind_is field.Number32 octets rest bytes e = let f = fixed_is 4 octets rest e in
    record { piece = take 4 octets; is = f.0; parts = f.1 }
behind_is field.Tag octets rest bytes e = tag_is octets rest e

pub behind_again : (first : Field) (piece rest : List ℕ) → IsField first piece
    → behind_field first (piece ++ rest) ≡ Some rest
behind_again field.Ipv4 piece rest is = fixed_again 4 piece rest is
behind_again field.Ipv6 piece rest is = fixed_again 16 piece rest is
behind_again field.Name piece rest is =
    ap (λ t. behind_name (t ++ rest) (name_read (t ++ rest))) is.2 ∙ name_again is.0 rest is.1
behind_again field.Number8 piece rest is = fixed_again 1 piece rest is
behind_again field.Number16 piece rest is = fixed_again 2 piece rest is
behind_again field.Number32 piece rest is = fixed_again 4 piece rest is
behind_again field.Tag piece rest is = ap (λ t. behind_tag (t ++ rest)) is.2
    ∙ tag_again is.0 rest is.1

-- strings behind the rest of one
record Strings (need : ℕ) (octets : List ℕ) : Type 0 where
  pub part : List ℕ
  pub strings : List (List ℕ)
  pub size : length part ≡ need
  pub each : AllByRecursion IsShort strings
  pub spelled : octets ≡ part ++ flat_map string_octets strings

strings_from : (need : ℕ) (octets : List ℕ) → IsBytes octets → are_strings need octets ≡ true
    → Strings need octets
strings_from zero [] bytes e =
    record { part = []; strings = []; size = refl; each = tt; spelled = refl }
strings_from (suc need) [] bytes e = absurd cc
strings_from zero (n ∷ octets) bytes e =
    let r = strings_from n octets (later_bytes n octets bytes) e in
    let below : n < 256 = bytes 0 in
    record {
      part = [];
      strings = r.part ∷ r.strings;
      size = refl;
      each = (omega (arith, r.size, below), r.each);
      spelled = cc (r.size, r.spelled);
    }
strings_from (suc need) (b ∷ octets) bytes e =
    let r = strings_from need octets (later_bytes b octets bytes) e in
    record {
      part = b ∷ r.part;
      strings = r.strings;
      size = ap suc r.size;
      each = r.each;
      spelled =
          ap (λ l. b ∷ l) r.spelled;
    }

strings_pass : (string rest : List ℕ)
    → are_strings (length string) (string ++ rest) ≡ are_strings 0 rest
strings_pass [] rest = refl
strings_pass (b ∷ string) rest = strings_pass string rest

strings_again : (strings : List (List ℕ)) → are_strings 0 (flat_map string_octets strings) ≡ true
strings_again [] = refl
strings_again (string ∷ strings) = strings_pass string (flat_map string_octets strings)
    ∙ strings_again strings

tail_is : (end : Tail) (octets : List ℕ) → IsBytes octets → is_tail end octets ≡ true
    → IsTail end octets
tail_is tail.Nothing octets bytes e = nil_from_length octets (eqb-true (length octets) 0 e)
tail_is tail.Strings octets bytes e =
    let p = and_parts (nat_lt 0 (length octets)) (are_strings 0 octets) e in
    let r = strings_from 0 octets bytes p.1 in (
      ltb-true 0 (length octets) p.0,
      record {
        strings = r.strings;
        each = r.each;
        spelled = r.spelled
            ∙ ap (λ t. t ++ flat_map string_octets r.strings) (nil_from_length r.part r.size);
      },
    )
tail_is tail.Value octets bytes e = leb-true (length octets) 255 e

tail_again : (end : Tail) (octets : List ℕ) → IsTail end octets → is_tail end octets ≡ true
tail_again tail.Nothing octets is = ap (is_tail tail.Nothing) is
tail_again tail.Strings octets is =
    and_from (nat_lt 0 (length octets)) (are_strings 0 octets) (lt-ltb 0 (length octets) is.0)
    (ap (are_strings 0) is.1.spelled ∙ strings_again is.1.strings)
tail_again tail.Value octets is = le-leb (length octets) 255 is

holds_parts : (found : Option (List ℕ)) (test : List ℕ → Bool) → holds_of found test ≡ true
    → (rest : List ℕ) × (found ≡ Some rest) × (test rest ≡ true)
holds_parts None test e = absurd cc
holds_parts (Some rest) test e = (rest, refl, e)

fields_are : (fields : List Field) (end : Tail) (octets : List ℕ) → IsBytes octets
    → are_fields fields end octets ≡ true → AreFields fields end octets
fields_are [] end octets bytes e = tail_is end octets bytes e
fields_are (first ∷ fields) end octets bytes e =
    let h = holds_parts (behind_field first octets) (are_fields fields end) e in
    let b = behind_is first octets h.0 bytes h.1 in (
      b.piece,
      h.0,
      b.is,
      b.parts,
      fields_are fields end h.0 (rest_bytes octets b.piece h.0 bytes b.parts) h.2,
    )

fields_again : (fields : List Field) (end : Tail) (octets : List ℕ) → AreFields fields end octets
    → are_fields fields end octets ≡ true
fields_again [] end octets is = tail_again end octets is
fields_again (first ∷ fields) end octets is =
    ap (λ t. holds_of (behind_field first t) (are_fields fields end)) is.3
    ∙ ap (λ o. holds_of o (are_fields fields end)) (behind_again first is.0 is.1 is.2)
    ∙ fields_again fields end is.1 is.4

pub layout_is : (type : RType) (octets : List ℕ) → IsBytes octets → is_layout type octets ≡ true
    → IsLayout type octets
unfolding is_layout
layout_is type octets bytes e =
    let p = and_parts (nat_le (length octets) most_octets)
    (are_fields (fields_of type) (tail_of type) octets) e in
    record {
      short = leb-true (length octets) most_octets p.0;
      fields =
          fields_are (fields_of type) (tail_of type) octets bytes p.1;
    }

pub layout_again : (type : RType) (octets : List ℕ) → IsLayout type octets
    → is_layout type octets ≡ true
unfolding is_layout
layout_again type octets is =
    and_from (nat_le (length octets) most_octets)
    (are_fields (fields_of type) (tail_of type) octets)
    (le-leb (length octets) most_octets is.short)
    (fields_again (fields_of type) (tail_of type) octets is.fields)
