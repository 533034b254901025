-- Fields and strings at the front of octets.
use Rattle.std.proofs.Common.{◌≡◌, ℕ, ◌+◌, ◌<◌, ◌≤◌, List, [], ◌∷◌, ◌++◌, length, take, drop, arith, ap, ◌∙◌, sym, refl, length-append, length-drop, drop-drop, add-zero, add-one, get_or, subst}
use Rattle.std.specs.Prelude.{slice_index}
use Rattle.std.specs.List.{flat_map, AllByRecursion}
use Rattle.std.proofs.lemmas.List.{get_or-drop}
use Rattle.std.proofs.Math.Seq.{take-append_seam, drop-append_seam, drop-cons}
use Rattle.field_text.specs.Labels.{wire}
use Rattle.field_text.specs.Stored.{labels_of}
use Rattle.field_text.proofs.Labels.{labels_of-wire}
use Rattle.field_text.specs.FieldRecord.{Field}
use Rattle.field_text.specs.FieldRecord.TheVariants.{Ipv4, Ipv6, Name, Number8, Number16, Number32, Tag}
use Rattle.field_text.specs.TailRecord.{Tail}
use Rattle.field_text.specs.Written.{text_of_field}
use Rattle.field_text.specs.Fields.{IsField}
use Rattle.field_text.specs.Layout.{string_octets, IsShort, AreStrings, AreFields}
use Rattle.rdata.specs.Written.{split_strings, strings_of, field_texts}
use Rattle.field_text.specs.Fields.{field_size}

-- how long a field at the front is
pub field_front : (kind : Field) (piece rest octets : List ℕ) → IsField kind piece
    → octets ≡ piece ++ rest → field_size kind octets ≡ length piece
field_front Ipv4 piece rest octets is e = sym is
field_front Ipv6 piece rest octets is e = sym is
field_front Name piece rest octets is e =
    let labels : labels_of octets ≡ is.0 = ap labels_of (e ∙ ap (λ t. t ++ rest) is.2)
    ∙ labels_of-wire is.0 rest is.1.raw.each in
    ap (λ ls. length (wire ls)) labels ∙ sym (ap length is.2)
field_front Number8 piece rest octets is e = sym is
field_front Number16 piece rest octets is e = sym is
field_front Number32 piece rest octets is e = sym is
field_front Tag piece rest octets is e =
    ap (λ t. slice_index t 0 + 1) (e ∙ ap (λ t. t ++ rest) is.2) ∙ omega (arith, ap length is.2)

-- the string at the front, and those behind it
cut_front : (octets : List ℕ) → (split_strings 0 octets).0 ≡ []
cut_front [] = refl
cut_front (n ∷ octets) = refl

cut_string : (string rest : List ℕ)
    → split_strings (length string) (string ++ rest) ≡ (string, strings_of rest)
cut_string [] rest = ap (λ t. (t, strings_of rest)) (cut_front rest)
cut_string (b ∷ string) rest =
    ap (λ (r : List ℕ × List (List ℕ)). (b ∷ r.0, r.1)) (cut_string string rest)

pub first_string : (string rest : List ℕ)
    → strings_of (length string ∷ (string ++ rest)) ≡ string ∷ strings_of rest
first_string string rest = ap (λ r. r.0 ∷ r.1) (cut_string string rest)

-- the octets of strings from a place on: the string there, and those behind it
pub record StringAt (octets : List ℕ) (place : ℕ) : Type 0 where
  pub room : get_or octets place 0 + 1 + place ≤ length octets
  pub rest : AreStrings (drop (place + (get_or octets place 0 + 1)) octets)
  pub strings : strings_of (drop place octets)
      ≡ take (get_or octets place 0) (drop (place + 1) octets) ∷ strings_of
      (drop (place + (get_or octets place 0 + 1)) octets)
  pub size : length (take (get_or octets place 0) (drop (place + 1) octets)) ≡ get_or octets place 0

string_at : (octets string tail : List ℕ) (place : ℕ)
    → drop place octets ≡ string_octets string ++ tail → AreStrings tail → StringAt octets place
string_at octets string tail place e rest =
    let head : get_or octets place 0 ≡ length string =
    ap (λ k. get_or octets k 0) (sym (add-zero place)) ∙ sym (get_or-drop place octets 0 0) ∙ ap
    (λ l. get_or l 0 0) e in
    let behind : drop (place + 1) octets ≡ string ++ tail = sym (drop-drop 1 place octets)
    ∙ ap (drop 1) e in
    let front : take (get_or octets place 0) (drop (place + 1) octets) ≡ string =
    ap (λ k. take k (drop (place + 1) octets)) head ∙ ap (take (length string)) behind
    ∙ take-append_seam string tail in
    let later : drop (place + (get_or octets place 0 + 1)) octets ≡ tail =
    ap (λ k. drop (place + (k + 1)) octets) head ∙ ap (λ k. drop k octets) (omega arith)
    ∙ sym (drop-drop (length string) (place + 1) octets)
    ∙ ap (drop (length string)) behind ∙ drop-append_seam string tail in
    record {
      room = omega (
        arith,
        head,
        ap length e,
        length-drop place octets,
        length-append (string_octets string) tail,
      );
      rest = subst AreStrings (sym later) rest;
      strings = ap strings_of e ∙ first_string string tail
          ∙ ap (λ s. s ∷ strings_of tail) (sym front)
          ∙ ap (λ t. take (get_or octets place 0) (drop (place + 1) octets) ∷ strings_of t)
          (sym later);
      size = ap length front ∙ sym head;
    }

pub string_there : (octets : List ℕ) (place : ℕ) → place < length octets
    → AreStrings (drop place octets) → StringAt octets place
string_there octets place some a = go a.strings a.each a.spelled
  where
    go : (strings : List (List ℕ)) → AllByRecursion IsShort strings
        → drop place octets ≡ flat_map string_octets strings → StringAt octets place
    go [] each e = absurd (omega (arith, some, ap length e, length-drop place octets))
    go (string ∷ strings) each e = string_at octets string (flat_map string_octets strings) place e
        (record { strings = strings; each = each.1; spelled = refl })

-- the octets of fields from a place on: the field there, and those behind it
pub record FieldAt (kinds : List Field) (passed : ℕ) (none : Field) (end : Tail) (octets : List ℕ)
    (at : ℕ) : Type 0 where
  pub piece : List ℕ
  pub rest : List ℕ
  pub is : IsField (get_or kinds passed none) piece
  pub whole : drop at octets ≡ piece ++ rest
  pub room : at + field_size (get_or kinds passed none) (drop at octets) ≤ length octets
  pub fields : AreFields (drop (passed + 1) kinds) end
      (drop (at + field_size (get_or kinds passed none) (drop at octets)) octets)
  pub texts : field_texts (drop passed kinds) end (drop at octets)
      ≡ text_of_field (get_or kinds passed none)
      (take (field_size (get_or kinds passed none) (drop at octets)) (drop at octets))
      ∷ field_texts (drop (passed + 1) kinds) end
      (drop (at + field_size (get_or kinds passed none) (drop at octets)) octets)

pub field_there : (kinds : List Field) (passed : ℕ) (none : Field) (end : Tail) (octets : List ℕ)
    (at : ℕ) → passed < length kinds
    → at ≤ length octets
    → AreFields (drop passed kinds) end (drop at octets) → FieldAt kinds passed none end octets at
field_there kinds passed none end octets at some within a =
    let kind = get_or kinds passed none in
    let n = field_size kind (drop at octets) in
    let here : drop passed kinds ≡ kind ∷ drop (passed + 1) kinds =
    drop-cons kinds passed none some ∙ ap (λ k. kind ∷ drop k kinds) (sym (add-one passed)) in
    let b : AreFields (kind ∷ drop (passed + 1) kinds) end (drop at octets) =
    subst (λ ks. AreFields ks end (drop at octets)) here a in
    let size : n ≡ length b.0 = field_front kind b.0 b.1 (drop at octets) b.2 b.3 in
    let later : drop (at + n) octets ≡ drop n (drop at octets) = sym (drop-drop n at octets) in
    let behind : drop n (drop at octets) ≡ b.1 = ap (λ k. drop k (drop at octets)) size
    ∙ ap (drop (length b.0)) b.3 ∙ drop-append_seam b.0 b.1 in
    record {
      piece = b.0;
      rest = b.1;
      is = b.2;
      whole = b.3;
      room = omega (arith, size, ap length b.3, length-drop at octets, length-append b.0 b.1);
      fields = subst (λ l. AreFields (drop (passed + 1) kinds) end l) (sym (later ∙ behind)) b.4;
      texts = ap (λ ks. field_texts ks end (drop at octets)) here
          ∙ ap (λ l. text_of_field kind (take n (drop at octets))
          ∷ field_texts (drop (passed + 1) kinds) end l) (sym later);
    }
