-- Fields one after another.
use Rattle.std.proofs.Common.{◌≡◌, ℕ, ◌+◌, ◌-◌, ◌≤◌, List, [], ◌∷◌, ◌++◌, length, take, drop, get_or, ap, ◌∙◌, sym, refl, subst, append_assoc, append-nil, arith, length-append, length-drop, drop-drop, drop-cons, add-one, ◌<◌}
use Rattle.std.proofs.lemmas.List.{take-append-drop, length-take-le, drop_at, take_at}
use Rattle.rdata_layout.specs.Labels.{wire}
use Rattle.rdata_layout.specs.Stored.{labels_of}
use Rattle.rdata_layout.proofs.Labels.{labels_of-wire}
use Rattle.rdata_layout.specs.declared.fields.Field.{Field}
use Rattle.rdata_layout.specs.declared.fields.Field.TheVariants as field
use Rattle.rdata_layout.specs.declared.fields.Tail.{Tail}
use Rattle.rdata_layout.specs.declared.fields.Tail.TheVariants as tail
use Rattle.rdata_layout.specs.Fields.{IsField}
use Rattle.rdata_layout.specs.Layout.{AreFields}
use Rattle.std.proofs.Math.Seq.{take-length, drop-length}
use Rattle.rdata_layout.specs.Whole.{IsWire}
use Rattle.dns_wire.specs.Data.{field_octets, fields_octets}
use Rattle.dns_wire.specs.Pointers.{name_octets}
use Rattle.dns_wire.proofs.Names.{name_field}
use Rattle.rdata_layout.specs.Fields.{field_size}

-- The size of the field at the front is how many octets it has.
pub size_is : (kind : Field) (octets : List ℕ) (n : ℕ) → n ≤ length octets
    → IsField kind (take n octets) → n ≡ field_size kind octets
size_is field.Ipv4 octets n within f = sym (length-take-le n octets within) ∙ f
size_is field.Ipv6 octets n within f = sym (length-take-le n octets within) ∙ f
size_is field.Name octets n within f =
    let spelled : octets ≡ wire f.0 ++ drop n octets = sym (take-append-drop n octets)
    ∙ ap (λ t. t ++ drop n octets) f.2 in
    let labels : labels_of octets ≡ f.0 = ap labels_of spelled
    ∙ labels_of-wire f.0 (drop n octets) f.1.raw.each in
    sym (length-take-le n octets within) ∙ ap length f.2 ∙ ap (λ ls. length (wire ls)) (sym labels)
size_is field.Number8 octets n within f = sym (length-take-le n octets within) ∙ f
size_is field.Number16 octets n within f = sym (length-take-le n octets within) ∙ f
size_is field.Number32 octets n within f = sym (length-take-le n octets within) ∙ f
size_is field.Tag octets n within f =
    let spelled : octets ≡ (length f.0 ∷ f.0) ++ drop n octets = sym (take-append-drop n octets)
    ∙ ap (λ t. t ++ drop n octets) f.2 in
    let first : get_or octets 0 0 ≡ length f.0 = ap (λ t. get_or t 0 0) spelled in
    let size : length (take n octets) ≡ length f.0 + 1 = ap length f.2 ∙ omega arith in
    omega (arith, length-take-le n octets within)

-- So far `written` is what the fields before give, the fields that are left stand behind `from`
-- octets, and there is room.
pub record IsWritten (name : List (List ℕ)) (fields : List Field) (octets start : List ℕ)
    (at from to i : ℕ) (buffer : List ℕ) : Type 0 where
  pub end : Tail
  pub left : AreFields (drop i fields) end (drop from octets)
  pub within : from ≤ length octets
  pub shorter : to ≤ at + from
  pub written : List ℕ
  pub size : to ≡ at + length written
  pub so_far : take to buffer ≡ start ++ written
  pub whole : fields_octets name fields octets ≡ written
      ++ fields_octets name (drop i fields) (drop from octets)

pub none_written : (name : List (List ℕ)) (fields : List Field) (octets : List ℕ) (at : ℕ)
    (buffer : List ℕ) (end : Tail) → AreFields fields end octets
    → IsWritten name fields octets (take at buffer) at 0 at 0 buffer
none_written name fields octets at buffer end are = record {
  end = end;
  left = are;
  within = omega arith;
  shorter = omega arith;
  written = [];
  size = omega arith;
  so_far = sym (append-nil (take at buffer));
  whole = refl;
}

-- behind the field at the front stand the others
behind_field : (kind : Field) (fields : List Field) (end : Tail) (octets : List ℕ) (n : ℕ)
    → n ≡ field_size kind octets → AreFields (kind ∷ fields) end octets
    → AreFields fields end (drop n octets)
behind_field kind fields end octets n size are =
    let front : take (length are.0) octets ≡ are.0 = ap (take (length are.0)) are.3
    ∙ take_at are.0 are.1 (length are.0) refl in
    let within : length are.0 ≤ length octets =
    omega (arith, ap length are.3, length-append are.0 are.1) in
    let len : length are.0 ≡ n =
    size_is kind octets (length are.0) within (subst (IsField kind) (sym front) are.2)
    ∙ sym size in
    let rest : are.1 ≡ drop n octets = sym (ap (drop n) are.3 ∙ drop_at are.0 are.1 n len) in
    subst (AreFields fields end) rest are.4

-- what the fields give, by the first
first_field : (name : List (List ℕ)) (kind : Field) (fields : List Field) (octets : List ℕ) (n : ℕ)
    → n ≡ field_size kind octets
    → fields_octets name (kind ∷ fields) octets ≡ field_octets name kind (take n octets)
    ++ fields_octets name fields (drop n octets)
first_field name kind fields octets n size =
    ap (λ k. field_octets name kind (take k octets) ++ fields_octets name fields (drop k octets))
    (sym size)

pub field_written : (name : List (List ℕ)) (fields : List Field) (octets start : List ℕ)
    (at from to i : ℕ) (buffer : List ℕ) (d : Field) (left piece : List ℕ) (n end : ℕ)
    (after : List ℕ) → i < length fields → left ≡ drop from octets → n ≤ length left
    → n ≡ field_size (get_or fields i d) left → piece ≡ take n left
    → end ≡ to + length (field_octets name (get_or fields i d) piece) → end ≤ to + length piece
    → take end after ≡ take to buffer ++ field_octets name (get_or fields i d) piece
    → IsWritten name fields octets start at from to i buffer
    → IsWritten name fields octets start at (from + n) end (i + 1) after
field_written name fields octets start at from to i buffer d left piece n end after there behind
    fits size part ends shorter put w =
    let kind = get_or fields i d in
    let rest = drop from octets in
    let cells : drop i fields ≡ kind ∷ drop (i + 1) fields =
    rw add-one (drop-cons fields i d there) in
    let later : drop n rest ≡ drop (from + n) octets = drop-drop n from octets in
    let size_now : n ≡ field_size kind rest = size ∙ ap (field_size kind) behind in
    let are : AreFields (kind ∷ drop (i + 1) fields) w.end rest =
    subst (λ fs. AreFields fs w.end rest) cells w.left in
    let left_now : AreFields (drop (i + 1) fields) w.end (drop n rest) =
    behind_field kind (drop (i + 1) fields) w.end rest n size_now are in
    let piece_is : piece ≡ take n rest = part ∙ ap (take n) behind in
    let octets_now = field_octets name kind piece in
    let parts : fields_octets name (drop i fields) rest ≡ octets_now
    ++ fields_octets name (drop (i + 1) fields) (drop (from + n) octets) =
    ap (λ fs. fields_octets name fs rest) cells
    ∙ first_field name kind (drop (i + 1) fields) rest n size_now
    ∙ ap (λ p. field_octets name kind p ++ fields_octets name (drop (i + 1) fields) (drop n rest))
    (sym piece_is)
    ∙ ap (λ r. octets_now ++ fields_octets name (drop (i + 1) fields) r) later in
    let long : length left ≡ length octets - from = ap length behind ∙ length-drop from octets in
    let piece_long : length piece ≤ n = omega (arith, ap length part, length-take-le n left fits) in
    record {
      end = w.end;
      left = subst (AreFields (drop (i + 1) fields) w.end) later left_now;
      within = omega (arith, w.within);
      shorter = omega (arith, w.shorter);
      written = w.written ++ octets_now;
      size = omega (arith, w.size, length-append w.written octets_now);
      so_far = put ∙ ap (λ t. t ++ octets_now) w.so_far ∙ append_assoc start w.written octets_now;
      whole = w.whole ∙ ap (λ t. w.written ++ t) parts
          ∙ sym (append_assoc w.written octets_now
          (fields_octets name (drop (i + 1) fields) (drop (from + n) octets)));
    }

-- data that are one name and nothing else
module _ (octets : List ℕ) (are : AreFields (field.Name ∷ []) tail.Nothing octets) where
  whole_name : octets ≡ are.0
  whole_name = are.3 ∙ ap (λ t. are.0 ++ t) are.4 ∙ append-nil are.0

  pub one_name : IsWire octets
  one_name = name_field octets field.Name refl (subst (IsField field.Name) (sym whole_name) are.2)

  pub one_written : (name : List (List ℕ))
      → fields_octets name (field.Name ∷ []) octets ≡ name_octets name (labels_of octets)
  one_written name =
      let size : length octets ≡ field_size field.Name octets = ap length one_name.spelled in
      first_field name field.Name [] octets (length octets) size
      ∙ ap (λ t. name_octets name (labels_of t) ++ drop (length octets) octets) (take-length octets)
      ∙ ap (λ t. name_octets name (labels_of octets) ++ t) (drop-length octets)
      ∙ append-nil (name_octets name (labels_of octets))

-- data that are a number of two octets and a name
module _ (octets : List ℕ)
    (are : AreFields (field.Number16 ∷ field.Name ∷ []) tail.Nothing octets) where
  pub exchange_room : 2 ≤ length octets
  exchange_room = omega (arith, ap length are.3, length-append are.0 are.1, are.2)

  behind_preference : AreFields (field.Name ∷ []) tail.Nothing (drop 2 octets)
  behind_preference =
      behind_field field.Number16 (field.Name ∷ []) tail.Nothing octets 2 refl are

  pub exchange_name : IsWire (drop 2 octets)
  exchange_name = one_name (drop 2 octets) behind_preference

  pub exchange_written : (name : List (List ℕ))
      → fields_octets name (field.Number16 ∷ field.Name ∷ []) octets
      ≡ take 2 octets ++ name_octets name (labels_of (drop 2 octets))
  exchange_written name =
      first_field name field.Number16 (field.Name ∷ []) octets 2 refl
      ∙ ap (λ t. take 2 octets ++ t) (one_written (drop 2 octets) behind_preference name)
