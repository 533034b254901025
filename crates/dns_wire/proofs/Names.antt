-- One step of the walks that find a name's pointer.
use Rattle.std.proofs.Common.{◌≡◌, ℕ, ◌+◌, ◌<◌, ◌≤◌, List, [], ◌∷◌, ◌++◌, length, take, drop, get_or, arith, ap, ◌∙◌, sym, refl, subst, append_assoc, add-one, drop-cons, Bool, true, false, Some, None}
use Rattle.std.proofs.lemmas.List.{take-append-drop}
use Rattle.std.proofs.Math.Seq.{take-add}
use Rattle.rdata_layout.specs.Labels.{frame, wire}
use Rattle.rdata_layout.specs.Names.{IsName}
use Rattle.rdata_layout.specs.Order.{same_labels}
use Rattle.rdata_layout.specs.OrderLaws.{same_labels-Decides}
use Rattle.rdata_layout.specs.Stored.{labels_of}
use Rattle.rdata_layout.specs.Whole.{IsWire}
use Rattle.rdata_layout.proofs.Steps.{step, ended, is_wire}
use Rattle.rdata_layout.specs.declared.fields.Field.{Field}
use Rattle.rdata_layout.specs.declared.fields.Field.TheVariants as field
use Rattle.rdata_layout.specs.Fields.{IsField}
use Rattle.dns_wire.specs.Pointers.{as_pointer, name_octets, place_in, pointer_to}

not_true : (b : Bool) → (b ≡ true → ⊥) → b ≡ false
not_true true h = absurd (h refl)
not_true false h = refl

found : (place : ℕ) (name labels : List (List ℕ)) → labels ≡ name → (name ≡ [] → ⊥)
    → place_in place name labels ≡ Some place
found place [] labels e some = absurd (some refl)
found place (first ∷ rest) labels e some = rw ((same_labels-Decides labels (first ∷ rest)).1 e) refl

passed : (place : ℕ) (first : List ℕ) (rest labels : List (List ℕ)) → (labels ≡ first ∷ rest → ⊥)
    → place_in place (first ∷ rest) labels ≡ place_in (place + (length first + 1)) rest labels
passed place first rest labels differ =
    rw (not_true (same_labels labels (first ∷ rest))
    (λ t. differ ((same_labels-Decides labels (first ∷ rest)).0 t))) refl

-- The place of the labels is still to be found behind `at` octets of the question's name.
pub record IsSought (asked octets : List ℕ) (at : ℕ) : Type 0 where
  pub rest : IsWire (drop at asked)
  pub within : at ≤ length asked
  pub same : place_in 12 (labels_of asked) (labels_of octets)
      ≡ place_in (12 + at) (labels_of (drop at asked)) (labels_of octets)

pub at_start : (asked octets : List ℕ) → IsWire asked → IsSought asked octets 0
at_start asked octets w = record { rest = w; within = omega arith; same = refl }

pub goes_on : (asked octets : List ℕ) (at : ℕ) → IsWire octets → (drop at asked ≡ octets → ⊥)
    → (get_or asked at 0 ≡ 0 → ⊥) → IsSought asked octets at
    → IsSought asked octets (at + (get_or asked at 0 + 1))
goes_on asked octets at w differ some i =
    let s = step asked at i.rest some in
    let first = take (get_or asked at 0) (drop (at + 1) asked) in
    let rest = labels_of (drop (at + (get_or asked at 0 + 1)) asked) in
    let other : labels_of octets ≡ first ∷ rest
    → ⊥ = λ e. differ (i.rest.spelled ∙ ap wire (s.labels ∙ sym e) ∙ sym w.spelled) in
    let place : 12 + at + (length first + 1) ≡ 12 + (at + (get_or asked at 0 + 1)) =
    omega (arith, s.size) in
    record {
      rest = s.rest;
      within = omega (arith, s.room);
      same = i.same ∙ ap (λ ls. place_in (12 + at) ls (labels_of octets)) s.labels
          ∙ passed (12 + at) first rest (labels_of octets) other
          ∙ ap (λ p. place_in p rest (labels_of octets)) place;
    }

pub is_found : (asked octets : List ℕ) (at : ℕ) → drop at asked ≡ octets
    → (get_or asked at 0 ≡ 0 → ⊥) → IsSought asked octets at
    → place_in 12 (labels_of asked) (labels_of octets) ≡ Some (12 + at)
is_found asked octets at e some i =
    let s = step asked at i.rest some in
    i.same ∙ found (12 + at) (labels_of (drop at asked)) (labels_of octets) (ap labels_of (sym e))
    (λ n. let z : labels_of (drop at asked) ≡ [] = n in let l = s.labels in cc)

pub is_none : (asked octets : List ℕ) (at : ℕ) → get_or asked at 0 ≡ 0 → IsSought asked octets at
    → place_in 12 (labels_of asked) (labels_of octets) ≡ None
is_none asked octets at zero_octet i = i.same
    ∙ ap (λ ls. place_in (12 + at) ls (labels_of octets)) (ended asked at i.rest zero_octet)

-- No suffix before `from` is one of the question's name.
pub record KeepsLabels (asked octets : List ℕ) (from : ℕ) : Type 0 where
  pub rest : IsWire (drop from octets)
  pub within : from ≤ length octets
  pub same : name_octets (labels_of asked) (labels_of octets) ≡ take from octets
      ++ name_octets (labels_of asked) (labels_of (drop from octets))

pub all_left : (asked octets : List ℕ) → IsWire octets → KeepsLabels asked octets 0
all_left asked octets w = record { rest = w; within = omega arith; same = refl }

-- a name whose first suffix has a place, or none
pointed : (name labels rest : List (List ℕ)) (first : List ℕ) (place : ℕ) → labels ≡ first ∷ rest
    → Some place ≡ place_in 12 name labels → name_octets name labels ≡ pointer_to place
pointed name labels rest first place e p =
    ap (name_octets name) e
    ∙ ap (λ o. as_pointer o (frame first ++ name_octets name rest))
    (ap (place_in 12 name) (sym e) ∙ sym p)

unpointed : (name labels rest : List (List ℕ)) (first : List ℕ) → labels ≡ first ∷ rest
    → None ≡ place_in 12 name labels
    → name_octets name labels ≡ frame first ++ name_octets name rest
unpointed name labels rest first e p =
    ap (name_octets name) e
    ∙ ap (λ o. as_pointer o (frame first ++ name_octets name rest))
    (ap (place_in 12 name) (sym e) ∙ sym p)

-- a label's frame stands where its length octet is
framed : (octets : List ℕ) (from n : ℕ) → from < length octets → get_or octets from 0 ≡ n
    → length (take n (drop (from + 1) octets)) ≡ n
    → take (from + (n + 1)) octets ≡ take from octets ++ frame (take n (drop (from + 1) octets))
framed octets from n within head size =
    let cells : drop from octets ≡ get_or octets from 0 ∷ drop (from + 1) octets =
    rw add-one (drop-cons octets from 0 within) in
    take-add from (n + 1) octets
    ∙ ap (λ t. take from octets ++ t) (ap (take (n + 1)) cells
    ∙ rw add-one (ap (λ x. x ∷ take n (drop (from + 1) octets)) (head ∙ sym size)))

pub keeps_label : (asked octets left : List ℕ) (from : ℕ) → left ≡ drop from octets
    → None ≡ place_in 12 (labels_of asked) (labels_of left) → (get_or octets from 0 ≡ 0 → ⊥)
    → KeepsLabels asked octets from → KeepsLabels asked octets (from + (get_or octets from 0 + 1))
keeps_label asked octets left from behind none some i =
    let s = step octets from i.rest some in
    let n = get_or octets from 0 in
    let first = take n (drop (from + 1) octets) in
    let rest = name_octets (labels_of asked) (labels_of (drop (from + (n + 1)) octets)) in
    record {
      rest = s.rest;
      within = omega (arith, s.room);
      same = i.same
          ∙ ap (λ t. take from octets
          ++ t) (unpointed _ _ _ first s.labels (none
          ∙ ap (λ t. place_in 12 (labels_of asked) (labels_of t)) behind))
          ∙ sym (append_assoc (take from octets) (frame first) rest)
          ∙ ap (λ t. t ++ rest) (sym (framed octets from n (omega (arith, s.room)) refl s.size));
    }

-- Where the first suffix with a place stands, the labels before it and the pointer are the name.
pub record IsPointed (asked octets : List ℕ) (from place : ℕ) : Type 0 where
  pub room : from + 2 < length octets
  pub same : name_octets (labels_of asked) (labels_of octets) ≡ take from octets ++ pointer_to place

pub is_pointed : (asked octets left : List ℕ) (from place : ℕ) → left ≡ drop from octets
    → Some place ≡ place_in 12 (labels_of asked) (labels_of left) → (get_or octets from 0 ≡ 0 → ⊥)
    → KeepsLabels asked octets from → IsPointed asked octets from place
is_pointed asked octets left from place behind p some i =
    let s = step octets from i.rest some in
    record {
      room = omega (arith, s.room, s.filled);
      same = i.same
          ∙ ap (λ t. take from octets
          ++ t) (pointed _ _ _ _ place s.labels (p
          ∙ ap (λ t. place_in 12 (labels_of asked) (labels_of t)) behind));
    }

-- Where no suffix has a place, the name is whole.
pub is_whole : (asked octets : List ℕ) (from : ℕ) → get_or octets from 0 ≡ 0
    → KeepsLabels asked octets from → name_octets (labels_of asked) (labels_of octets) ≡ octets
is_whole asked octets from zero_octet i =
    let none = ended octets from i.rest zero_octet in
    i.same ∙ ap (λ t. take from octets ++ t) (ap (name_octets (labels_of asked)) none
    ∙ ap wire (sym none) ∙ sym i.rest.spelled) ∙ take-append-drop from octets

-- The question's name itself is a pointer to it.
pub asked_name : (name labels : List (List ℕ)) → labels ≡ name → (labels ≡ [] → ⊥)
    → name_octets name labels ≡ pointer_to 12
asked_name name [] e some = absurd (some refl)
asked_name name (first ∷ rest) e some =
    ap (λ o. as_pointer o (frame first ++ name_octets name rest))
    (found 12 name (first ∷ rest) e (λ n. some (e ∙ n)))

-- the octets of a name, as octets of a wire form
pub name_wire : (octets : List ℕ) (labels : List (List ℕ)) → IsName labels → octets ≡ wire labels
    → IsWire octets × (labels_of octets ≡ labels)
name_wire octets labels n e =
    is_wire octets labels n.raw.each n.lower e (omega (arith, n.raw.fits, ap length e))

pub name_field : (octets : List ℕ) (kind : Field) → kind ≡ field.Name → IsField kind octets
    → IsWire octets
name_field octets kind e f =
    let g : IsField field.Name octets = subst (λ k. IsField k octets) e f in
    (name_wire octets g.0 g.1 g.2).0
