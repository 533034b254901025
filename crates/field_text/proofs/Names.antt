-- Names and the sizes of their texts.
use Rattle.std.proofs.Common.{◌≡◌, ℕ, ◌+◌, ◌*◌, ◌/◌, ◌%◌, ◌≤◌, List, [], ◌∷◌, length, length-append, append-nil, arith, ap, sym, ◌∙◌, refl}
use Rattle.std.specs.List.{flat_map, AllByRecursion}
use Rattle.std.proofs.lemmas.Bool.{cond_both}
use Rattle.rdata_layout.specs.Labels.{frame, wire, lowered}
use Rattle.rdata_layout.specs.Stored.{labels_of, IsLowerLabel}
use Rattle.rdata_layout.specs.Text.{backslash}
use Rattle.rdata_layout.specs.Wire.{BeginsWithName}
use Rattle.rdata_layout.specs.Written.{is_plain, text_of, text_of_label, text_of_octet}
use Rattle.rdata_layout.proofs.Steps.{labels_back}
use Rattle.rdata_layout.specs.Fields.{IsField}
use Rattle.rdata_layout.specs.declared.fields.Field.TheVariants as field

-- labels in lower case stay as they are
lowered_same : (labels : List (List ℕ)) → AllByRecursion IsLowerLabel labels
    → labels ≡ lowered labels
lowered_same [] k = refl
lowered_same (label ∷ labels) k = let a = k.0 in let b = lowered_same labels k.1 in cc

-- the octets of a name begin with it
pub begins : (octets : List ℕ) (h : IsField field.Name octets)
    → BeginsWithName octets h.0 (length (wire h.0))
begins octets h = record {
  raw = h.0;
  rest = [];
  name = h.1.raw;
  spelled = h.2 ∙ sym (append-nil (wire h.0));
  size = refl;
  same = lowered_same h.0 h.1.lower;
}

pub its_labels : (octets : List ℕ) (h : IsField field.Name octets) → labels_of octets ≡ h.0
its_labels octets h = ap labels_of h.2 ∙ labels_back h.0 h.1.raw.each

-- four bytes of text for each octet at most, and one byte less
octet_size : (b : ℕ) → length (text_of_octet b) ≤ 4
octet_size b =
    cond_both (is_plain b) (b ∷ []) (backslash ∷ (0x30 + b / 64) ∷ (0x30 + b / 8 % 8)
    ∷ (0x30 + b % 8) ∷ []) (λ t. length t ≤ 4)
    (λ e. omega arith) (λ e. omega arith)

octets_size : (label : List ℕ) → length (flat_map text_of_octet label) ≤ 4 * length label
octets_size [] = omega arith
octets_size (b ∷ label) =
    omega (
      arith,
      octet_size b,
      octets_size label,
      length-append (text_of_octet b) (flat_map text_of_octet label),
    )

labels_size : (labels : List (List ℕ))
    → length (flat_map text_of_label labels) ≤ 4 * length (flat_map frame labels)
labels_size [] = omega arith
labels_size (label ∷ labels) =
    omega (
      arith,
      octets_size label,
      labels_size labels,
      length-append (text_of_label label) (flat_map text_of_label labels),
      length-append
          (flat_map text_of_octet label) (0x2E ∷ []),
      length-append (frame label) (flat_map frame labels),
    )

pub text_size : (labels : List (List ℕ)) → length (text_of labels) + 1 ≤ 4 * length (wire labels)
text_size [] = omega arith
text_size (label ∷ labels) =
    omega (
      arith,
      labels_size (label ∷ labels),
      length-append (flat_map frame (label ∷ labels)) (0 ∷ []),
    )
