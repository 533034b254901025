-- Names in lower case, told from their octets.
use Rattle.std.proofs.Common.{◌≡◌, ℕ, ◌<◌, inl, inr, List, [], ◌∷◌, ◌++◌, length, map, take, drop, get_or, arith, ap, ◌∙◌, sym, refl, subst}
use Rattle.std.specs.List.{AllByRecursion}
use Rattle.std.specs.Char.{to_ascii_lowercase}
use Rattle.std.proofs.lemmas.Bool.{cases_lt}
use Rattle.std.proofs.lemmas.List.{get_or-take, get_or_past, length-take}
use Rattle.std.proofs.Math.ListN.{replicate}
use Rattle.std.proofs.Math.Seq.{take-append_seam}
use Rattle.dns_name.specs.Labels.{wire, lowered, IsRawLabel, IsRawName}
use Rattle.dns_name.specs.Names.{IsName}
use Rattle.dns_name.specs.Stored.{labels_of, IsLowerLabel, IsStored}
use Rattle.dns_name.specs.Whole.{IsWire}
use Rattle.dns_name.proofs.Labels.{map-wire, raw_lowered, lower_each, stored_lower}
use Rattle.dns_name.proofs.Steps.{labels_back, is_wire, lowered_same, raw_name}
use Rattle.dns_name.proofs.Texts.{name_of_octets}

-- octets of which each is in lower case
abbrev pub AreLower : List ℕ → Type 0
AreLower octets = AllByRecursion (λ b. to_ascii_lowercase b ≡ b) octets

stays : (octets : List ℕ) → AreLower octets → map to_ascii_lowercase octets ≡ octets
stays [] h = refl
stays (b ∷ octets) h = let a = h.0 in let r = stays octets h.1 in cc

all_lower : (octets : List ℕ) → map to_ascii_lowercase octets ≡ octets → AreLower octets
all_lower [] e = tt
all_lower (b ∷ octets) e = (cc, all_lower octets cc)

-- the labels of octets in lower case are in lower case, and the other way round
lower_labels : (raw : List (List ℕ)) → AllByRecursion IsRawLabel raw → AreLower (wire raw)
    → AllByRecursion IsLowerLabel raw
lower_labels raw h low =
    let wires : wire (lowered raw) ≡ wire raw = sym (map-wire raw h) ∙ stays (wire raw) low in
    let same : lowered raw ≡ raw =
    sym (labels_back (lowered raw) (raw_lowered raw h)) ∙ ap labels_of wires ∙ labels_back raw h in
    subst (AllByRecursion IsLowerLabel) same (lower_each raw)

pub lower_wire : (labels : List (List ℕ)) → IsName labels → AreLower (wire labels)
lower_wire labels name =
    all_lower (wire labels) (map-wire labels name.raw.each
    ∙ ap wire (lowered_same labels name.lower))

-- the name of octets at the front that are in lower case
bytes_front : (n : ℕ) (octets : List ℕ) → ((i : ℕ) → get_or octets i 0 < 256) → (i : ℕ)
    → get_or (take n octets) i 0 < 256
bytes_front n octets bytes i =
    elim (cases_lt i n) [
      | inl lt ↦ rw (get_or-take n octets i 0 lt) (bytes i)
      | inr le ↦
          rw (get_or_past (take n octets) i 0 (omega (arith, length-take n octets))) (omega arith)
    ]

pub lower_name : (octets piece : List ℕ) (n : ℕ) (raw : List (List ℕ))
    → ((i : ℕ) → get_or octets i 0 < 256)
    → piece ≡ take n octets → IsRawName raw → take n octets ≡ wire raw → AreLower piece
    → (labels : List (List ℕ)) × IsName labels × (take n octets ≡ wire labels)
lower_name octets piece n raw bytes p h e low =
    let k = lower_labels raw h.each (subst AreLower (p ∙ e) low) in
    let w = is_wire (take n octets) raw h.each k e (omega (arith, ap length e, h.fits)) in (
      labels_of (take n octets),
      name_of_octets (take n octets) w.0 (bytes_front n octets bytes),
      w.0.spelled,
    )

-- octets that begin with a name are in lower case
pub lower_front : (octets piece rest : List ℕ) (n : ℕ) (labels : List (List ℕ))
    → piece ≡ take n octets
    → IsName labels → octets ≡ wire labels ++ rest → length (wire labels) ≡ n → AreLower piece
lower_front octets piece rest n labels p name e size =
    let front : take n octets ≡ wire labels =
    ap (λ k. take k octets) (sym size) ∙ ap (take (length (wire labels))) e
    ∙ take-append_seam (wire labels) rest in
    subst AreLower (sym (p ∙ front)) (lower_wire labels name)

-- an array to whose front the octets of a name were copied
pub stored_copy : (array octets : List ℕ) → IsWire octets
    → array ≡ octets ++ drop (length octets) (replicate 255 0)
    → IsStored array (length octets) × (labels_of array ≡ labels_of octets)
stored_copy array octets w a =
    let raw = raw_name octets w in
    let lower : map to_ascii_lowercase octets ≡ octets =
    ap (map to_ascii_lowercase) w.spelled ∙ map-wire (labels_of octets) w.each
    ∙ ap wire (lowered_same (labels_of octets) w.lower) ∙ sym w.spelled in
    let s = stored_lower array octets (labels_of octets) raw w.spelled
    (a ∙ ap (λ t. t ++ drop (length octets) (replicate 255 0)) (sym lower)) in
    (s.0, s.1 ∙ lowered_same (labels_of octets) w.lower)
