use Rattle.std.proofs.Common.{◌≡◌, ℕ, ◌<◌, List, [], ◌∷◌, ◌++◌, length, arith, ap, ◌∙◌, sym, refl, append_assoc, zero, suc, map, drop, ◌-◌}
use Rattle.std.specs.List.{flat_map, AllByRecursion}
use Rattle.std.specs.Char.{to_ascii_lowercase}
use Rattle.std.proofs.Math.ListN.{replicate}
use Rattle.std.proofs.lemmas.List.{map-append, length-map, drop-replicate}
use Rattle.std.proofs.lemmas.Str.Ascii.{lowercase_is, lowercase-lowercase}
use Rattle.dns_name.specs.Labels.{frame, wire, lowered, IsRawLabel, IsRawName}
use Rattle.dns_name.specs.Wire.{BeginsWithName}
use Rattle.dns_name.specs.Stored.{split, labels_of, stored, IsStored, IsLowerLabel}

cut_front : (bytes : List ℕ) → (split 0 bytes).0 ≡ []
cut_front [] = refl
cut_front (zero ∷ bytes) = refl
cut_front (suc n ∷ bytes) = refl

cut_label : (l rest : List ℕ) → split (length l) (l ++ rest) ≡ (l, labels_of rest)
cut_label [] rest = ap (λ t. (t, labels_of rest)) (cut_front rest)
cut_label (b ∷ l) rest = ap (λ (r : List ℕ × List (List ℕ)). (b ∷ r.0, r.1)) (cut_label l rest)

-- what is cut from the wire is what was put on it
pub labels_of-wire : (labels : List (List ℕ)) (rest : List ℕ) → AllByRecursion IsRawLabel labels
    → labels_of (wire labels ++ rest) ≡ labels
labels_of-wire [] rest h = refl
labels_of-wire ([] ∷ ls) rest h = absurd (let p : 0 < length {A = ℕ} [] = h.0.filled in omega arith)
labels_of-wire ((b ∷ l) ∷ ls) rest h =
    let e : (l ++ flat_map frame ls ++ (0 ∷ [])) ++ rest ≡ l ++ (wire ls ++ rest) =
    simp append_assoc in
    ap (λ t. (split (suc (length l)) (b ∷ t)).0 ∷ (split (suc (length l)) (b ∷ t)).1) e
    ∙ ap (λ (r : List ℕ × List (List ℕ)). (b ∷ r.0) ∷ r.1) (cut_label l (wire ls ++ rest))
    ∙ ap (λ t. (b ∷ l) ∷ t) (labels_of-wire ls rest h.1)

-- what a name's wire bytes are in lower case: those of the labels in lower case
lower_small : (n : ℕ) → n < 64 → to_ascii_lowercase n ≡ n
lower_small n h = (lowercase_is n).1 (omega arith)

map-frames : (raw : List (List ℕ)) → AllByRecursion IsRawLabel raw
    → map to_ascii_lowercase (flat_map frame raw) ≡ flat_map frame (lowered raw)
map-frames [] h = refl
map-frames (l ∷ ls) h =
    let n : to_ascii_lowercase (length l) ≡ length (map to_ascii_lowercase l) =
    lower_small _ h.0.short ∙ sym (length-map l to_ascii_lowercase) in
    let t = map-append to_ascii_lowercase l (flat_map frame ls) in
    let r = map-frames ls h.1 in
    cc

pub map-wire : (raw : List (List ℕ)) → AllByRecursion IsRawLabel raw
    → map to_ascii_lowercase (wire raw) ≡ wire (lowered raw)
map-wire raw h = map-append to_ascii_lowercase (flat_map frame raw) (0 ∷ [])
    ∙ ap (λ t. t ++ 0 ∷ []) (map-frames raw h)

pub raw_lowered : (raw : List (List ℕ)) → AllByRecursion IsRawLabel raw
    → AllByRecursion IsRawLabel (lowered raw)
raw_lowered [] h = tt
raw_lowered (l ∷ ls) h =
    let e = length-map l to_ascii_lowercase in
    let p = h.0.filled in
    let q = h.0.short in
    (record { filled = omega arith; short = omega arith }, raw_lowered ls h.1)

lower_twice : (l : List ℕ)
    → map to_ascii_lowercase (map to_ascii_lowercase l) ≡ map to_ascii_lowercase l
lower_twice [] = refl
lower_twice (b ∷ l) = let e = lowercase-lowercase b in let r = lower_twice l in cc

pub lower_each : (raw : List (List ℕ)) → AllByRecursion IsLowerLabel (lowered raw)
lower_each [] = tt
lower_each (l ∷ ls) = (lower_twice l, lower_each ls)

-- an array that holds a name's bytes in lower case
pub stored_lower : (array spelled : List ℕ) (raw : List (List ℕ)) → IsRawName raw
    → spelled ≡ wire raw
    → array ≡ map to_ascii_lowercase spelled ++ drop (length spelled) (replicate 255 0)
    → IsStored array (length spelled)
    × (labels_of array ≡ lowered raw)
stored_lower array spelled raw h e a =
    let w : map to_ascii_lowercase spelled ≡ wire (lowered raw) = ap (map to_ascii_lowercase) e
    ∙ map-wire raw h.each in
    let all = raw_lowered raw h.each in
    let len : length spelled ≡ length (wire (lowered raw)) =
    sym (length-map spelled to_ascii_lowercase) ∙ ap length w in
    let fits = h.fits in
    let back : array ≡ wire (lowered raw) ++ replicate (255 - length spelled) 0 =
    a ∙ ap (λ t. t ++ drop (length spelled) (replicate 255 0)) w
    ∙ ap (λ t. wire (lowered raw) ++ t) (drop-replicate (length spelled) 255 0) in
    let same : labels_of array ≡ lowered raw = ap labels_of back
    ∙ labels_of-wire (lowered raw) _ all in (
      record {
        name = rw same (record { each = all; fits = omega (arith, ap length e) });
        lower = rw same (lower_each raw);
        bytes = rw same (back ∙ ap (λ n. wire (lowered raw) ++ replicate (255 - n) 0) len);
        len = rw same len;
      },
      same,
    )

-- an array that held the root, and then a name's bytes in lower case
pub stored_over : (old array spelled : List ℕ) (n : ℕ) (raw : List (List ℕ)) → IsStored old n
    → labels_of old ≡ [] → IsRawName raw → spelled ≡ wire raw
    → array ≡ map to_ascii_lowercase spelled ++ drop (length spelled) old
    → IsStored array (length spelled)
    × (labels_of array ≡ lowered raw)
stored_over old array spelled n raw root none h e a =
    let zeros : old ≡ replicate 255 0 = root.bytes ∙ ap stored none in
    stored_lower array spelled raw h e
    (a ∙ ap (λ t. map to_ascii_lowercase spelled ++ drop (length spelled) t) zeros)

-- the labels of the name that bytes begin with
begin_with : (bytes : List ℕ) (labels : List (List ℕ)) (n : ℕ) → (b : BeginsWithName bytes labels n)
    → b.raw ≡ labels_of bytes
begin_with bytes labels n b = sym (ap labels_of b.spelled ∙ labels_of-wire b.raw b.rest b.name.each)

-- bytes begin with one name at most
pub one_name : (bytes : List ℕ) (labels : List (List ℕ)) (n : ℕ) → BeginsWithName bytes labels n
    → (others : List (List ℕ)) (m : ℕ) → BeginsWithName bytes others m → (others ≡ labels) × (m ≡ n)
one_name bytes labels n b others m o =
    let raw : o.raw ≡ b.raw = begin_with bytes others m o ∙ sym (begin_with bytes labels n b) in
    (o.same ∙ ap lowered raw ∙ sym b.same, o.size ∙ ap (λ r. length (wire r)) raw ∙ sym b.size)

-- two names with one wire form are one
pub one_wire : (labels others : List (List ℕ)) → IsRawName labels → IsRawName others
    → wire labels ≡ wire others → labels ≡ others
one_wire labels others n o e =
    sym (labels_of-wire labels [] n.each) ∙ ap (λ w. labels_of (w ++ [])) e
    ∙ labels_of-wire others [] o.each
