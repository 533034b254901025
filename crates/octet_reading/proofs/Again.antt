-- A name that was written is found again, whatever follows it.
use Rattle.std.proofs.Common.{◌≡◌, ℕ, ◌+◌, ◌-◌, ◌<◌, ◌≤◌, true, List, [], ◌∷◌, ◌++◌, length, take, drop, arith, ap, ◌∙◌, refl, append_assoc, length-append}
use Rattle.std.specs.List.{list_all, AllByRecursion, flat_map}
use Rattle.std.specs.Char.{to_ascii_lowercase}
use Rattle.std.proofs.lemmas.Bool.{true_from_ne_false, and_from}
use Rattle.std.proofs.lemmas.Str.Ascii.{lowercase_is}
use Rattle.std.proofs.Math.Seq.{take-append_seam, drop-append_seam}
use Rattle.rdata_layout.specs.Labels.{frame, wire, IsRawLabel}
use Rattle.rdata_layout.specs.Names.{IsName}
use Rattle.rdata_layout.specs.Stored.{IsLowerLabel}
use Rattle.octet_reading.specs.declared.names.NameRead.TheVariants.{Whole}
use Rattle.octet_reading.specs.Names.{is_lower, name_read_from, name_read}
use Rattle.octet_reading.proofs.Fronts.{begin_label, pass_label}

stays_lower : (b : ℕ) → to_ascii_lowercase b ≡ b → is_lower b ≡ true
stays_lower b e = let l = lowercase_is b in
    true_from_ne_false (is_lower b) (λ h. let k : ⊥ = grind (arith, l, h, e) in k)

all_lower : (label : List ℕ) → IsLowerLabel label → list_all is_lower label ≡ true
all_lower [] h = refl
all_lower (b ∷ label) h =
    let first : to_ascii_lowercase b ≡ b = cc in
    let others : IsLowerLabel label = cc in
    and_from (is_lower b) (list_all is_lower label) (stays_lower b first) (all_lower label others)

pub again_from : (room : ℕ) (labels : List (List ℕ)) (rest : List ℕ)
    → AllByRecursion IsRawLabel labels
    → AllByRecursion IsLowerLabel labels → length (wire labels) ≤ room
    → name_read_from room 0 (wire labels ++ rest) ≡ Whole (length rest)
again_from room [] rest each lower fits = refl
again_from room (l ∷ labels) rest each lower fits =
    let filled : 0 < length l = each.0.filled in
    let short : length l < 64 = each.0.short in
    let regrouped : wire (l ∷ labels) ++ rest ≡ length l ∷ (l ++ (wire labels ++ rest)) =
    cc (append_assoc l (wire labels) rest, append_assoc l (flat_map frame labels) (0 ∷ [])) in
    let part : list_all is_lower (take (length l) (l ++ (wire labels ++ rest))) ≡ true =
    ap (list_all is_lower) (take-append_seam l (wire labels ++ rest)) ∙ all_lower l lower.0 in
    let room_left : length (wire labels) ≤ room - (length l + 1) =
    omega (
      arith,
      ap length (append_assoc l (flat_map frame labels) (0 ∷ [])),
      length-append l (wire labels),
      length-append (flat_map frame labels) (0 ∷ []),
      fits,
    ) in
    ap (name_read_from room 0) regrouped
    ∙ begin_label room (length l) (l ++ (wire labels ++ rest)) filled (omega (arith, short))
    (omega (
      arith,
      ap length (append_assoc l (flat_map frame labels) (0 ∷ [])),
      length-append l (wire labels),
      length-append (flat_map frame labels) (0 ∷ []),
      fits,
    ))
    ∙ pass_label (room - (length l + 1)) (length l) (l ++ (wire labels ++ rest)) part
    ∙ ap (name_read_from (room - (length l + 1)) 0) (drop-append_seam l (wire labels ++ rest))
    ∙ again_from (room - (length l + 1)) labels rest each.1 lower.1 room_left

pub front_again : (labels : List (List ℕ)) (rest : List ℕ) → IsName labels
    → name_read (wire labels ++ rest) ≡ Whole (length rest)
front_again labels rest name = again_from 255 labels rest name.raw.each name.lower name.raw.fits

-- what stands behind the octets of a name that was found
pub behind_found : (labels : List (List ℕ)) (rest : List ℕ)
    → drop (length (wire labels ++ rest) - length rest) (wire labels ++ rest) ≡ rest
behind_found labels rest =
    let n : length (wire labels ++ rest) - length rest ≡ length (wire labels) =
    omega (arith, length-append (wire labels) rest) in
    ap (λ k. drop k (wire labels ++ rest)) n ∙ drop-append_seam (wire labels) rest
