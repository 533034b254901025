-- One step of a walk over the labels of a name's octets.
use Rattle.std.proofs.Common.{◌≡◌, ℕ, zero, suc, ◌+◌, ◌-◌, ◌<◌, ◌≤◌, List, [], ◌∷◌, ◌++◌, length, take, drop, get_or, arith, ap}
use Rattle.std.proofs.Common.{◌∙◌, sym, refl, append_assoc, append-nil, length-append, length-drop, drop-drop, subst}
use Rattle.std.specs.Prelude.{◌↔◌}
use Rattle.std.proofs.lemmas.List.Concat.{flat_map-append}
use Rattle.std.specs.List.{flat_map, AllByRecursion}
use Rattle.std.proofs.Math.ListN.{replicate}
use Rattle.std.proofs.lemmas.List.{get_or-drop, take_at, drop_at}
use Rattle.dns_name.specs.Labels.{frame, wire, lowered, IsRawLabel, IsRawName}
use Rattle.dns_name.specs.Names.{IsName}
use Rattle.dns_name.specs.Stored.{labels_of, IsStored, IsLowerLabel}
use Rattle.dns_name.specs.Suffix.{EndsWith}
use Rattle.dns_name.specs.Whole.{IsWire}
use Rattle.dns_name.specs.Wildcard.{wildcard}
use Rattle.dns_name.proofs.Labels.{labels_of-wire}

-- the labels of a name on the wire are those that were put there
pub labels_back : (labels : List (List ℕ)) → AllByRecursion IsRawLabel labels
    → labels_of (wire labels) ≡ labels
labels_back labels h = ap labels_of (sym (append-nil (wire labels))) ∙ labels_of-wire labels [] h

-- the octets of a name are its wire form
pub is_wire : (octets : List ℕ) (labels : List (List ℕ)) → AllByRecursion IsRawLabel labels
    → AllByRecursion IsLowerLabel labels
    → octets ≡ wire labels → length octets ≤ 255 → IsWire octets × (labels_of octets ≡ labels)
is_wire octets labels h k e fits =
    let back : labels_of octets ≡ labels = ap labels_of e ∙ labels_back labels h in
    (record { each = rw back h; lower = rw back k; spelled = rw back e; fits = fits }, back)

-- the same of a name
pub name_wire : (octets : List ℕ) (name : List (List ℕ)) → IsName name → octets ≡ wire name
    → IsWire octets × (labels_of octets ≡ name)
name_wire octets name h e =
    is_wire octets name h.raw.each h.lower e (omega (arith, ap length e, h.raw.fits))

-- a name's octets stand at the front of its array
pub name_octets : (array octets : List ℕ) (n : ℕ) → IsStored array n → octets ≡ take n array
    → IsWire octets × (labels_of octets ≡ labels_of array)
name_octets array octets n i e =
    let front : take n array ≡ wire (labels_of array) =
    ap (take n) i.bytes ∙ take_at (wire (labels_of array))
    (replicate (255 - length (wire (labels_of array))) 0) n (sym i.len) in
    is_wire octets (labels_of array) i.name.each i.lower (e
    ∙ front) (omega (arith, i.name.fits, ap length (e ∙ front)))

-- Where a length octet stands that isn't zero: that label, and the name behind it.
pub record Step (octets : List ℕ) (at n : ℕ) : Type 0 where
  pub filled : 0 < n
  pub short : n < 64
  pub room : at + (n + 1) < length octets
  pub size : length (take n (drop (at + 1) octets)) ≡ n
  pub labels : labels_of (drop at octets)
      ≡ take n (drop (at + 1) octets) ∷ labels_of (drop (at + (n + 1)) octets)
  pub rest : IsWire (drop (at + (n + 1)) octets)

step_at : (octets : List ℕ) (at n : ℕ) (labels : List (List ℕ)) → AllByRecursion IsRawLabel labels
    → AllByRecursion IsLowerLabel labels → length (drop at octets) ≤ 255
    → drop at octets ≡ wire labels → get_or octets at 0 ≡ n
    → (n ≡ 0 → ⊥) → Step octets at n
step_at octets at n [] h k fits e head some =
    let at_head : get_or (drop at octets) 0 0 ≡ get_or octets (at + 0) 0 =
    get_or-drop at octets 0 0 in
    let place : at + 0 ≡ at = omega arith in
    absurd (some (sym head ∙ ap (λ k. get_or octets k 0) (sym place) ∙ sym at_head
    ∙ ap (λ t. get_or t 0 0) e))
step_at octets at n (label ∷ labels) h k fits e head some =
    let at_head : get_or (drop at octets) 0 0 ≡ get_or octets (at + 0) 0 =
    get_or-drop at octets 0 0 in
    let place : at + 0 ≡ at = omega arith in
    let len : n ≡ length label = sym head ∙ ap (λ k. get_or octets k 0) (sym place) ∙ sym at_head
    ∙ ap (λ t. get_or t 0 0) e in
    let group : wire (label ∷ labels) ≡ length label ∷ (label ++ wire labels) =
    ap (λ t. length label ∷ t) (append_assoc label (flat_map frame labels) (0 ∷ [])) in
    let behind : drop (at + 1) octets ≡ label ++ wire labels = sym (drop-drop 1 at octets)
    ∙ ap (drop 1) (e ∙ group) in
    let first : take n (drop (at + 1) octets) ≡ label = ap (take n) behind
    ∙ take_at label (wire labels) n (sym len) in
    let sum : at + 1 + n ≡ at + (n + 1) = omega arith in
    let later : drop (at + (n + 1)) octets ≡ wire labels =
    ap (λ k. drop k octets) (sym sum) ∙ sym (drop-drop n (at + 1) octets) ∙ ap (drop n) behind
    ∙ drop_at label (wire labels) n (sym len) in
    let less : length (drop (at + (n + 1)) octets) ≤ 255 =
    omega (arith, length-drop (at + (n + 1)) octets, length-drop at octets) in
    let w = is_wire (drop (at + (n + 1)) octets) labels h.1 k.1 later less in
    let all : labels_of (drop at octets) ≡ label ∷ labels = ap labels_of e
    ∙ labels_back (label ∷ labels) h in
    let p = h.0.filled in
    let q = h.0.short in
    let some_left : length (drop (at + (n + 1)) octets) ≡ length (flat_map frame labels) + 1 =
    ap length later ∙ length-append (flat_map frame labels) (0 ∷ []) in
    record {
      filled = omega arith;
      short = omega arith;
      room = omega (arith, length-drop (at + (n + 1)) octets);
      size = ap length first ∙ sym len;
      labels = all ∙ (let a = first in let b = w.1 in cc);
      rest = w.0;
    }

pub step : (octets : List ℕ) (at : ℕ) → IsWire (drop at octets) → (get_or octets at 0 ≡ 0 → ⊥)
    → Step octets at (get_or octets at 0)
step octets at w some =
    step_at octets at (get_or octets at 0) (labels_of (drop at octets)) w.each w.lower w.fits
    w.spelled refl some

-- A name has a first octet.
pub inside : (octets : List ℕ) (at : ℕ) → IsWire (drop at octets) → at < length octets
inside octets at w =
    let n : length (drop at octets) ≡ length (flat_map frame (labels_of (drop at octets))) + 1 =
    ap length w.spelled ∙ length-append (flat_map frame (labels_of (drop at octets))) (0 ∷ []) in
    omega (arith, length-drop at octets)

-- Where the zero octet stands, no label is left.
no_label : (d : List ℕ) (labels : List (List ℕ)) → AllByRecursion IsRawLabel labels
    → d ≡ wire labels → get_or d 0 0 ≡ 0 → labels ≡ []
no_label d [] h e z = refl
no_label d (label ∷ labels) h e z =
    let len : get_or d 0 0 ≡ length label = ap (λ t. get_or t 0 0) e in
    let p = h.0.filled in
    absurd (omega arith)

pub ended : (octets : List ℕ) (at : ℕ) → IsWire (drop at octets) → get_or octets at 0 ≡ 0
    → labels_of (drop at octets) ≡ []
ended octets at w z =
    let at_head : get_or (drop at octets) 0 0 ≡ get_or octets (at + 0) 0 =
    get_or-drop at octets 0 0 in
    let place : at + 0 ≡ at = omega arith in
    no_label (drop at octets) (labels_of (drop at octets)) w.each w.spelled (at_head
    ∙ ap (λ k. get_or octets k 0) place ∙ z)

-- Labels in lower case stay as they are.
pub lowered_same : (labels : List (List ℕ)) → AllByRecursion IsLowerLabel labels
    → lowered labels ≡ labels
lowered_same [] k = refl
lowered_same (label ∷ labels) k = let a = k.0 in let b = lowered_same labels k.1 in cc

pub raw_name : (octets : List ℕ) → IsWire octets → IsRawName (labels_of octets)
raw_name octets w = record { each = w.each; fits = omega (arith, w.fits, ap length w.spelled) }

-- behind the first label of a name stands its parent
pub behind_first : (octets : List ℕ) → IsWire octets → (get_or octets 0 0 ≡ 0 → ⊥)
    → IsWire (drop (get_or octets 0 0 + 1) octets)
    × ((first : List ℕ)
    × (labels_of octets ≡ first ∷ labels_of (drop (get_or octets 0 0 + 1) octets)))
behind_first octets w some =
    let s = step octets 0 w some in
    let place : 0 + (get_or octets 0 0 + 1) ≡ get_or octets 0 0 + 1 = omega arith in
    let rest : IsWire (drop (get_or octets 0 0 + 1) octets) =
    subst (λ k. IsWire (drop k octets)) place s.rest in
    let labels : labels_of octets ≡ take (get_or octets 0 0)
    (drop (0 + 1) octets) ∷ labels_of (drop (get_or octets 0 0 + 1) octets) = s.labels
    ∙ ap (λ k. take (get_or octets 0 0) (drop (0 + 1) octets) ∷ labels_of (drop k octets)) place in
    (rest, (_, labels))

-- a name with the wildcard's label in front
pub with_wildcard : (octets longer : List ℕ) → IsWire octets → length octets ≤ 253
    → longer ≡ 1 ∷ 0x2A ∷ octets → IsWire longer
    × (labels_of longer ≡ wildcard ∷ labels_of octets)
with_wildcard octets longer w h e =
    is_wire longer (wildcard ∷ labels_of octets)
    (record { filled = omega arith; short = omega arith }, w.each) (refl, w.lower)
    (e ∙ ap (λ t. 1 ∷ 0x2A ∷ t) w.spelled) (omega (arith, ap length e))

-- where more octets are left than the suffix has, a label is left
pub label_left : (octets suffix : List ℕ) (at : ℕ) → IsWire (drop at octets) → IsWire suffix
    → length suffix < length octets - at → (get_or octets at 0 ≡ 0 → ⊥)
label_left octets suffix at w s h z =
    let none : length (drop at octets) ≡ 1 = ap length w.spelled
    ∙ ap (λ ls. length (wire ls)) (ended octets at w z) in
    omega (arith, none, length-drop at octets, inside suffix 0 s)

-- a label in front of labels that are more than the suffix
one_less : (label : List ℕ) (labels other : List (List ℕ)) → (label ∷ labels ≡ other → ⊥)
    → EndsWith (label ∷ labels) other ↔ EndsWith labels other
one_less label labels other h = (forth, λ e. (label ∷ e.0, ap (λ t. label ∷ t) e.1))
  where
    forth : EndsWith (label ∷ labels) other → EndsWith labels other
    forth ([], e) = absurd (h e)
    forth (x ∷ xs, e) = (xs, cc)

pub passes : (octets suffix : List ℕ) (at : ℕ) → IsWire (drop at octets) → IsWire suffix
    → length suffix < length octets - at
    → EndsWith (labels_of (drop at octets))
    (labels_of suffix)
    ↔ EndsWith (labels_of (drop (at + (get_or octets at 0 + 1)) octets)) (labels_of suffix)
passes octets suffix at w s h =
    let t = step octets at w (label_left octets suffix at w s h) in
    let more : labels_of (drop at octets) ≡ labels_of suffix → ⊥ = λ e.
    let same : length (drop at octets) ≡ length suffix = ap length w.spelled
    ∙ ap (λ ls. length (wire ls)) e ∙ sym (ap length s.spelled) in
    omega (arith, same, length-drop at octets) in
    subst (λ ls. EndsWith ls (labels_of suffix)
    ↔ EndsWith (labels_of (drop (at + (get_or octets at 0 + 1)) octets))
    (labels_of suffix)) (sym t.labels) (one_less _ _ _ (λ e. more (t.labels ∙ e)))

-- octets that are no more than the suffix are it, or don't end with it
pub last_ones : (octets suffix : List ℕ) → IsWire octets → IsWire suffix
    → length octets ≤ length suffix
    → (octets ≡ suffix) ↔ EndsWith (labels_of octets) (labels_of suffix)
last_ones octets suffix w s h = (λ e. ([], ap labels_of e), back)
  where
    back : EndsWith (labels_of octets) (labels_of suffix) → octets ≡ suffix
    back ([], e) = w.spelled ∙ ap wire e ∙ sym s.spelled
    back (x ∷ xs, e) =
        let longer : length octets ≡ length (flat_map frame ((x ∷ xs) ++ labels_of suffix)) + 1 =
        ap length w.spelled ∙ ap (λ ls. length (wire ls)) e
        ∙ length-append (flat_map frame ((x ∷ xs) ++ labels_of suffix)) (0 ∷ []) in
        let parts : length (flat_map frame ((x ∷ xs) ++ labels_of suffix))
        ≡ length (flat_map frame (x ∷ xs)) + length
        (flat_map frame (labels_of suffix)) =
        ap length (flat_map-append frame (x ∷ xs) (labels_of suffix))
        ∙ length-append (flat_map frame (x ∷ xs)) (flat_map frame (labels_of suffix)) in
        let whole : length suffix ≡ length (flat_map frame (labels_of suffix)) + 1 =
        ap length s.spelled ∙ length-append (flat_map frame (labels_of suffix)) (0 ∷ []) in
        absurd (omega arith)

-- where labels are left, the octet isn't zero
pub some_left : (octets : List ℕ) (at : ℕ) → IsWire (drop at octets)
    → 0 < length (labels_of (drop at octets)) → (get_or octets at 0 ≡ 0 → ⊥)
some_left octets at w h z = omega (arith, ap length (ended octets at w z))

-- labels behind the first
pub drop_one : (labels : List (List ℕ)) (first : List ℕ) (rest : List (List ℕ)) (n : ℕ) → 0 < n
    → labels ≡ first ∷ rest → drop (n - 1) rest ≡ drop n labels
drop_one labels first rest zero h e = absurd (omega arith)
drop_one labels first rest (suc n) h e =
    let less : suc n - 1 ≡ n = omega arith in
    ap (λ k. drop k rest) less ∙ sym (ap (drop (suc n)) e)
