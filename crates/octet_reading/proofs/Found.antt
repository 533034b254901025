-- The name that octets begin with is the one that was written.
use Rattle.std.proofs.Common.{◌≡◌, ℕ, zero, suc, ◌+◌, ◌-◌, ◌<◌, ◌≤◌, inl, inr, Bool, true, false, List, [], ◌∷◌, ◌++◌, length}
use Rattle.std.proofs.Common.{take, drop, get_or, arith, ap, ◌∙◌, sym, refl, cond, append_assoc, length-append}
use Rattle.std.specs.Prelude.{◌&&◌, nat_le, nat_lt}
use Rattle.std.specs.List.{AllByRecursion, flat_map}
use Rattle.std.specs.Char.{to_ascii_lowercase}
use Rattle.std.proofs.lemmas.Bool.{ltb-true, leb-true, and_parts, cases_lt}
use Rattle.std.proofs.lemmas.Str.Ascii.{lowercase_is}
use Rattle.std.proofs.lemmas.List.{get_or-drop, get_or-take, get_or_past, length-take}
use Rattle.std.proofs.Math.Seq.{drop-append_seam}
use Rattle.rdata_layout.specs.Labels.{frame, wire, IsRawLabel}
use Rattle.rdata_layout.specs.Names.{AreOctets}
use Rattle.rdata_layout.specs.Stored.{IsLowerLabel}
use Rattle.octet_reading.specs.declared.names.NameRead.{NameRead}
use Rattle.octet_reading.specs.declared.names.NameRead.TheVariants.{Whole, Broken}
use Rattle.octet_reading.specs.Names.{is_lower, name_read_from}

-- each octet is below 256
abbrev pub IsBytes : List ℕ → Type 0
IsBytes bytes = (i : ℕ) → get_or bytes i 0 < 256

-- What octets are that are a name from their front: the rest of a label, the labels behind it, and
-- what is left.
pub record Found (room need : ℕ) (octets : List ℕ) (left : ℕ) : Type 0 where
  pub part : List ℕ
  pub labels : List (List ℕ)
  pub rest : List ℕ
  pub spelled : octets ≡ part ++ (wire labels ++ rest)
  pub size : length part ≡ need
  pub lower_part : IsLowerLabel part
  pub small_part : AreOctets part
  pub each : AllByRecursion IsRawLabel labels
  pub lower : AllByRecursion IsLowerLabel labels
  pub small : AllByRecursion AreOctets labels
  pub fits : length (wire labels) ≤ room
  pub left_is : length rest ≡ left

taken_or : (b : Bool) (x : NameRead) (left : ℕ) → cond b x Broken ≡ Whole left
    → (b ≡ true) × (x ≡ Whole left)
taken_or true x left e = (refl, e)
taken_or false x left e = absurd cc

lower_octet : (b : ℕ) → is_lower b ≡ true → to_ascii_lowercase b ≡ b
lower_octet b h = let l = lowercase_is b in let e : to_ascii_lowercase b ≡ b =
    grind (arith, l, h) in e

pub later_bytes : (b : ℕ) (octets : List ℕ) → IsBytes (b ∷ octets) → IsBytes octets
later_bytes b octets h i = h (suc i)

-- what stands behind octets are octets
pub rest_bytes : (octets piece rest : List ℕ) → IsBytes octets → octets ≡ piece ++ rest
    → IsBytes rest
rest_bytes octets piece rest bytes e i =
    let same : rest ≡ drop (length piece) octets =
    sym (ap (drop (length piece)) e ∙ drop-append_seam piece rest) in
    rw (same, get_or-drop) (bytes (length piece + i))

pub take_bytes : (n : ℕ) (octets : List ℕ) → IsBytes octets → IsBytes (take n octets)
take_bytes n octets bytes i =
    elim (cases_lt i n) [
      | inl lt ↦ rw (get_or-take n octets i 0 lt) (bytes i)
      | inr le ↦
          rw (get_or_past (take n octets) i 0 (omega (arith, length-take n octets))) (omega arith)
    ]

-- a label more in front
one_more : (room n : ℕ) (octets : List ℕ) (left : ℕ) → n < 63 → n + 3 ≤ room
    → Found (room - (n + 2)) (suc n) octets left → Found room 0 (suc n ∷ octets) left
one_more room n octets left short fits r =
    let spelled : suc n ∷ octets ≡ wire (r.part ∷ r.labels) ++ r.rest =
    cc (
      r.size,
      r.spelled,
      sym (append_assoc r.part (wire r.labels) r.rest),
      sym (append_assoc r.part (flat_map frame r.labels) (0 ∷ [])),
    ) in
    record {
      part = [];
      labels = r.part ∷ r.labels;
      rest = r.rest;
      spelled = spelled;
      size = refl;
      lower_part = refl;
      small_part = tt;
      each = (record { filled = omega (arith, r.size); short = omega (arith, r.size) }, r.each);
      lower = (r.lower_part, r.lower);
      small = (r.small_part, r.small);
      fits = omega (
        arith,
        r.size,
        r.fits,
        ap length (append_assoc r.part (flat_map frame r.labels) (0 ∷ [])),
        length-append r.part (wire r.labels),
      );
      left_is = r.left_is;
    }

pub found_from : (room need : ℕ) (octets : List ℕ) (left : ℕ) → IsBytes octets → 1 ≤ room
    → name_read_from room need octets ≡ Whole left → Found room need octets left
found_from room need [] left bytes some e = absurd cc
found_from room zero (zero ∷ octets) left bytes some e =
    record {
      part = [];
      labels = [];
      rest = octets;
      spelled = refl;
      size = refl;
      lower_part = refl;
      small_part = tt;
      each = tt;
      lower = tt;
      small = tt;
      fits = some;
      left_is = cc;
    }
found_from room zero (suc n ∷ octets) left bytes some e =
    let t = taken_or (nat_lt n 63 && nat_le (n + 3) room) _ left e in
    let both = and_parts (nat_lt n 63) (nat_le (n + 3) room) t.0 in
    let short = ltb-true n 63 both.0 in
    let fits = leb-true (n + 3) room both.1 in
    one_more room n octets left short fits
    (found_from (room - (n + 2)) (suc n) octets left (later_bytes (suc n) octets bytes)
    (omega arith) t.1)
found_from room (suc need) (b ∷ octets) left bytes some e =
    let t = taken_or (is_lower b) _ left e in
    let r = found_from room need octets left (later_bytes b octets bytes) some t.1 in
    record {
      part = b ∷ r.part;
      labels = r.labels;
      rest = r.rest;
      spelled = ap (λ l. b ∷ l) r.spelled;
      size = ap suc r.size;
      lower_part = cc (lower_octet b t.0, r.lower_part);
      small_part = (bytes 0, r.small_part);
      each = r.each;
      lower = r.lower;
      small = r.small;
      fits = r.fits;
      left_is = r.left_is;
    }
