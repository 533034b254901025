-- What a text reads as.
use Rattle.std.proofs.Common.{◌≡◌, ℕ, zero, suc, ◌+◌, ◌<◌, ◌≤◌, List, [], ◌∷◌, ◌++◌, length, arith, ap, ◌∙◌, sym, refl, subst}
use Rattle.std.proofs.Common.{true, cond, length-append, Result, Ok, Err, map, inl, inr, get_or}
use Rattle.std.specs.Prelude.{nat_le, nat_lt, ◌==◌, ◌&&◌}
use Rattle.std.specs.Char.{to_ascii_lowercase}
use Rattle.std.specs.List.{AllByRecursion}
use Rattle.std.specs.Result.{result_map_both}
use Rattle.std.specs.Str.{bytes_eq}
use Rattle.std.proofs.lemmas.Bool.{cond_both, leb-true, leb-false, ltb-false, and_parts, cases_lt}
use Rattle.std.proofs.lemmas.List.{length-map}
use Rattle.std.proofs.lemmas.Str.Ascii.{lowercase_is, lowercase_ascii}
use Rattle.dns_name.specs.Labels.{frame, wire, lowered, IsRawLabel}
use Rattle.dns_name.specs.Names.{IsName, AreOctets}
use Rattle.dns_name.specs.Stored.{labels_of}
use Rattle.dns_name.specs.Whole.{IsWire}
use Rattle.dns_name.proofs.Steps.{raw_name}
use Rattle.std.specs.List.{flat_map}
use Rattle.octets.specs.Octal.{has_octal, octal_of, is_octal_digit}
use Rattle.dns_name.specs.Text.{Progress, read_from, after_byte, take_byte, add_character, end_label, is_graphic, dot, backslash, ended}
use Rattle.dns_name.specs.Text.{at_the_end, labels_of_text, name_of_text, root_text}
use Rattle.dns_name.specs.Text.Progress.{Reading, Stopped}
use Rattle.dns_name.specs.declared.fault.NameFault.{NameFault}
use Rattle.dns_name.specs.declared.fault.NameFault.TheVariants.{BadEscape, LabelTooLong, NameTooLong, BadByte}
use Rattle.dns_name.proofs.Labels.{raw_lowered, map-wire, lower_each}

-- labels that are a name, in either case
record IsRaw (labels : List (List ℕ)) : Type 0 where
  each : AllByRecursion IsRawLabel labels
  octets : AllByRecursion AreOctets labels
  fits : length (wire labels) ≤ 255

-- whole labels and a part of the next that can be a name
record IsPart (done : List (List ℕ)) (label : List ℕ) : Type 0 where
  whole : IsRaw done
  octets : AreOctets label
  short : length label ≤ 63
  fits : 0 < length label → length (wire (done ++ label ∷ [])) ≤ 255

abbrev IsGood : Progress → Type 0
IsGood (Reading passing done label) = IsPart done label
IsGood (Stopped fault) = Unit {0}

octets_push : (label : List ℕ) (b : ℕ) → AreOctets label → b < 256 → AreOctets (label ++ b ∷ [])
octets_push [] b h k = (k, tt)
octets_push (x ∷ label) b h k = (h.0, octets_push label b h.1 k)

each_push : (done : List (List ℕ)) (label : List ℕ) → AllByRecursion IsRawLabel done
    → IsRawLabel label → AllByRecursion IsRawLabel (done ++ label ∷ [])
each_push [] label h k = (k, tt)
each_push (x ∷ done) label h k = (h.0, each_push done label h.1 k)

labels_push : (done : List (List ℕ)) (label : List ℕ) → AllByRecursion AreOctets done
    → AreOctets label → AllByRecursion AreOctets (done ++ label ∷ [])
labels_push [] label h k = (k, tt)
labels_push (x ∷ done) label h k = (h.0, labels_push done label h.1 k)

-- a part that isn't empty, as the last label
last_label : (done : List (List ℕ)) (label : List ℕ) → 0 < length label → IsPart done label
    → IsRaw (done ++ label ∷ [])
last_label done label filled p = record {
  each = each_push done label p.whole.each
      (record { filled = filled; short = omega (arith, p.short) });
  octets = labels_push done label p.whole.octets p.octets;
  fits = p.fits filled;
}

good_dot : (done : List (List ℕ)) (label : List ℕ) (at : ℕ) → IsPart done label
    → IsGood (end_label done label at)
good_dot done [] at p = tt
good_dot done (b ∷ label) at p = record {
  whole = last_label done (b ∷ label) (omega arith) p;
  octets = tt;
  short = omega arith;
  fits = λ h. absurd (omega arith);
}

good_character : (done : List (List ℕ)) (label : List ℕ) (at value more : ℕ) → value < 256
    → IsPart done label → IsGood (add_character done label at value more)
good_character done label at value more small p =
    cond_both (nat_le 63 (length label)) (Stopped (LabelTooLong at)) _ IsGood (λ e. tt) (λ short.
    cond_both (nat_lt 255 (length (wire (done ++ (label ++ value ∷ []) ∷ []))))
    (Stopped (NameTooLong at))
    (Reading more done (label ++ value ∷ [])) IsGood (λ e. tt) (λ fits.
    let room = ltb-false 255 (length (wire (done ++ (label ++ value ∷ []) ∷ []))) fits in
    record {
      whole = p.whole;
      octets = octets_push label value p.octets small;
      short = omega (arith, leb-false 63 (length label) short, length-append label (value ∷ []));
      fits = λ h. room;
    }))

small_octal : (rest : List ℕ) → has_octal rest ≡ true → octal_of rest < 256
small_octal rest o =
    let s : octal_of rest ≤ 255 =
    leb-true (octal_of rest) 255
    (and_parts (is_octal_digit (get_or rest 0 0) && is_octal_digit (get_or rest 1 0)
    && is_octal_digit (get_or rest 2 0))
    (nat_le (octal_of rest) 255) o).1 in
    omega arith

small_byte : (b : ℕ) → is_graphic b ≡ true → b < 256
small_byte b g = let s : b ≤ 0x7E =
    leb-true b 0x7E (and_parts (nat_le 0x21 b) (nat_le b 0x7E) g).1 in omega arith

good_byte : (done : List (List ℕ)) (label : List ℕ) (at b : ℕ) (rest : List ℕ) → IsPart done label
    → IsGood (take_byte done label at b rest)
good_byte done label at b rest p =
    cond_both (b == dot) (end_label done label at) _ IsGood (λ e. good_dot done label at p) (λ d.
    cond_both (b == backslash)
    (cond (has_octal rest) (add_character done label at (octal_of rest) 3)
    (Stopped (BadEscape at))) _ IsGood
    (λ e. cond_both (has_octal rest) (add_character done label at (octal_of rest) 3)
    (Stopped (BadEscape at)) IsGood
    (λ o. good_character done label at (octal_of rest) 3 (small_octal rest o) p) (λ o. tt))
    (λ e. cond_both (is_graphic b) (add_character done label at b 0)
    (Stopped (BadByte at)) IsGood (λ g. good_character done label at b 0 (small_byte b g) p)
    (λ g. tt)))

good_step : (p : Progress) (at b : ℕ) (rest : List ℕ) → IsGood p → IsGood (after_byte p at b rest)
good_step (Reading zero done label) at b rest g = good_byte done label at b rest g
good_step (Reading (suc n) done label) at b rest g = g
good_step (Stopped fault) at b rest g = tt

good_text : (p : Progress) (at : ℕ) (text : List ℕ) → IsGood p → IsGood (read_from p at text)
good_text p at [] g = g
good_text p at (b ∷ text) g = good_text (after_byte p at b text) (at + 1) text (good_step p at b text g)

good_end : (done : List (List ℕ)) (label : List ℕ) (at : ℕ) (raw : List (List ℕ))
    → IsPart done label → ended done label at ≡ Ok raw → IsRaw raw
good_end [] [] at raw p e = absurd (cc)
good_end (first ∷ done) [] at raw p e = let same : first ∷ done ≡ raw = cc in
    subst IsRaw same p.whole
good_end [] (b ∷ label) at raw p e = let same : (b ∷ label) ∷ [] ≡ raw = cc in
    subst IsRaw same (last_label [] (b ∷ label) (omega arith) p)
good_end (first ∷ done) (b ∷ label) at raw p e =
    let same : (first ∷ done) ++ (b ∷ label) ∷ [] ≡ raw = cc in
    subst IsRaw same (last_label (first ∷ done) (b ∷ label) (omega arith) p)

good_progress : (p : Progress) (at : ℕ) (raw : List (List ℕ)) → IsGood p → at_the_end p at ≡ Ok raw
    → IsRaw raw
good_progress (Reading passing done label) at raw g e = good_end done label at raw g e
good_progress (Stopped fault) at raw g e = absurd (cc)

nothing : IsRaw []
nothing = record { each = tt; octets = tt; fits = omega arith }

start : IsPart [] []
start = record {
  whole = nothing;
  octets = tt;
  short = omega arith;
  fits =
      λ h. absurd (omega arith);
}

raw_text : (text : List ℕ) (raw : List (List ℕ)) → labels_of_text text ≡ Ok raw → IsRaw raw
raw_text text raw =
    cond_both (bytes_eq text root_text) (Ok [])
    (at_the_end (read_from (Reading 0 [] []) 0 text) (length text)) (λ r. r ≡ Ok raw → IsRaw raw)
    (λ root e. let same : [] ≡ raw = cc in subst IsRaw same nothing)
    (λ other e. good_progress (read_from (Reading 0 [] []) 0 text) (length text) raw
    (good_text (Reading 0 [] []) 0 text start) e)

-- in lower case
lower_octet : (b : ℕ) → b < 256 → to_ascii_lowercase b < 256
lower_octet b h = elim (cases_lt b 128) [
  | inl s ↦ let l = lowercase_ascii b s in omega arith
  | inr s ↦ let l : to_ascii_lowercase b ≡ b = (lowercase_is b).2 (omega arith) in omega arith
]

lower_octets : (label : List ℕ) → AreOctets label → AreOctets (map to_ascii_lowercase label)
lower_octets [] h = tt
lower_octets (b ∷ label) h = (lower_octet b h.0, lower_octets label h.1)

lower_labels : (raw : List (List ℕ)) → AllByRecursion AreOctets raw
    → AllByRecursion AreOctets (lowered raw)
lower_labels [] h = tt
lower_labels (label ∷ raw) h = (lower_octets label h.0, lower_labels raw h.1)

name_of_raw : (raw : List (List ℕ)) → IsRaw raw → IsName (lowered raw)
name_of_raw raw r =
    let size : length (wire (lowered raw)) ≡ length (wire raw) =
    sym (ap length (map-wire raw r.each)) ∙ length-map (wire raw) to_ascii_lowercase in
    record {
      raw = record { each = raw_lowered raw r.each; fits = omega (arith, r.fits) };
      lower = lower_each raw;
      octets = lower_labels raw r.octets;
    }

-- A text that reads as a name reads as labels that are a name.
pub reads_names : (text : List ℕ) (labels : List (List ℕ)) → name_of_text text ≡ Ok labels
    → IsName labels
reads_names text labels e = go (labels_of_text text) refl e
  where
    go : (r : Result (List (List ℕ)) NameFault) → labels_of_text text ≡ r
        → result_map_both lowered (λ fault. fault) r ≡ Ok labels → IsName labels
    go (Ok raw) s k = let same : lowered raw ≡ labels = cc in
        subst IsName same (name_of_raw raw (raw_text text raw s))
    go (Err fault) s k = absurd (cc)

-- the labels that are spelled by octets
pub all_octets : (xs : List ℕ) → ((i : ℕ) → get_or xs i 0 < 256) → AreOctets xs
all_octets [] h = tt
all_octets (x ∷ xs) h = (h 0, all_octets xs (λ i. h (suc i)))

octets_front : (xs ys : List ℕ) → AreOctets (xs ++ ys) → AreOctets xs
octets_front [] ys h = tt
octets_front (x ∷ xs) ys h = (h.0, octets_front xs ys h.1)

octets_back : (xs ys : List ℕ) → AreOctets (xs ++ ys) → AreOctets ys
octets_back [] ys h = h
octets_back (x ∷ xs) ys h = octets_back xs ys h.1

octets_of_frames : (labels : List (List ℕ)) → AreOctets (flat_map frame labels)
    → AllByRecursion AreOctets labels
octets_of_frames [] h = tt
octets_of_frames (label ∷ labels) h = (
  octets_front label (flat_map frame labels) h.1,
  octets_of_frames labels (octets_back label (flat_map frame labels) h.1),
)

-- the labels of a name are a name
pub name_of_octets : (octets : List ℕ) → IsWire octets → ((i : ℕ) → get_or octets i 0 < 256)
    → IsName (labels_of octets)
name_of_octets octets w h = record {
  raw = raw_name octets w;
  lower = w.lower;
  octets = octets_of_frames (labels_of octets)
      (octets_front (flat_map frame (labels_of octets)) (0 ∷ [])
      (subst AreOctets w.spelled (all_octets octets h)));
}
