-- What the reading byte by byte does at the characters, labels and dots of a text.
use Rattle.std.proofs.Common.{◌≡◌, ℕ, ◌+◌, ◌-◌, ◌*◌, ◌<◌, ◌≤◌, List, [], ◌∷◌, ◌++◌, length, drop, arith, ap, ◌∙◌, sym, refl, subst, inl, inr}
use Rattle.std.proofs.Common.{true, append-nil, append_assoc, length-append, Ok, Err}
use Rattle.std.specs.Prelude.{◌⊎◌}
use Rattle.std.specs.List.{AllZip, AllByRecursion, concat, flat_map}
use Rattle.std.specs.Str.{bytes_eq}
use Rattle.std.proofs.lemmas.Bool.{and_from, le-leb, lt-leb, lt-ltb, le-ltb, cond-false, false_from_ne_true}
use Rattle.std.proofs.lemmas.List.{drop_at}
use Rattle.std.proofs.lemmas.Slice.Eq.{bytes_eq-Decides}
use Rattle.octets.specs.Octal.{is_octal_digit, has_octal}
use Rattle.dns_name.specs.Labels.{wire, IsRawLabel, IsRawName}
use Rattle.dns_name.specs.Text.{Progress, read_from, take_byte, add_character, ended, at_the_end, labels_of_text, root_text}
use Rattle.dns_name.specs.Text.Progress.{Reading, Stopped}
use Rattle.dns_name.specs.declared.fault.NameFault.{NameFault}
use Rattle.dns_name.specs.declared.fault.NameFault.TheVariants.{LabelTooLong, NameTooLong, EmptyLabel}
use Rattle.dns_name.proofs.Reading.{at_escape, at_graphic, passed, ends}
use Rattle.text_meanings.specs.Characters.{dot, backslash, IsBare, IsEscape, IsCharacter}
use Rattle.text_meanings.specs.Names.{SpellsLabel, between, IsTextOf}
use Rattle.text_meanings.specs.Faults.{IsFront}
use Rattle.text_meanings.proofs.Pieces.{wire_push, wire_front, so_far_done, so_far_fits, so_far_short, so_far_last, between_dots}

-- a reading that has stopped stays so
stays : (fault : NameFault) (at : ℕ) (text : List ℕ)
    → read_from (Stopped fault) at text ≡ Stopped fault
stays fault at [] = refl
stays fault at (b ∷ rest) = stays fault (at + 1) rest

pub stops_at : (done : List (List ℕ)) (label : List ℕ) (at b : ℕ) (rest : List ℕ)
    (fault : NameFault) → take_byte done label at b rest ≡ Stopped fault
    → read_from (Reading 0 done label) at (b ∷ rest) ≡ Stopped fault
stops_at done label at b rest fault e =
    ap (λ p. read_from p (at + 1) rest) e ∙ stays fault (at + 1) rest

-- a character, as the reading takes its first byte
record IsTaken (piece rest : List ℕ) (octet : ℕ) : Type 0 where
  first : ℕ
  behind : List ℕ
  bytes : piece ≡ first ∷ behind
  takes : (done : List (List ℕ)) (label : List ℕ) (at : ℕ)
      → take_byte done label at first (behind ++ rest)
      ≡ add_character done label at octet (length behind)

octal_digit : (d : ℕ) → d < 8 → is_octal_digit (0x30 + d) ≡ true
octal_digit d h =
    and_from _ _ (le-leb 0x30 (0x30 + d) (omega arith)) (le-leb (0x30 + d) 0x37 (omega arith))

pub three_digits : (a b c : ℕ) (rest : List ℕ) → a < 8 → b < 8 → c < 8 → a * 64 + b * 8 + c ≤ 255
    → has_octal ((0x30 + a) ∷ (0x30 + b) ∷ (0x30 + c) ∷ rest) ≡ true
three_digits a b c rest x y z small =
    let value : (0x30 + a - 0x30) * 64 + (0x30 + b - 0x30) * 8 + (0x30 + c - 0x30)
    ≡ a * 64 + b * 8 + c = omega arith in
    and_from _ _ (and_from _ _ (and_from _ _ (octal_digit a x) (octal_digit b y)) (octal_digit c z))
    (le-leb _ 255 (omega arith))

escape_taken : (piece rest : List ℕ) (octet : ℕ) → IsEscape piece octet → IsTaken piece rest octet
escape_taken piece rest octet e =
    let digits : List ℕ = (0x30 + e.first) ∷ (0x30 + e.second) ∷ (0x30 + e.third) ∷ [] in
    let value : (0x30 + e.first - 0x30) * 64 + (0x30 + e.second - 0x30) * 8 + (0x30 + e.third - 0x30)
    ≡ octet = omega (arith, e.value) in
    let has : has_octal (digits ++ rest) ≡ true =
    three_digits e.first e.second e.third rest e.digits.0 e.digits.1 e.digits.2
    (omega (arith, e.value, e.small)) in
    record {
      first = backslash;
      behind = digits;
      bytes = e.spelled;
      takes = λ done label at. at_escape done label at backslash (digits ++ rest) refl has
          ∙ ap (λ v. add_character done label at v 3) value;
    }

bare_taken : (piece rest : List ℕ) (octet : ℕ) → IsBare octet → piece ≡ octet ∷ []
    → IsTaken piece rest octet
bare_taken piece rest octet b e = record {
  first = octet;
  behind = [];
  bytes = e;
  takes = λ done label at. at_graphic done label at octet rest b.no_dot b.no_backslash
      (and_from _ _ (le-leb 0x21 octet (omega (arith, b.above_space)))
      (le-leb octet 0x7E (omega (arith, b.below_delete))));
}

taken : (piece rest : List ℕ) (octet : ℕ) → IsCharacter piece octet → IsTaken piece rest octet
taken piece rest octet c = elim c [
  | inl b ↦ bare_taken piece rest octet b.0 b.1
  | inr e ↦ escape_taken piece rest octet e
]

module _ (done : List (List ℕ)) (label : List ℕ) (at : ℕ) (piece rest : List ℕ) (octet : ℕ)
    (c : IsCharacter piece octet) where
  -- what a character does is what adding its octet does
  pub at_character : (p : Progress)
      → ((more : ℕ) → add_character done label at octet more ≡ p)
      → read_from (Reading 0 done label) at (piece ++ rest)
      ≡ read_from p (at + 1) (drop 1 piece ++ rest)
  at_character p e =
      let t = taken piece rest octet c in
      let bytes : piece ≡ t.first ∷ t.behind = t.bytes in
      ap (λ q. read_from (Reading 0 done label) at (q ++ rest)) bytes
      ∙ ap (λ q. read_from q (at + 1) (t.behind ++ rest)) (t.takes done label at ∙ e (length t.behind))
      ∙ ap (λ q. read_from p (at + 1) (drop 1 q ++ rest)) (sym bytes)

  pub stops_by : (fault : NameFault)
      → ((more : ℕ) → add_character done label at octet more ≡ Stopped fault)
      → read_from (Reading 0 done label) at (piece ++ rest) ≡ Stopped fault
  stops_by fault e = at_character (Stopped fault) e ∙ stays fault (at + 1) (drop 1 piece ++ rest)

  pub long_label : 63 ≤ length label
      → read_from (Reading 0 done label) at (piece ++ rest) ≡ Stopped (LabelTooLong at)
  long_label h = stops_by (LabelTooLong at)
      (λ more. let a = le-leb 63 (length label) h in rw a refl)

  pub long_name : length label < 63 → 255 < length (wire (done ++ (label ++ octet ∷ []) ∷ []))
      → read_from (Reading 0 done label) at (piece ++ rest) ≡ Stopped (NameTooLong at)
  long_name h k = stops_by (NameTooLong at)
      (λ more. let a = lt-leb 63 (length label) h in
      let b = lt-ltb 255 (length (wire (done ++ (label ++ octet ∷ []) ∷ []))) k in rw (a, b) refl)

  pub good_character : length label < 63
      → length (wire (done ++ (label ++ octet ∷ []) ∷ [])) ≤ 255
      → read_from (Reading 0 done label) at (piece ++ rest)
      ≡ read_from (Reading 0 done (label ++ octet ∷ [])) (at + length piece) rest
  good_character h k =
      let a = lt-leb 63 (length label) h in
      let b = le-ltb 255 (length (wire (done ++ (label ++ octet ∷ []) ∷ []))) k in
      let t = taken piece rest octet c in
      let bytes : piece ≡ t.first ∷ t.behind = t.bytes in
      let adds : add_character done label at octet (length t.behind)
      ≡ Reading (length t.behind) done (label ++ octet ∷ []) = rw (a, b) refl in
      let size : at + 1 + length t.behind ≡ at + length piece = omega (arith, ap length bytes) in
      ap (λ q. read_from (Reading 0 done label) at (q ++ rest)) bytes
      ∙ ap (λ q. read_from q (at + 1) (t.behind ++ rest)) (t.takes done label at ∙ adds)
      ∙ passed (length t.behind) done (label ++ octet ∷ []) (at + 1) (t.behind ++ rest)
      (omega (arith, length-append t.behind rest))
      ∙ ap (λ n. read_from (Reading 0 done (label ++ octet ∷ [])) n
      (drop (length t.behind) (t.behind ++ rest))) size
      ∙ ap (read_from (Reading 0 done (label ++ octet ∷ [])) (at + length piece))
      (drop_at t.behind rest (length t.behind) refl)

-- the characters of a label
label_reads : (pieces : List (List ℕ)) (octets : List ℕ) → AllZip IsCharacter pieces octets
    → (done : List (List ℕ)) (label : List ℕ) (at : ℕ) (rest : List ℕ)
    → length (label ++ octets) ≤ 63
    → (0 < length octets → length (wire (done ++ (label ++ octets) ∷ [])) ≤ 255)
    → read_from (Reading 0 done label) at (concat pieces ++ rest)
    ≡ read_from (Reading 0 done (label ++ octets)) (at + length (concat pieces)) rest
label_reads [] [] h done label at rest short fits =
    let place : at ≡ at + 0 = omega arith in
    ap (λ n. read_from (Reading 0 done label) n rest) place
    ∙ ap (λ l. read_from (Reading 0 done l) (at + 0) rest) (sym (append-nil label))
label_reads [] (octet ∷ octets) h done label at rest short fits = absurd h
label_reads (piece ∷ pieces) [] h done label at rest short fits = absurd h
label_reads (piece ∷ pieces) (octet ∷ octets) h done label at rest short fits =
    let group : (label ++ octet ∷ []) ++ octets ≡ label ++ octet ∷ octets =
    append_assoc label (octet ∷ []) octets in
    let size = length-append label (octet ∷ octets) in
    let one = length-append label (octet ∷ []) in
    let whole = wire_push done (label ++ octet ∷ octets) in
    let part = wire_push done (label ++ octet ∷ []) in
    let room = fits (omega arith) in
    let sum : at + length piece + length (concat pieces) ≡ at + length (piece ++ concat pieces) =
    omega (arith, length-append piece (concat pieces)) in
    ap (read_from (Reading 0 done label) at) (append_assoc piece (concat pieces) rest)
    ∙ good_character done label at piece (concat pieces ++ rest) octet h.0 (omega arith) (omega arith)
    ∙ label_reads pieces octets h.1 done (label ++ octet ∷ []) (at + length piece) rest
    (omega (arith, ap length group))
    (λ some. subst (λ l. length (wire (done ++ l ∷ [])) ≤ 255) (sym group) room)
    ∙ ap (λ l. read_from (Reading 0 done l) (at + length piece + length (concat pieces)) rest) group
    ∙ ap (λ n. read_from (Reading 0 done (label ++ octet ∷ octets)) n rest) sum

-- a whole label, from its start
text_reads : (text label : List ℕ) → SpellsLabel text label → (done : List (List ℕ)) (at : ℕ)
    (rest : List ℕ) → length label ≤ 63
    → (0 < length label → length (wire (done ++ label ∷ [])) ≤ 255)
    → read_from (Reading 0 done []) at (text ++ rest)
    ≡ read_from (Reading 0 done label) (at + length text) rest
text_reads text label s done at rest short fits =
    ap (λ t. read_from (Reading 0 done []) at (t ++ rest)) s.together
    ∙ label_reads s.pieces label s.each done [] at rest short fits
    ∙ ap (λ t. read_from (Reading 0 done label) (at + length t) rest) (sym s.together)

-- the dot behind a label
dot_reads : (done : List (List ℕ)) (label : List ℕ) (at : ℕ) (rest : List ℕ) → 0 < length label
    → read_from (Reading 0 done label) at (dot ∷ rest)
    ≡ read_from (Reading 0 (done ++ label ∷ []) []) (at + 1) rest
dot_reads done label at rest filled = ap (λ p. read_from p (at + 1) rest) (ends done label at filled)

-- whole labels with a dot behind each
pub whole_reads : (texts labels : List (List ℕ)) → AllZip SpellsLabel texts labels
    → (done : List (List ℕ)) (at : ℕ) (rest : List ℕ) → AllByRecursion IsRawLabel labels
    → length (wire (done ++ labels)) ≤ 255
    → read_from (Reading 0 done []) at (flat_map (λ text. text ++ dot ∷ []) texts ++ rest)
    ≡ read_from (Reading 0 (done ++ labels) [])
    (at + length (flat_map (λ text. text ++ dot ∷ []) texts)) rest
whole_reads [] [] h done at rest raw fits =
    let place : at ≡ at + 0 = omega arith in
    ap (λ n. read_from (Reading 0 done []) n rest) place
    ∙ ap (λ ls. read_from (Reading 0 ls []) (at + 0) rest) (sym (append-nil done))
whole_reads [] (label ∷ labels) h done at rest raw fits = absurd h
whole_reads (text ∷ texts) [] h done at rest raw fits = absurd h
whole_reads (text ∷ texts) (label ∷ labels) h done at rest raw fits =
    let filled : 0 < length label = raw.0.filled in
    let short : length label < 64 = raw.0.short in
    let later = flat_map (λ text. text ++ dot ∷ []) texts in
    let group : (done ++ label ∷ []) ++ labels ≡ done ++ label ∷ labels =
    append_assoc done (label ∷ []) labels in
    let all : length (wire ((done ++ label ∷ []) ++ labels)) ≤ 255 =
    subst (λ ls. length (wire ls) ≤ 255) (sym group) fits in
    let one = wire_front (done ++ label ∷ []) labels in
    let bytes : ((text ++ dot ∷ []) ++ later) ++ rest ≡ text ++ (dot ∷ (later ++ rest)) =
    append_assoc (text ++ dot ∷ []) later rest ∙ append_assoc text (dot ∷ []) (later ++ rest) in
    let sum : at + length text + 1 + length later ≡ at + length ((text ++ dot ∷ []) ++ later) =
    omega (arith, length-append (text ++ dot ∷ []) later, length-append text (dot ∷ [])) in
    ap (read_from (Reading 0 done []) at) bytes
    ∙ text_reads text label h.0 done at (dot ∷ (later ++ rest)) (omega arith) (λ some. omega arith)
    ∙ dot_reads done label (at + length text) (later ++ rest) filled
    ∙ whole_reads texts labels h.1 (done ++ label ∷ []) (at + length text + 1) rest raw.1 all
    ∙ ap (λ ls. read_from (Reading 0 ls []) (at + length text + 1 + length later) rest) group
    ∙ ap (λ n. read_from (Reading 0 (done ++ label ∷ labels) []) n rest) sum

-- what a front leaves
pub front_reads : (before : List ℕ) (done : List (List ℕ)) (label : List ℕ)
    → IsFront before done label → (rest : List ℕ)
    → read_from (Reading 0 [] []) 0 (before ++ rest)
    ≡ read_from (Reading 0 done label) (length before) rest
front_reads before done label f rest =
    let whole = flat_map (λ text. text ++ dot ∷ []) f.texts in
    let bytes : before ++ rest ≡ whole ++ (f.part ++ rest) =
    ap (λ t. t ++ rest) f.together ∙ append_assoc whole f.part rest in
    let size : 0 + length whole + length f.part ≡ length before =
    omega (arith, ap length f.together, length-append whole f.part) in
    ap (read_from (Reading 0 [] []) 0) bytes
    ∙ whole_reads f.texts done f.whole [] 0 (f.part ++ rest) (so_far_done done label f.name.each)
    (so_far_fits done label f.name.fits)
    ∙ text_reads f.part label f.begun done (0 + length whole) rest
    (so_far_short done label f.name.each)
    (λ some. subst (λ ls. length (wire ls) ≤ 255) (so_far_last done label some) f.name.fits)
    ∙ ap (λ n. read_from (Reading 0 done label) n rest) size

-- the end of a text behind its last label
last_ends : (done : List (List ℕ)) (label : List ℕ) (at : ℕ) → 0 < length label
    → ended done label at ≡ Ok (done ++ label ∷ [])
last_ends done [] at h = absurd (omega arith)
last_ends [] (b ∷ label) at h = refl
last_ends (first ∷ done) (b ∷ label) at h = refl

-- the labels of a text without a dot at its end
last_reads : (text label : List ℕ) (texts labels : List (List ℕ)) → SpellsLabel text label
    → AllZip SpellsLabel texts labels → (done : List (List ℕ)) (at n : ℕ)
    → AllByRecursion IsRawLabel (label ∷ labels)
    → length (wire (done ++ label ∷ labels)) ≤ 255
    → at_the_end (read_from (Reading 0 done []) at (between dot (text ∷ texts))) n
    ≡ Ok (done ++ label ∷ labels)
last_reads text label [] [] s h done at n raw fits =
    let filled : 0 < length label = raw.0.filled in
    let short : length label < 64 = raw.0.short in
    ap (λ p. at_the_end p n) (text_reads text label s done at [] (omega arith) (λ some. fits))
    ∙ last_ends done label n filled
last_reads text label [] (next ∷ labels) s h done at n raw fits = absurd h
last_reads text label (other ∷ texts) [] s h done at n raw fits = absurd h
last_reads text label (other ∷ texts) (next ∷ labels) s h done at n raw fits =
    let filled : 0 < length label = raw.0.filled in
    let short : length label < 64 = raw.0.short in
    let group : (done ++ label ∷ []) ++ next ∷ labels ≡ done ++ label ∷ next ∷ labels =
    append_assoc done (label ∷ []) (next ∷ labels) in
    let all : length (wire ((done ++ label ∷ []) ++ next ∷ labels)) ≤ 255 =
    subst (λ ls. length (wire ls) ≤ 255) (sym group) fits in
    let one = wire_front (done ++ label ∷ []) (next ∷ labels) in
    ap (λ p. at_the_end p n)
    (text_reads text label s done at (dot ∷ between dot (other ∷ texts)) (omega arith)
    (λ some. omega arith)
    ∙ dot_reads done label (at + length text) (between dot (other ∷ texts)) filled)
    ∙ last_reads other next texts labels h.0 h.1 (done ++ label ∷ []) (at + length text + 1) n raw.1
    all
    ∙ ap Ok group

-- and of one with such a dot
dotted_reads : (text label : List ℕ) (texts labels : List (List ℕ)) → SpellsLabel text label
    → AllZip SpellsLabel texts labels → (n : ℕ) → IsRawName (label ∷ labels)
    → at_the_end (read_from (Reading 0 [] []) 0 (between dot (text ∷ texts) ++ dot ∷ [])) n
    ≡ Ok (label ∷ labels)
dotted_reads text label texts labels s h n name =
    ap (λ t. at_the_end (read_from (Reading 0 [] []) 0 t) n) (between_dots dot text texts
    ∙ sym (append-nil (flat_map (λ text. text ++ dot ∷ []) (text ∷ texts))))
    ∙ ap (λ p. at_the_end p n) (whole_reads (text ∷ texts) (label ∷ labels) (s, h) [] 0 [] name.each
    name.fits)

-- a text that isn't the root's is read from its start
pub read_through : (text : List ℕ) → (text ≡ root_text → ⊥)
    → labels_of_text text ≡ at_the_end (read_from (Reading 0 [] []) 0 text) (length text)
read_through text h =
    cond-false (bytes_eq text root_text) (Ok [])
    (at_the_end (read_from (Reading 0 [] []) 0 text) (length text))
    (false_from_ne_true (bytes_eq text root_text)
    (λ e. h ((bytes_eq-Decides text root_text).0 e)))

-- one that stops gives its fault, but for the root's
pub tells : (text : List ℕ) (fault : NameFault) → (text ≡ root_text → ⊥)
    → read_from (Reading 0 [] []) 0 text ≡ Stopped fault → labels_of_text text ≡ Err fault
tells text fault h e = read_through text h ∙ ap (λ p. at_the_end p (length text)) e

gives : (text label : List ℕ) (labels : List (List ℕ))
    → at_the_end (read_from (Reading 0 [] []) 0 text) (length text) ≡ Ok (label ∷ labels)
    → labels_of_text text ≡ Ok (label ∷ labels)
gives text label labels e = read_through text (λ root. absurd (
    let r : at_the_end (read_from (Reading 0 [] []) 0 text) (length text) ≡ Err (EmptyLabel 0) =
    ap (λ t. at_the_end (read_from (Reading 0 [] []) 0 t) (length t)) root in
    let k = sym e ∙ r in cc)) ∙ e

spelled_reads : (text label : List ℕ) (texts labels : List (List ℕ))
    → AllZip SpellsLabel texts (label ∷ labels)
    → (text ≡ between dot texts) ⊎ (text ≡ between dot texts ++ dot ∷ [])
    → IsRawName (label ∷ labels)
    → at_the_end (read_from (Reading 0 [] []) 0 text) (length text) ≡ Ok (label ∷ labels)
spelled_reads text label [] labels h together name = absurd h
spelled_reads text label (first ∷ texts) labels h together name = elim together [
  | inl e ↦
      ap (λ t. at_the_end (read_from (Reading 0 [] []) 0 t) (length text)) e
      ∙ last_reads first label texts labels h.0 h.1 [] 0 (length text) name.each name.fits
  | inr e ↦
      ap (λ t. at_the_end (read_from (Reading 0 [] []) 0 t) (length text)) e
      ∙ dotted_reads first label texts labels h.0 h.1 (length text) name
]

-- The text of a name reads as its labels.
pub text_reads_as : (text : List ℕ) (labels : List (List ℕ)) → IsTextOf text labels
    → labels_of_text text ≡ Ok labels
text_reads_as text [] s = ap labels_of_text s.spelled
text_reads_as text (label ∷ labels) s =
    gives text label labels
    (spelled_reads text label s.spelled.texts labels s.spelled.each s.spelled.together s.name)
