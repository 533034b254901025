-- The written text of a name, read.
use Rattle.std.proofs.Common.{◌≡◌, ℕ, ◌+◌, ◌-◌, ◌*◌, ◌/◌, ◌%◌, ◌<◌, ◌≤◌, inl, inr, List, [], ◌∷◌, ◌++◌, length, arith, ap, ◌∙◌}
use Rattle.std.proofs.Common.{sym, refl, subst, Bool, true, false, append-nil, append_assoc, length-append, Ok}
use Rattle.std.specs.Prelude.{◌&&◌, nat_le}
use Rattle.std.specs.List.{flat_map, AllByRecursion}
use Rattle.std.specs.Result.{result_map_both}
use Rattle.std.proofs.lemmas.Bool.{cond_both, le-leb, lt-leb, leb-true, eqb-true, and_parts, or_cases, and_from, cond-true, cond-false, le-ltb}
use Rattle.std.proofs.lemmas.List.Concat.{flat_map-append}
use Rattle.dns_name.specs.Labels.{frame, wire, lowered, IsRawLabel}
use Rattle.dns_name.specs.Names.{IsName, AreOctets}
use Rattle.octets.specs.Octal.{has_octal, octal_of, is_octal_digit}
use Rattle.dns_name.specs.Text.{read_from, add_character, is_graphic, dot, backslash, name_of_text, root_text, at_the_end}
use Rattle.dns_name.specs.Text.Progress.{Reading}
use Rattle.dns_name.specs.Written.{is_plain, text_of, text_of_label, text_of_octet}
use Rattle.dns_name.proofs.Reading.{at_escape, at_graphic, passed, ends, not_root}
use Rattle.dns_name.proofs.Steps.{lowered_same}

-- a character that is neither the label's 64th nor past 255 octets
adds : (done : List (List ℕ)) (label : List ℕ) (at value more : ℕ) → length label < 63
    → length (wire (done ++ (label ++ value ∷ []) ∷ [])) ≤ 255
    → add_character done label at value more ≡ Reading more done (label ++ value ∷ [])
adds done label at value more short fits =
    let a = lt-leb 63 (length label) short in
    let b = le-ltb 255 (length (wire (done ++ (label ++ value ∷ []) ∷ []))) fits in
    rw (a, b) refl

-- a plain octet is printable and is neither a dot nor a backslash
range : (b low high : ℕ) → (nat_le low b && nat_le b high) ≡ true → (low ≤ b) × (b ≤ high)
range b low high h = let p = and_parts _ _ h in (leb-true low b p.0, leb-true b high p.1)

record IsPlain (b : ℕ) : Type 0 where
  above : 0x2D ≤ b
  below : b ≤ 0x7A
  no_dot : b ≡ 0x2E → ⊥
  no_backslash : b ≡ 0x5C → ⊥

letter : (b : ℕ) → (0x61 ≤ b) × (b ≤ 0x7A) → IsPlain b
letter b r =
    record {
      above = omega arith;
      below = omega arith;
      no_dot = λ z. omega arith;
      no_backslash =
          λ z. omega arith;
    }

digit : (b : ℕ) → (0x30 ≤ b) × (b ≤ 0x39) → IsPlain b
digit b r =
    record {
      above = omega arith;
      below = omega arith;
      no_dot = λ z. omega arith;
      no_backslash =
          λ z. omega arith;
    }

hyphen : (b : ℕ) → b ≡ 0x2D → IsPlain b
hyphen b e =
    record {
      above = omega arith;
      below = omega arith;
      no_dot = λ z. omega arith;
      no_backslash =
          λ z. omega arith;
    }

underscore : (b : ℕ) → b ≡ 0x5F → IsPlain b
underscore b e =
    record {
      above = omega arith;
      below = omega arith;
      no_dot = λ z. omega arith;
      no_backslash =
          λ z. omega arith;
    }

is_plain_octet : (b : ℕ) → is_plain b ≡ true → IsPlain b
is_plain_octet b h = elim (or_cases _ _ h) [
  | inl g ↦ elim (or_cases _ _ g) [
    | inl f ↦
        elim (or_cases _ _ f) [
          | inl e ↦ letter b (range b 0x61 0x7A e)
          | inr e ↦ digit b (range b 0x30 0x39 e)
        ]
    | inr f ↦ hyphen b (eqb-true b 0x2D f)
  ]
  | inr g ↦ underscore b (eqb-true b 0x5F g)
]

graphic : (b : ℕ) → IsPlain b → is_graphic b ≡ true
graphic b p =
    and_from _ _ (le-leb 0x21 b (omega (arith, p.above))) (le-leb b 0x7E (omega (arith, p.below)))

-- three octal digits of an octet
module _ (b : ℕ) (small : b < 256) (rest : List ℕ) where
  digits : List ℕ
  digits = (0x30 + b / 64) ∷ (0x30 + b / 8 % 8) ∷ (0x30 + b % 8) ∷ rest

  back : (0x30 + b / 64 - 0x30) * 64 + (0x30 + b / 8 % 8 - 0x30) * 8 + (0x30 + b % 8 - 0x30) ≡ b
  back = omega arith

  pub octal_back : octal_of ((0x30 + b / 64) ∷ (0x30 + b / 8 % 8) ∷ (0x30 + b % 8) ∷ rest) ≡ b
  octal_back = back

  pub octal_there : has_octal ((0x30 + b / 64) ∷ (0x30 + b / 8 % 8) ∷ (0x30 + b % 8) ∷ rest) ≡ true
  octal_there =
      and_from _ _ (and_from _ _ (and_from _ _ (digit (0x30 + b / 64) (omega arith) (omega arith))
      (digit (0x30 + b / 8 % 8) (omega arith) (omega arith)))
      (digit (0x30 + b % 8) (omega arith) (omega arith)))
      (le-leb _ 255 (omega (arith, back)))
    where
      digit : (d : ℕ) → 0x30 ≤ d → d ≤ 0x37 → is_octal_digit d ≡ true
      digit d low high = and_from _ _ (le-leb 0x30 d low) (le-leb d 0x37 high)

-- one octet
module _ (done : List (List ℕ)) (label : List ℕ) (at b : ℕ) (rest : List ℕ) (small : b < 256)
    (short : length label < 63)
    (fits : length (wire (done ++ (label ++ b ∷ []) ∷ [])) ≤ 255) where
  plain_octet : IsPlain b
      → read_from (Reading 0 done label) at (b ∷ rest)
      ≡ read_from (Reading 0 done (label ++ b ∷ [])) (at + 1) rest
  plain_octet p =
      ap (λ q. read_from q (at + 1) rest)
      (at_graphic done label at b rest p.no_dot p.no_backslash (graphic b p)
      ∙ adds done label at b 0 short fits)

  escaped_octet : read_from (Reading 0 done label) at (backslash ∷ (0x30 + b / 64)
      ∷ (0x30 + b / 8 % 8) ∷ (0x30 + b % 8) ∷ rest) ≡
      read_from (Reading 0 done (label ++ b ∷ [])) (at + 4) rest
  escaped_octet =
      let digits : List ℕ = (0x30 + b / 64) ∷ (0x30 + b / 8 % 8) ∷ (0x30 + b % 8) ∷ rest in
      let sum : at + 1 + 3 ≡ at + 4 = omega arith in
      ap (λ q. read_from q (at + 1) digits)
      (at_escape done label at backslash digits refl (octal_there b small rest)
      ∙ ap (λ v. add_character done label at v 3) (octal_back b small rest)
      ∙ adds done label at b 3 short fits)
      ∙ passed 3 done (label ++ b ∷ []) (at + 1) digits (omega arith)
      ∙ ap (λ n. read_from (Reading 0 done (label ++ b ∷ [])) n rest) sum

  pub read_octet : read_from (Reading 0 done label) at (text_of_octet b ++ rest)
      ≡ read_from (Reading 0 done (label ++ b ∷ []))
      (at + length (text_of_octet b)) rest
  read_octet = go (is_plain b) refl
    where
      Reads : List ℕ → Type 0
      Reads text = read_from (Reading 0 done label) at (text ++ rest)
          ≡ read_from (Reading 0 done (label ++ b ∷ [])) (at + length text) rest

      go : (v : Bool) → is_plain b ≡ v → Reads (text_of_octet b)
      go true e = subst Reads (sym (cond-true (is_plain b) (b ∷ [])
          (backslash ∷ (0x30 + b / 64) ∷ (0x30 + b / 8 % 8) ∷ (0x30 + b % 8) ∷ []) e))
          (plain_octet (is_plain_octet b e))
      go false e =
          subst Reads
          (sym (cond-false (is_plain b) (b ∷ []) (backslash ∷ (0x30 + b / 64) ∷ (0x30 + b / 8 % 8)
          ∷ (0x30 + b % 8) ∷ []) e)) escaped_octet

-- the octets of a name whose last label this is
wire_size : (done : List (List ℕ)) (label : List ℕ)
    → length (wire (done ++ label ∷ [])) ≡ length (flat_map frame done) + length label + 2
wire_size done label =
    let a = length-append (flat_map frame (done ++ label ∷ [])) (0 ∷ []) in
    let b : length (flat_map frame (done ++ label ∷ []))
    ≡ length (flat_map frame done) + length (flat_map frame (label ∷ [])) =
    ap length (flat_map-append frame done (label ∷ []))
    ∙ length-append (flat_map frame done) (flat_map frame (label ∷ [])) in
    let d : length (label ++ []) ≡ length label = ap length (append-nil label) in
    omega arith

-- one label
read_label : (done : List (List ℕ)) (label todo : List ℕ) (at : ℕ) (rest : List ℕ) → AreOctets todo
    → length (label ++ todo) ≤ 63
    → length (wire (done ++ (label ++ todo) ∷ [])) ≤ 255
    → read_from (Reading 0 done label) at (flat_map text_of_octet todo ++ rest)
    ≡ read_from (Reading 0 done (label ++ todo))
    (at + length (flat_map text_of_octet todo)) rest
read_label done label [] at rest o short fits =
    let place : at ≡ at + 0 = omega arith in
    ap (λ n. read_from (Reading 0 done label) n rest) place
    ∙ ap (λ l. read_from (Reading 0 done l) (at + 0) rest) (sym (append-nil label))
read_label done label (b ∷ todo) at rest o short fits =
    let text = text_of_octet b in
    let later = flat_map text_of_octet todo in
    let group : (label ++ b ∷ []) ++ todo ≡ label ++ b ∷ todo = append_assoc label (b ∷ []) todo in
    let size : length (label ++ b ∷ todo) ≡ length label + (length todo + 1) =
    omega (arith, length-append label (b ∷ todo)) in
    let one : length (label ++ b ∷ []) ≡ length label + 1 = length-append label (b ∷ []) in
    let whole = wire_size done (label ++ b ∷ todo) in
    let part = wire_size done (label ++ b ∷ []) in
    let sum : at + length text + length later ≡ at + length (text ++ later) =
    omega (arith, length-append text later) in
    ap (read_from (Reading 0 done label) at) (append_assoc text later rest)
    ∙ read_octet done label at b (later ++ rest) o.0 (omega arith) (omega arith)
    ∙ read_label done (label ++ b ∷ []) todo (at + length text) rest o.1
    (omega (arith, ap length group))
    (subst (λ l. length (wire (done ++ l ∷ [])) ≤ 255) (sym group) fits)
    ∙ ap (λ l. read_from (Reading 0 done l) (at + length text + length later) rest) group
    ∙ ap (λ n. read_from (Reading 0 done (label ++ b ∷ todo)) n rest) sum

-- labels, each with the dot behind it
read_labels : (done labels : List (List ℕ)) (at : ℕ) → AllByRecursion IsRawLabel labels
    → AllByRecursion AreOctets labels
    → length (wire (done ++ labels)) ≤ 255
    → read_from (Reading 0 done []) at (flat_map text_of_label labels)
    ≡ Reading 0 (done ++ labels) []
read_labels done [] at h o fits = ap (λ ls. Reading 0 ls []) (sym (append-nil done))
read_labels done (label ∷ labels) at h o fits =
    let text = flat_map text_of_octet label in
    let later = flat_map text_of_label labels in
    let filled : 0 < length label = h.0.filled in
    let short : length label < 64 = h.0.short in
    let group : (done ++ label ∷ []) ++ labels ≡ done ++ label ∷ labels =
    append_assoc done (label ∷ []) labels in
    let a = length-append (flat_map frame (done ++ label ∷ labels)) (0 ∷ []) in
    let b : length (flat_map frame (done ++ label ∷ labels)) ≡ length (flat_map frame done) + length
    (flat_map frame (label ∷ labels)) = ap length (flat_map-append frame done (label ∷ labels))
    ∙ length-append (flat_map frame done) (flat_map frame (label ∷ labels)) in
    let d : length (flat_map frame (label ∷ labels))
    ≡ length label + 1 + length (flat_map frame labels) =
    omega (arith, length-append (frame label) (flat_map frame labels)) in
    let part = wire_size done label in
    let pieces : (text ++ dot ∷ []) ++ later ≡ text ++ (dot ∷ later) =
    append_assoc text (dot ∷ []) later in
    ap (read_from (Reading 0 done []) at) pieces
    ∙ read_label done [] label at (dot ∷ later) o.0 (omega arith) (omega arith)
    ∙ ap (λ p. read_from p (at + length text + 1) later) (ends done label (at + length text) filled)
    ∙ read_labels (done ++ label ∷ []) labels (at + length text + 1) h.1 o.1
    (subst (λ ls. length (wire ls) ≤ 255) (sym group) fits)
    ∙ ap (λ ls. Reading 0 ls []) group

-- the text of a label is no dot alone
octet_text : (b : ℕ) → 0 < length (text_of_octet b)
octet_text b =
    cond_both (is_plain b) (b ∷ []) (backslash ∷ (0x30 + b / 64) ∷ (0x30 + b / 8 % 8)
    ∷ (0x30 + b % 8) ∷ [])
    (λ t. 0 < length t) (λ e. omega arith) (λ e. omega arith)

no_root : (label : List ℕ) (labels : List (List ℕ)) → 0 < length label
    → text_of (label ∷ labels) ≡ root_text → ⊥
no_root [] labels h e = omega arith
no_root (b ∷ label) labels h e =
    let a = length-append (text_of_label (b ∷ label)) (flat_map text_of_label labels) in
    let d = length-append (flat_map text_of_octet (b ∷ label)) (dot ∷ []) in
    let f = length-append (text_of_octet b) (flat_map text_of_octet label) in
    let one : length (text_of ((b ∷ label) ∷ labels)) ≡ 1 = ap length e in
    omega (arith, octet_text b)

-- The written text of a name reads as that name.
pub reads_back : (labels : List (List ℕ)) → IsName labels
    → name_of_text (text_of labels) ≡ Ok labels
reads_back [] n = refl
reads_back (label ∷ labels) n =
    not_root (text_of (label ∷ labels)) (no_root label labels n.raw.each.0.filled)
    ∙ ap (λ p. result_map_both lowered (λ fault. fault)
    (at_the_end p (length (text_of (label ∷ labels)))))
    (read_labels [] (label ∷ labels) 0 n.raw.each n.octets n.raw.fits)
    ∙ ap Ok (lowered_same (label ∷ labels) n.lower)
