-- What a text reads as is what it spells, and its fault is told.
use Rattle.std.proofs.Common.{◌≡◌, ℕ, ◌≤◌, List, [], ◌∷◌, ◌++◌, arith, ap, ◌∙◌, sym, refl, subst, inl, inr}
use Rattle.std.proofs.Common.{false, Result, Ok, Err}
use Rattle.std.specs.Prelude.{nat_le, ◌↔◌, ◌⊎◌}
use Rattle.std.specs.Result.{result_map_both}
use Rattle.std.proofs.lemmas.Bool.{false_from_ne_true, and_parts, leb-true}
use Rattle.octets.specs.Octal.{has_octal}
use Rattle.dns_name.specs.Labels.{lowered}
use Rattle.dns_name.specs.Text.{read_from, is_graphic, labels_of_text, name_of_text}
use Rattle.dns_name.specs.Text.Progress.{Reading, Stopped}
use Rattle.dns_name.specs.declared.fault.NameFault.{NameFault}
use Rattle.dns_name.specs.declared.fault.NameFault.TheVariants.{BadEscape, LabelTooLong, NameTooLong, EmptyLabel, BadByte}
use Rattle.dns_name.proofs.Reading.{at_bad_escape, at_bad_byte}
use Rattle.text_meanings.specs.Characters.{dot, backslash}
use Rattle.text_meanings.specs.Names.{IsTextOf}
use Rattle.text_meanings.specs.Faults.{StandsAt, HasFault, HasBadEscape, HasBadByte, HasEmptyLabel, HasLongLabel, HasLongName}
use Rattle.text_meanings.proofs.Fronts.{escape_at}
use Rattle.text_meanings.proofs.Outcomes.{outcome}
use Rattle.text_meanings.proofs.Reading.{front_reads, stops_at, long_label, long_name, tells, text_reads_as}

-- the reading where whole labels and a part of the next stand before a place
stands_reads : (text : List ℕ) (at : ℕ) (done : List (List ℕ)) (label rest : List ℕ)
    → StandsAt text at done label rest
    → read_from (Reading 0 [] []) 0 text ≡ read_from (Reading 0 done label) at rest
stands_reads text at done label rest s =
    ap (read_from (Reading 0 [] []) 0) s.here ∙ front_reads s.before done label s.front rest
    ∙ ap (λ n. read_from (Reading 0 done label) n rest) (sym s.place)

-- another fault than that of the root's text is told
other_fault : (text : List ℕ) (fault : NameFault) → (fault ≡ EmptyLabel 0 → ⊥)
    → read_from (Reading 0 [] []) 0 text ≡ Stopped fault → labels_of_text text ≡ Err fault
other_fault text fault other e = tells text fault (λ root. other (
    let r : read_from (Reading 0 [] []) 0 text ≡ Stopped (EmptyLabel 0) =
    ap (read_from (Reading 0 [] []) 0) root in
    let k : Stopped fault ≡ Stopped (EmptyLabel 0) = sym e ∙ r in cc)) e

escape_told : (text : List ℕ) (at : ℕ) → HasBadEscape text at
    → labels_of_text text ≡ Err (BadEscape at)
escape_told text at w =
    let absent : has_octal w.rest ≡ false = false_from_ne_true (has_octal w.rest)
    (λ e. let a = escape_at w.rest e in w.none a.piece a.behind a.octet a.escape a.bytes) in
    other_fault text (BadEscape at) (λ e. cc)
    (stands_reads text at w.done w.label (backslash ∷ w.rest) w.stands
    ∙ stops_at w.done w.label at backslash w.rest (BadEscape at)
    (at_bad_escape w.done w.label at backslash w.rest refl absent))

not_graphic : (b : ℕ) → (b ≤ 0x20) ⊎ (0x7F ≤ b) → is_graphic b ≡ false
not_graphic b outside = false_from_ne_true (is_graphic b) (λ e.
    let p = and_parts (nat_le 0x21 b) (nat_le b 0x7E) e in
    let low = leb-true 0x21 b p.0 in
    let high = leb-true b 0x7E p.1 in
    omega arith)

byte_told : (text : List ℕ) (at : ℕ) → HasBadByte text at → labels_of_text text ≡ Err (BadByte at)
byte_told text at w =
    let outside = w.outside in
    other_fault text (BadByte at) (λ e. cc)
    (stands_reads text at w.done w.label (w.b ∷ w.rest) w.stands
    ∙ stops_at w.done w.label at w.b w.rest (BadByte at)
    (at_bad_byte w.done w.label at w.b w.rest (λ e. omega arith) (λ e. omega arith)
    (not_graphic w.b outside)))

empty_told : (text : List ℕ) (at : ℕ) → HasEmptyLabel text at
    → labels_of_text text ≡ Err (EmptyLabel at)
empty_told text at w = tells text (EmptyLabel at) w.no_root
    (stands_reads text at w.done [] (dot ∷ w.rest) w.stands
    ∙ stops_at w.done [] at dot w.rest (EmptyLabel at) refl)

label_told : (text : List ℕ) (at : ℕ) → HasLongLabel text at
    → labels_of_text text ≡ Err (LabelTooLong at)
label_told text at w =
    other_fault text (LabelTooLong at) (λ e. cc)
    (stands_reads text at w.done w.label (w.piece ++ w.rest) w.stands
    ∙ long_label w.done w.label at w.piece w.rest w.octet w.character (omega (arith, w.full)))

name_told : (text : List ℕ) (at : ℕ) → HasLongName text at
    → labels_of_text text ≡ Err (NameTooLong at)
name_told text at w =
    other_fault text (NameTooLong at) (λ e. cc)
    (stands_reads text at w.done w.label (w.piece ++ w.rest) w.stands
    ∙ long_name w.done w.label at w.piece w.rest w.octet w.character w.short w.long)

-- A text's fault is told.
pub fault_told : (text : List ℕ) (fault : NameFault) → HasFault text fault
    → labels_of_text text ≡ Err fault
fault_told text (BadEscape at) w = escape_told text at w
fault_told text (BadByte at) w = byte_told text at w
fault_told text (EmptyLabel at) w = elim w [
  | inl e ↦ ap labels_of_text e.0 ∙ ap (λ n. Err (EmptyLabel n)) (sym e.1)
  | inr w ↦ empty_told text at w
]
fault_told text (LabelTooLong at) w = label_told text at w
fault_told text (NameTooLong at) w = name_told text at w

pub never_both : (text : List ℕ) (labels : List (List ℕ)) (fault : NameFault)
    → IsTextOf text labels → HasFault text fault → ⊥
never_both text labels fault s w =
    let a = text_reads_as text labels s in let b = fault_told text fault w in cc

pub labels_spelled : (text : List ℕ) (labels : List (List ℕ))
    → (labels_of_text text ≡ Ok labels) ↔ IsTextOf text labels
labels_spelled text labels = (
  λ e. elim (outcome text) [
    | inl o ↦
        let a = text_reads_as text o.0 o.1 in let same : o.0 ≡ labels = cc in
        subst (IsTextOf text) same o.1
    | inr o ↦ let b = fault_told text o.0 o.1 in absurd (cc)
  ],
  text_reads_as text labels,
)

pub one_name : (text : List ℕ) (labels others : List (List ℕ)) → IsTextOf text labels
    → IsTextOf text others → labels ≡ others
one_name text labels others s t =
    let a = text_reads_as text labels s in let b = text_reads_as text others t in cc

pub faults_had : (text : List ℕ) (fault : NameFault)
    → (labels_of_text text ≡ Err fault) ↔ HasFault text fault
faults_had text fault = (
  λ e. elim (outcome text) [
    | inl o ↦ let a = text_reads_as text o.0 o.1 in absurd (cc)
    | inr o ↦
        let b = fault_told text o.0 o.1 in let same : o.0 ≡ fault = cc in
        subst (HasFault text) same o.1
  ],
  fault_told text fault,
)

pub one_fault : (text : List ℕ) (fault other : NameFault) → HasFault text fault
    → HasFault text other → fault ≡ other
one_fault text fault other w v =
    let a = fault_told text fault w in let b = fault_told text other v in cc

-- the same of the labels in lower case
pub names_spelled : (text : List ℕ) (labels : List (List ℕ))
    → (name_of_text text ≡ Ok labels)
    ↔ ((spelled : List (List ℕ)) × IsTextOf text spelled × (labels ≡ lowered spelled))
names_spelled text labels = (
  λ e. go (labels_of_text text) refl e,
  λ s.
      ap (result_map_both lowered (λ fault. fault)) (text_reads_as text s.0 s.1)
      ∙ ap Ok (sym s.2),
)
  where
    go : (r : Result (List (List ℕ)) NameFault) → labels_of_text text ≡ r
        → result_map_both lowered (λ fault. fault) r ≡ Ok labels
        → (spelled : List (List ℕ)) × IsTextOf text spelled × (labels ≡ lowered spelled)
    go (Ok spelled) s k = (spelled, (labels_spelled text spelled).0 s, cc)
    go (Err fault) s k = absurd (cc)

pub both_told : (text : List ℕ) (fault : NameFault)
    → ((labels_of_text text ≡ Err fault) ↔ HasFault text fault)
    × ((name_of_text text ≡ Err fault) ↔ HasFault text fault)
both_told text fault = (
  faults_had text fault,
  (
    λ e. go (labels_of_text text) refl e,
    λ w.
        ap (result_map_both lowered (λ fault. fault)) (fault_told text fault w),
  ),
)
  where
    go : (r : Result (List (List ℕ)) NameFault) → labels_of_text text ≡ r
        → result_map_both lowered (λ fault. fault) r ≡ Err fault → HasFault text fault
    go (Ok labels) s k = absurd (cc)
    go (Err other) s k = let same : other ≡ fault = cc in
        subst (HasFault text) same ((faults_had text other).0 s)
