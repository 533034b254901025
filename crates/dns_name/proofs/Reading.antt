-- Texts of names, read byte by byte.
use Rattle.std.proofs.Common.{◌≡◌, ℕ, zero, suc, ◌+◌, ◌<◌, ◌≤◌, List, [], ◌∷◌, ◌++◌, length, take, drop, get_or, arith, ap, ◌∙◌}
use Rattle.std.proofs.Common.{sym, refl, subst, Bool, true, false, cond, append-nil, append_assoc, add-one, length-drop}
use Rattle.std.proofs.Common.{drop-drop, Result, Ok, Err}
use Rattle.std.specs.Str.{bytes_eq}
use Rattle.std.specs.Result.{result_map_both}
use Rattle.std.proofs.lemmas.Slice.Eq.{bytes_eq-Decides}
use Rattle.std.specs.Prelude.{◌==◌, slice_set}
use Rattle.std.specs.List.{flat_map, AllByRecursion}
use Rattle.std.proofs.lemmas.Bool.Decides.{Decides-eqb}
use Rattle.std.proofs.lemmas.List.{take_more_set, append_cancel_left, length-set, drop-set-lt, drop_all}
use Rattle.std.proofs.lemmas.List.Concat.{flat_map-append}
use Rattle.std.proofs.Math.Seq.{drop-cons, take-add}
use Rattle.dns_name.specs.Labels.{frame, IsRawLabel, lowered}
use Rattle.dns_name.specs.Spelling.{SpellsSoFar, Advances}
use Rattle.octets.specs.Octal.{has_octal, octal_of}
use Rattle.dns_name.specs.Text.{read_from, take_byte, add_character, end_label, is_graphic, dot, backslash, ended, at_the_end, name_of_text, root_text}
use Rattle.dns_name.specs.Text.Progress.{Reading, Stopped}
use Rattle.dns_name.specs.declared.fault.NameFault.{NameFault}
use Rattle.dns_name.specs.declared.fault.NameFault.TheVariants.{BadEscape, BadByte}

-- a text that has stopped stays so
stopped : (fault : NameFault) (at : ℕ) (text : List ℕ)
    → read_from (Stopped fault) at text ≡ Stopped fault
stopped fault at [] = refl
stopped fault at (b ∷ rest) = stopped fault (at + 1) rest

-- the bytes of an escape are passed over
pub passed : (k : ℕ) (done : List (List ℕ)) (label : List ℕ) (at : ℕ) (xs : List ℕ) → k ≤ length xs
    → read_from (Reading k done label) at xs ≡ read_from (Reading 0 done label) (at + k) (drop k xs)
passed zero done label at xs h =
    ap (λ n. read_from (Reading 0 done label) n xs) (let e : at ≡ at + 0 = omega arith in e)
passed (suc k) done label at [] h = absurd (omega arith)
passed (suc k) done label at (x ∷ xs) h =
    let e : at + 1 + k ≡ at + suc k = omega arith in
    passed k done label (at + 1) xs (omega arith)
    ∙ ap (λ n. read_from (Reading 0 done label) n (drop k xs)) e

module _ (text : List ℕ) (done : List (List ℕ)) (label : List ℕ) (at : ℕ)
    (within : at < length text) where
  byte : read_from (Reading 0 done label) at (drop at text)
      ≡ read_from (take_byte done label at (get_or text at 0)
      (drop (at + 1) text)) (at + 1) (drop (at + 1) text)
  byte = ap (read_from (Reading 0 done label) at) (let e : drop at text
      ≡ get_or text at 0 ∷ drop (at + 1) text = rw add-one (drop-cons text at 0 within) in e)

  pub stops : (fault : NameFault)
      → take_byte done label at (get_or text at 0) (drop (at + 1) text) ≡ Stopped fault
      → read_from (Reading 0 done label) at (drop at text) ≡ Stopped fault
  stops fault e = byte ∙ ap (λ p. read_from p (at + 1) (drop (at + 1) text)) e
      ∙ stopped fault (at + 1) (drop (at + 1) text)

  pub advances : (k : ℕ) (more_done : List (List ℕ)) (more_label bytes : List ℕ) (start end : ℕ)
      → take_byte done label at (get_or text at 0) (drop (at + 1) text)
      ≡ Reading k more_done more_label
      → at + (k + 1) ≤ length text → SpellsSoFar bytes start end more_done more_label
      → Advances text done label at (k + 1) bytes start end
  advances k more_done more_label bytes start end e room spells =
      let sum : at + 1 + k ≡ at + (k + 1) = omega arith in
      let behind : drop k (drop (at + 1) text) ≡ drop (at + (k + 1)) text =
      drop-drop k (at + 1) text ∙ ap (λ n. drop n text) sum in
      record {
        more_done = more_done;
        more_label = more_label;
        spells = spells;
        some = omega arith;
        within = room;
        same =
            byte ∙ ap (λ p. read_from p (at + 1) (drop (at + 1) text)) e
            ∙ passed k more_done more_label (at + 1) (drop (at + 1) text)
            (omega (arith, length-drop (at + 1) text))
            ∙ ap (λ n. read_from (Reading 0 more_done more_label) n (drop k (drop (at + 1) text)))
            sum
            ∙ ap (read_from (Reading 0 more_done more_label) (at + (k + 1))) behind;
      }

other : (b c : ℕ) → (b ≡ c → ⊥) → (b == c) ≡ false
other b c h = go (b == c) refl
  where
    go : (v : Bool) → (b == c) ≡ v → (b == c) ≡ false
    go true e = absurd (h ((Decides-eqb b c).0 e))
    go false e = e

module _ (done : List (List ℕ)) (label : List ℕ) (at b : ℕ) (rest : List ℕ) where
  pub at_dot : b ≡ 0x2E → take_byte done label at b rest ≡ end_label done label at
  at_dot e = ap (λ v. take_byte done label at v rest) e

  pub at_escape : b ≡ 0x5C → has_octal rest ≡ true
      → take_byte done label at b rest ≡ add_character done label at (octal_of rest) 3
  at_escape e h = ap (λ v. take_byte done label at v rest) e
      ∙ ap (λ t. cond t (add_character done label at (octal_of rest) 3) (Stopped (BadEscape at))) h

  pub at_bad_escape : b ≡ 0x5C → has_octal rest ≡ false
      → take_byte done label at b rest ≡ Stopped (BadEscape at)
  at_bad_escape e h = ap (λ v. take_byte done label at v rest) e
      ∙ ap (λ t. cond t (add_character done label at (octal_of rest) 3) (Stopped (BadEscape at))) h

  pub at_graphic : (b ≡ 0x2E → ⊥) → (b ≡ 0x5C → ⊥) → is_graphic b ≡ true
      → take_byte done label at b rest ≡ add_character done label at b 0
  at_graphic d e g = let p = other b dot d in let q = other b backslash e in rw (p, q, g) refl

  pub at_bad_byte : (b ≡ 0x2E → ⊥) → (b ≡ 0x5C → ⊥) → is_graphic b ≡ false
      → take_byte done label at b rest ≡ Stopped (BadByte at)
  at_bad_byte d e g = let p = other b dot d in let q = other b backslash e in rw (p, q, g) refl

-- the octets of one label more
module _ (bytes : List ℕ) (start end : ℕ) (done : List (List ℕ)) (label : List ℕ)
    (spells : SpellsSoFar bytes start end done label) (filled : 0 < length label) where
  size : end ≡ start + 1 + length label
  size = let e = spells.size in omega arith

  inside : start < length bytes
  inside = let r = spells.room in let a = spells.array in omega arith

  part : take (length label) (drop (start + 1) bytes) ≡ label
  part = append_cancel_left (take (start + 1) bytes) _ _
      (sym (take-add (start + 1) (length label) bytes) ∙ ap (λ n. take n bytes) (sym size)
      ∙ spells.part)

  set_octets : take end (slice_set bytes start (length label)) ≡ flat_map frame (done ++ label ∷ [])
  set_octets =
      ap (λ n. take n (slice_set bytes start (length label))) size
      ∙ take-add (start + 1) (length label) (slice_set bytes start (length label))
      ∙ ap (λ t. t ++ take (length label) (drop (start + 1) (slice_set bytes start (length label))))
      (take_more_set bytes start (length label) inside
      ∙ ap (λ t. t ++ length label ∷ []) spells.labels)
      ∙ ap (λ t. (flat_map frame done ++ length label ∷ [])
      ++ take (length label) t)
      (drop-set-lt (start + 1) bytes start (length label) (omega arith))
      ∙ ap (λ t. (flat_map frame done ++ length label ∷ []) ++ t) part
      ∙ append_assoc (flat_map frame done) (length label ∷ []) label
      ∙ ap (λ t. flat_map frame done ++ t) (sym (append-nil (frame label)))
      ∙ sym (flat_map-append frame done (label ∷ []))

  all_push : (labels : List (List ℕ)) → AllByRecursion IsRawLabel labels
      → AllByRecursion IsRawLabel (labels ++ label ∷ [])
  all_push [] h = (record { filled = filled; short = (let s = spells.short in omega arith) }, tt)
  all_push (l ∷ ls) h = (h.0, all_push ls h.1)

  pub one_label_more : (n : ℕ) → n ≡ length label
      → SpellsSoFar (slice_set bytes start n) end (end + 1) (done ++ label ∷ []) []
  one_label_more n e =
      subst (λ m. SpellsSoFar (slice_set bytes start m) end (end + 1) (done ++ label ∷ []) []) (sym e)
      (record {
        each = all_push done spells.each;
        labels = set_octets;
        part = sym (append-nil (take (end + 1) (slice_set bytes start (length label))));
        size = omega arith;
        short = omega arith;
        room = spells.part_room filled;
        part_room = λ z. absurd (omega arith);
        array = length-set bytes start (length label) ∙ spells.array;
      })

-- the dot behind a label that isn't empty
pub ends : (done : List (List ℕ)) (label : List ℕ) (at : ℕ) → 0 < length label
    → end_label done label at ≡ Reading 0 (done ++ label ∷ []) []
ends done [] at h = absurd (omega arith)
ends done (b ∷ label) at h = refl

pub never_stops : (done : List (List ℕ)) (label : List ℕ) (at : ℕ) (fault : NameFault)
    → 0 < length label → end_label done label at ≡ Stopped fault → ⊥
never_stops done label at fault h e = let r = ends done label at h in cc

-- a label at the end is the last of the labels
pub ended_last : (done : List (List ℕ)) (label : List ℕ) (at : ℕ) → 0 < length label
    → ended (done ++ label ∷ []) [] at ≡ ended done label at
ended_last done [] at h = absurd (omega arith)
ended_last [] (b ∷ label) at h = refl
ended_last (first ∷ done) (b ∷ label) at h = refl

-- a text that isn't the root's is read from its start
pub not_root : (text : List ℕ) → (text ≡ root_text → ⊥)
    → name_of_text text
    ≡ result_map_both lowered (λ fault. fault)
    (at_the_end (read_from (Reading 0 [] []) 0 text) (length text))
not_root text h = go (bytes_eq text root_text) refl
  where
    read : Result (List (List ℕ)) NameFault
    read = at_the_end (read_from (Reading 0 [] []) 0 text) (length text)

    go : (v : Bool) → bytes_eq text root_text ≡ v
        → name_of_text text ≡ result_map_both lowered (λ fault. fault)
        (at_the_end (read_from (Reading 0 [] []) 0 text) (length text))
    go true e = absurd (h ((bytes_eq-Decides text root_text).0 e))
    go false e =
        ap (λ v. result_map_both lowered (λ fault. fault)
        (cond v (Ok []) (at_the_end (read_from (Reading 0 [] []) 0 text) (length text)))) e

-- a text that stops gives its fault
pub gives_fault : (text rest : List ℕ) (done : List (List ℕ)) (label : List ℕ) (at : ℕ)
    (fault : NameFault)
    → (text ≡ root_text → ⊥)
    → read_from (Reading 0 [] []) 0 text ≡ read_from (Reading 0 done label) at rest
    → read_from (Reading 0 done label) at rest ≡ Stopped fault → Err fault ≡ name_of_text text
gives_fault text rest done label at fault h same stop =
    sym (not_root text h
    ∙ ap (λ p. result_map_both lowered (λ f. f) (at_the_end p (length text))) (same ∙ stop))

-- a text that is read to its end gives its labels
pub gives_labels : (text : List ℕ) (done : List (List ℕ)) (label : List ℕ) (at : ℕ)
    (result : Result (List (List ℕ)) NameFault)
    → (text ≡ root_text → ⊥) → at ≡ length text
    → read_from (Reading 0 [] []) 0 text ≡ read_from (Reading 0 done label) at (drop at text)
    → result ≡ result_map_both lowered (λ fault. fault) (ended done label at)
    → result ≡ name_of_text text
gives_labels text done label at result h e same r =
    let nothing : drop at text ≡ [] = drop_all at text (omega arith) in
    r ∙ ap (λ n. result_map_both lowered (λ f. f) (ended done label n)) e
    ∙ sym (not_root text h
    ∙ ap (λ p. result_map_both lowered (λ f. f) (at_the_end p (length text))) (same
    ∙ ap (read_from (Reading 0 done label) at) nothing))
