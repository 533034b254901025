-- A name passed over label by label.
use Rattle.std.proofs.Common.{◌≡◌, ℕ, ◌<◌, List, [], ◌∷◌, ◌++◌, length, drop, arith, ap, ◌∙◌, sym, refl, append_assoc, Result, Ok, Err}
use Rattle.std.specs.List.{AllByRecursion, flat_map}
use Rattle.std.proofs.Math.Seq.{drop-append_seam}
use Rattle.set_reading.specs.ReadingOfOctetReading.{octet_at}
use Rattle.set_reading.proofs.Digits.{ok_is}
use Rattle.set_reading.specs.Labels.{frame, wire, IsRawLabel}

abbrev Read : Type 0
Read = Result (ℕ × List ℕ) ℕ

ok_parts : (n m : ℕ) (xs ys : List ℕ) (one : Read) → one ≡ Ok (n, xs) → one ≡ Ok (m, ys) → (n ≡ m) × (xs ≡ ys)
ok_parts n m xs ys one e k =
    let same = ok_is (n, xs) (m, ys) (sym e ∙ k) in
    (ap (λ (p : ℕ × List ℕ). p.0) same, ap (λ (p : ℕ × List ℕ). p.1) same)

module _ (size : ℕ) (left others rest : List ℕ) (read : octet_at left ≡ Ok (size, others)) where
  front : (n : ℕ) (behind : List ℕ) → left ≡ n ∷ behind → (n ≡ size) × (behind ≡ others)
  front n behind e = ok_parts n size behind others (octet_at left) (ap octet_at e) read

  -- the labels behind the first one
  pub passed : (labels : List (List ℕ)) → AllByRecursion IsRawLabel labels → left ≡ wire labels ++ rest
      → (size ≡ 0 → ⊥)
      → (later : List (List ℕ)) × AllByRecursion IsRawLabel later × (drop size others ≡ wire later ++ rest)
  passed [] are e some = absurd (some (sym (front 0 rest e).0))
  passed (label ∷ later) are e some =
      let tail = wire later ++ rest in
      let same : wire (label ∷ later) ++ rest ≡ length label ∷ (label ++ tail) =
      ap (λ t. length label ∷ t)
      (ap (λ t. t ++ rest) (append_assoc label (flat_map frame later) (0 ∷ []))
      ∙ append_assoc label (wire later) rest) in
      let f = front (length label) (label ++ tail) (e ∙ same) in (
        later,
        are.1,
        ap (λ n. drop n others) (sym f.0) ∙ ap (drop (length label)) (sym f.1) ∙ drop-append_seam label tail,
      )

  -- behind the label of the root
  pub ended : (labels : List (List ℕ)) → AllByRecursion IsRawLabel labels → left ≡ wire labels ++ rest
      → size ≡ 0 → others ≡ rest
  ended [] are e none = sym (front 0 rest e).1
  ended (label ∷ later) are e none =
      let tail = wire later ++ rest in
      let same : wire (label ∷ later) ++ rest ≡ length label ∷ (label ++ tail) =
      ap (λ t. length label ∷ t)
      (ap (λ t. t ++ rest) (append_assoc label (flat_map frame later) (0 ∷ []))
      ∙ append_assoc label (wire later) rest) in
      let f = front (length label) (label ++ tail) (e ∙ same) in
      let filled = are.0.filled in
      absurd (omega (arith, f.0, none, filled))

not_both : (n : ℕ) (xs : List ℕ) (fault : ℕ) (one : Read) → one ≡ Ok (n, xs) → one ≡ Err fault
    → {A : Type 0} → A
not_both n xs fault one e k = absurd cc

-- octets that are left have a first one
pub some_left : (left rest : List ℕ) (fault : ℕ) (labels : List (List ℕ)) → left ≡ wire labels ++ rest
    → octet_at left ≡ Err fault → {A : Type 0} → A
some_left left rest fault [] e read = not_both 0 rest fault (octet_at left) (ap octet_at e) read
some_left left rest fault (label ∷ later) e read =
    let tail = wire later ++ rest in
    let same : wire (label ∷ later) ++ rest ≡ length label ∷ (label ++ tail) =
    ap (λ t. length label ∷ t)
    (ap (λ t. t ++ rest) (append_assoc label (flat_map frame later) (0 ∷ []))
    ∙ append_assoc label (wire later) rest) in
    not_both (length label) (label ++ tail) fault (octet_at left) (ap octet_at (e ∙ same)) read
