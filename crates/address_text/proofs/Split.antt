-- The pieces of a text between marks.
use Rattle.std.proofs.Common.{◌≡◌, ℕ, ◌≤◌, List, [], ◌∷◌, ◌++◌, Bool, true, false, cond, Option, None, Some, ◌==◌, eqb-true, ne_eqb, eq-eqb, arith, refl, sym, ap, ap₂, ◌∙◌, append-nil}
use Rattle.std.proofs.lemmas.Option.{none-some, same_Some}
use Rattle.std.specs.Char.{digit_value}
use Rattle.std.specs.List.{AllByRecursion}
use Rattle.std.specs.Str.Parse.{AllDigits}
use Rattle.address_text.specs.AddressOfText.{pieces, joined}

-- pieces with a mark in front of each
abbrev pub behind_marks : ℕ → List (List ℕ) → List ℕ
behind_marks mark [] = []
behind_marks mark (piece ∷ rest) = mark ∷ (piece ++ behind_marks mark rest)

-- the text that pieces were cut from
abbrev pub whole_of : ℕ → List ℕ × List (List ℕ) → List ℕ
whole_of mark cut = cut.0 ++ behind_marks mark cut.1

-- a text is its pieces with the mark between them
pub put_together : (mark : ℕ) (text : List ℕ) → text ≡ whole_of mark (pieces mark text)
put_together mark [] = refl
put_together mark (b ∷ rest) = go (put_together mark rest) (b == mark) refl
  where
    later : List ℕ × List (List ℕ)
    later = pieces mark rest

    go : rest ≡ whole_of mark later → (t : Bool) → (b == mark) ≡ t
        → b ∷ rest ≡ whole_of mark (cond t ([], later.0 ∷ later.1) (b ∷ later.0, later.1))
    go whole true e = ap₂ (λ c l. c ∷ l) (eqb-true b mark e) whole
    go whole false e = ap (λ l. b ∷ l) whole

-- none of these bytes is the mark
abbrev pub IsPlain : ℕ → List ℕ → Type 0
IsPlain mark text = AllByRecursion (λ b. (b == mark) ≡ false) text

-- the pieces behind plain bytes
pub behind_plain : (mark : ℕ) (plain rest : List ℕ) → IsPlain mark plain
    → pieces mark (plain ++ rest) ≡ (plain ++ (pieces mark rest).0, (pieces mark rest).1)
behind_plain mark [] rest h = refl
behind_plain mark (b ∷ plain) rest h =
    let later = behind_plain mark plain rest h.1 in
    rw (h.0) (ap (λ (p : List ℕ × List (List ℕ)). (b ∷ p.0, p.1)) later)

pub at_mark : (mark : ℕ) (plain rest : List ℕ) → IsPlain mark plain
    → pieces mark (plain ++ mark ∷ rest) ≡ (plain, (pieces mark rest).0 ∷ (pieces mark rest).1)
at_mark mark plain rest h =
    let same : (mark == mark) ≡ true = eq-eqb mark mark refl in
    let here : pieces mark (mark ∷ rest) ≡ ([], (pieces mark rest).0 ∷ (pieces mark rest).1) =
    rw (same) refl in
    behind_plain mark plain (mark ∷ rest) h
    ∙ ap (λ (p : List ℕ × List (List ℕ)). (plain ++ p.0, p.1)) here
    ∙ ap (λ l. (l, (pieces mark rest).0 ∷ (pieces mark rest).1)) (append-nil plain)

pub alone : (mark : ℕ) (plain : List ℕ) → IsPlain mark plain → pieces mark plain ≡ (plain, [])
alone mark plain h =
    ap (pieces mark) (sym (append-nil plain)) ∙ behind_plain mark plain [] h
    ∙ ap (λ l. (l, [])) (append-nil plain)

pub plain_both : (mark : ℕ) (xs ys : List ℕ) → IsPlain mark xs → IsPlain mark ys
    → IsPlain mark (xs ++ ys)
plain_both mark [] ys h k = k
plain_both mark (x ∷ xs) ys h k = (h.0, plain_both mark xs ys h.1 k)

-- digits are no marks
pub digits_plain : (radix mark : ℕ) → radix ≤ digit_value mark → (digits : List ℕ)
    → AllDigits radix digits → IsPlain mark digits
digits_plain radix mark low [] h = tt
digits_plain radix mark low (b ∷ digits) h = (
  ne_eqb b mark (λ e. omega (arith, low, h.0, ap digit_value e)),
  digits_plain radix mark low digits h.1,
)

-- what two values that are joined came from
pub record Joins (first others : Option (List ℕ)) (found : List ℕ) : Type 0 where
  pub front : List ℕ
  pub back : List ℕ
  pub first_is : first ≡ Some front
  pub others_are : others ≡ Some back
  pub whole : found ≡ front ++ back

pub joins : (first others : Option (List ℕ)) (found : List ℕ) → joined first others ≡ Some found
    → Joins first others found
joins None others found e = absurd (none-some found e)
joins (Some front) None found e = absurd (none-some found e)
joins (Some front) (Some back) found e =
    record {
      front = front;
      back = back;
      first_is = refl;
      others_are = refl;
      whole =
          sym (same_Some _ _ e);
    }
