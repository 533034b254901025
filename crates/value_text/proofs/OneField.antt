-- The text of a string is one field: escapes in strings hide the same quotes as escapes in fields.
use Rattle.std.proofs.Common.{◌≡◌, ℕ, zero, suc, ◌+◌, List, [], ◌∷◌, ◌++◌, length, get_or, ap, ◌∙◌, sym, refl, arith, subst, Bool}
use Rattle.std.proofs.Common.{true, false, cond, Option, None, Some}
use Rattle.std.specs.Prelude.{◌==◌, ◌&&◌, nat_le}
use Rattle.std.proofs.lemmas.Bool.{and_parts, leb-true, ne_eqb, eqb-true}
use Rattle.value_text.specs.Fields.{quote, backslash, quoted_len, next_field}
use Rattle.octets.specs.Octal.{is_octal_digit, has_octal, octal_of}
use Rattle.value_text.specs.Strings.{Progress, read_from, add_character, character, escape, is_printable, is_escaped, at_the_end, string_of_text}
use Rattle.value_text.specs.Strings.Progress.{Reading, Closed, Broken}
use Rattle.value_text.specs.declared.strings.Character.{Character}
use Rattle.value_text.proofs.Reading.{broken}

-- So many bytes that the string's reader passes over hold no mark that the field's reader would
-- see.
abbrev Passes : (escaped : Bool) → ℕ → List ℕ → Type 0
Passes false zero text = Unit {0}
Passes false (suc k) [] = Unit {0}
Passes false (suc k) (b ∷ rest) = ((b == quote) ≡ false) × ((b == backslash) ≡ false)
    × Passes false k rest
Passes true zero text = ⊥
Passes true (suc k) [] = Unit {0}
Passes true (suc k) (b ∷ rest) = Passes false k rest

digit_is_no_mark : (b : ℕ) → is_octal_digit b ≡ true
    → ((b == quote) ≡ false) × ((b == backslash) ≡ false)
digit_is_no_mark b h =
    let p = and_parts (nat_le 0x30 b) (nat_le b 0x37) h in
    let low = leb-true 0x30 b p.0 in
    let high = leb-true b 0x37 p.1 in
    (ne_eqb b quote (λ e. omega arith), ne_eqb b backslash (λ e. omega arith))

mark_passes : (text : List ℕ) → Passes true 1 text
mark_passes [] = tt
mark_passes (b ∷ rest) = tt

octal_passes : (text : List ℕ) → has_octal text ≡ true → Passes true 3 text
octal_passes [] h = tt
octal_passes (a ∷ []) h = tt
octal_passes (a ∷ b ∷ []) h =
    let p = and_parts (is_octal_digit a && is_octal_digit b
    && is_octal_digit 0) (nat_le (octal_of (a ∷ b ∷ [])) 255) h in
    let q = and_parts (is_octal_digit a && is_octal_digit b) (is_octal_digit 0) p.0 in
    let r = and_parts (is_octal_digit a) (is_octal_digit b) q.0 in
    let m = digit_is_no_mark b r.1 in
    (m.0, m.1, tt)
octal_passes (a ∷ b ∷ c ∷ rest) h =
    let p = and_parts (is_octal_digit a && is_octal_digit b
    && is_octal_digit c) (nat_le (octal_of (a ∷ b ∷ c ∷ rest)) 255) h in
    let q = and_parts (is_octal_digit a && is_octal_digit b) (is_octal_digit c) p.0 in
    let r = and_parts (is_octal_digit a) (is_octal_digit b) q.0 in
    let m = digit_is_no_mark b r.1 in
    let n = digit_is_no_mark c q.1 in
    (m.0, m.1, (n.0, n.1, tt))

-- A reader inside the quotes, at the end of whose text a string stands.
abbrev Gives : Progress → List ℕ → List ℕ → Type 0
Gives progress text string = at_the_end (read_from progress text) ≡ Some string

never_broken : (text string : List ℕ) → Gives Broken text string → ⊥
never_broken text string h = let e = ap at_the_end (broken text) in cc

-- behind the closing quote nothing stands
closed_ends : (before text string : List ℕ) → Gives (Closed before) text string → text ≡ []
closed_ends before [] string h = refl
closed_ends before (b ∷ rest) string h = absurd (never_broken rest string h)

-- what a character leaves to pass
data Leaves (escaped : Bool) (c : Option Character) (rest : List ℕ) : Type 0 where
  passes : (more : ℕ) (value : ℕ) → c ≡ Some (record { value = value; more = more })
      → Passes escaped more rest → Leaves escaped c rest
  nothing : c ≡ None → Leaves escaped c rest

escape_leaves : (rest : List ℕ) → Leaves true (escape rest) rest
escape_leaves rest = marked (is_escaped (get_or rest 0 0)) refl
  where
    octal : (t : Bool) → is_escaped (get_or rest 0 0) ≡ false → has_octal rest ≡ t
        → Leaves true (escape rest) rest
    octal true m e = passes 3 (octal_of rest)
        (ap (λ t. cond t (Some (record { value = get_or rest 0 0; more = 1 }))
        (cond (has_octal rest) (Some (record { value = octal_of rest; more = 3 })) None)) m
        ∙ ap (λ t. cond t (Some (record { value = octal_of rest; more = 3 })) None) e)
        (octal_passes rest e)
    octal false m e = nothing (ap (λ t. cond t (Some (record { value = get_or rest 0 0; more = 1 }))
        (cond (has_octal rest) (Some (record { value = octal_of rest; more = 3 })) None)) m
        ∙ ap (λ t. cond t (Some (record { value = octal_of rest; more = 3 })) None) e)

    marked : (t : Bool) → is_escaped (get_or rest 0 0) ≡ t → Leaves true (escape rest) rest
    marked true e = passes 1 (get_or rest 0 0)
        (ap (λ t. cond t (Some (record { value = get_or rest 0 0; more = 1 }))
        (cond (has_octal rest) (Some (record { value = octal_of rest; more = 3 })) None)) e)
        (mark_passes rest)
    marked false e = octal (has_octal rest) e refl

character_leaves : (b : ℕ) (rest : List ℕ) → Leaves (b == backslash) (character b rest) rest
character_leaves b rest = cases (b == backslash) (escape_leaves rest) (is_printable b)
  where
    cases : (t : Bool) → Leaves true (escape rest) rest → (p : Bool)
        → Leaves t (cond t (escape rest) (cond p (Some (record { value = b; more = 0 })) None)) rest
    cases true l p = l
    cases false l true = passes 0 b refl tt
    cases false l false = nothing refl

module _ (behind : List ℕ) where
  -- the field ends with the text of the string
  inside : (text : List ℕ) (escaped : Bool) (k : ℕ) (before string : List ℕ) → Passes escaped k text
      → Gives (Reading k before) text string → quoted_len escaped (text ++ behind) ≡ length text
  inside [] escaped k before string p g =
      absurd (let e : ◌≡◌ {A = Option (List ℕ)} None (Some string) = g in cc)
  inside (b ∷ rest) true zero before string p g = absurd p
  inside (b ∷ rest) true (suc k) before string p g = ap suc (inside rest false k before string p g)
  inside (b ∷ rest) false (suc k) before string p g =
      ap (λ t. cond t 1 (suc (quoted_len (b == backslash) (rest ++ behind)))) p.0
      ∙ ap (λ t. suc (quoted_len t (rest ++ behind))) p.1
      ∙ ap suc (inside rest false k before string p.2 g)
  inside (b ∷ rest) false zero before string p g =
      at_byte (b == quote) (character b rest) (character_leaves b rest) g
      (λ k after q h. inside rest (b == backslash) k after string q h)
    where
      at_byte : (t : Bool) (c : Option Character) → Leaves (b == backslash) c rest
          → Gives (cond t (Closed before) (add_character before c)) rest string
          → ((k : ℕ) (after : List ℕ) → Passes (b == backslash) k rest
          → Gives (Reading k after) rest string
          → quoted_len (b == backslash) (rest ++ behind) ≡ length rest)
          → cond t 1 (suc (quoted_len (b == backslash) (rest ++ behind))) ≡ suc (length rest)
      at_byte true c l g more = ap (λ r. suc (length r)) (sym (closed_ends before rest string g))
      at_byte false c (passes m v e p) g more =
          ap suc (more m (before
          ++ v ∷ []) p (subst (λ d. Gives (add_character before d) rest string) e g))
      at_byte false c (nothing e) g more =
          absurd (never_broken rest string
          (subst (λ d. Gives (add_character before d) rest string) e g))

pub one_field : (at : ℕ) (text behind string : List ℕ) → string_of_text text ≡ Some string
    → next_field at (text ++ behind) ≡ Some (record { start = at; end = at + length text })
one_field at [] behind string h =
    absurd (let e : ◌≡◌ {A = Option (List ℕ)} None (Some string) = h in cc)
one_field at (b ∷ rest) behind string h = opened (b == quote) refl h
  where
    opened : (t : Bool) → (b == quote) ≡ t → Gives (cond t (Reading 0 []) Broken) rest string
        → next_field at ((b ∷ rest) ++ behind)
        ≡ Some (record { start = at; end = at + length (b ∷ rest) })
    opened false e g = absurd (never_broken rest string g)
    opened true e g =
        let q : quote ≡ b = sym (eqb-true b quote e) in
        subst (λ c. next_field at (c ∷ (rest ++ behind))
        ≡ Some (record { start = at; end = at + suc (length rest) })) q
        (ap (λ n. Some (record { start = at; end = at + suc n }))
        (inside behind rest false 0 [] string tt g))
