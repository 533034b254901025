-- Texts of strings, read byte by byte.
use Rattle.std.proofs.Common.{◌≡◌, ℕ, zero, suc, ◌+◌, ◌<◌, ◌≤◌, List, [], ◌∷◌, ◌++◌, length, drop, get_or, arith, ap, ◌∙◌, sym}
use Rattle.std.proofs.Common.{refl, false, cond, length-append, length-drop, drop-drop, Option, None, Some}
use Rattle.std.specs.Prelude.{◌==◌}
use Rattle.std.proofs.lemmas.Bool.{true≢false, cond_both, lt-leb, ne_eqb, eq-eqb}
use Rattle.std.proofs.lemmas.List.{drop_more}
use Rattle.value_text.specs.Fields.{quote}
use Rattle.value_text.specs.Strings.{Progress, read_from, after_byte, add_character, character, at_the_end, string_of_text}
use Rattle.value_text.specs.Strings.Progress.{Opening, Reading, Closed, Broken}
use Rattle.value_text.specs.declared.strings.Character.{Character}

-- a text that is broken stays so
pub broken : (text : List ℕ) → read_from Broken text ≡ Broken
broken [] = refl
broken (b ∷ rest) = broken rest

-- the bytes of an escape are passed over
pub passed : (k : ℕ) (string text : List ℕ) → k ≤ length text
    → read_from (Reading k string) text ≡ read_from (Reading 0 string) (drop k text)
passed zero string text h = refl
passed (suc k) string [] h = absurd (omega arith)
passed (suc k) string (b ∷ rest) h = passed k string rest (omega arith)

-- more than 255 bytes are no string, whatever stands behind them
abbrev pub IsLong : Progress → Type 0
IsLong Opening = ⊥
IsLong (Reading passing string) = 255 < length string
IsLong (Closed string) = 255 < length string
IsLong Broken = Unit {0}

long_added : (string : List ℕ) (c : Option Character) → 255 < length string
    → IsLong (add_character string c)
long_added string None h = tt
long_added string (Some c) h = let e = length-append string (c.value ∷ []) in omega arith

long_step : (progress : Progress) (b : ℕ) (rest : List ℕ) → IsLong progress
    → IsLong (after_byte progress b rest)
long_step Opening b rest h = absurd h
long_step (Reading zero string) b rest h =
    cond_both (b == quote) (Closed string) (add_character string (character b rest)) IsLong (λ _. h)
    (λ _. long_added string (character b rest) h)
long_step (Reading (suc passing) string) b rest h = h
long_step (Closed string) b rest h = tt
long_step Broken b rest h = tt

long_end : (progress : Progress) → IsLong progress → at_the_end progress ≡ None
long_end Opening h = refl
long_end (Reading passing string) h = refl
long_end (Closed string) h = ap (λ t. cond t (Some string) None) (lt-leb (length string) 255 h)
long_end Broken h = refl

pub too_long : (progress : Progress) (text : List ℕ) → IsLong progress
    → at_the_end (read_from progress text) ≡ None
too_long progress [] h = long_end progress h
too_long progress (b ∷ rest) h = too_long (after_byte progress b rest) rest (long_step progress b rest h)

-- a text without an opening quote
pub not_quoted : (text : List ℕ) → (length text == 0) ≡ false → (get_or text 0 0 ≡ quote → ⊥)
    → string_of_text text ≡ None
not_quoted [] some h = absurd (true≢false some)
not_quoted (b ∷ rest) some h =
    ap (λ t. at_the_end (read_from (cond t (Reading 0 []) Broken) rest)) (ne_eqb b quote h)
    ∙ ap at_the_end (broken rest)

-- one character more, where no quote stands
pub other_step : (string : List ℕ) (b : ℕ) (rest : List ℕ) → (b ≡ quote → ⊥)
    → after_byte (Reading 0 string) b rest ≡ add_character string (character b rest)
other_step string b rest h =
    ap (λ t. cond t (Closed string) (add_character string (character b rest))) (ne_eqb b quote h)

module _ (text : List ℕ) (at : ℕ) (string : List ℕ) (within : at < length text)
    (same : read_from Opening text ≡ read_from (Reading 0 string) (drop at text)) where
  byte : read_from (Reading 0 string) (drop at text)
      ≡ read_from (after_byte (Reading 0 string) (get_or text at 0) (drop (at + 1) text))
      (drop (at + 1) text)
  byte = ap (read_from (Reading 0 string)) (drop_more text at 0 within)

  pub surplus : get_or text at 0 ≡ quote → at + 1 < length text → string_of_text text ≡ None
  surplus q more =
      ap at_the_end (
      same ∙ byte
      ∙ ap (λ t.
      read_from
      (cond t (Closed string)
      (add_character string (character (get_or text at 0) (drop (at + 1) text))))
      (drop (at + 1) text)) (eq-eqb (get_or text at 0) quote q)
      ∙ ap (read_from (Closed string)) (drop_more text (at + 1) 0 more)
      ∙ broken (drop (at + 1 + 1) text))

  module _ (other : get_or text at 0 ≡ quote → ⊥) where
    added : (c : Option Character) → c ≡ character (get_or text at 0) (drop (at + 1) text)
        → read_from Opening text ≡ read_from (add_character string c) (drop (at + 1) text)
    added c e =
        same ∙ byte
        ∙ ap (λ p. read_from p (drop (at + 1) text))
        (other_step string (get_or text at 0) (drop (at + 1) text) other)
        ∙ ap (λ d. read_from (add_character string d) (drop (at + 1) text)) (sym e)

    pub no_character : None ≡ character (get_or text at 0) (drop (at + 1) text)
        → string_of_text text ≡ None
    no_character e = ap at_the_end (added None e ∙ broken (drop (at + 1) text))

    pub one_too_many : (c : Character) → Some c ≡ character (get_or text at 0) (drop (at + 1) text)
        → 255 ≤ length string → string_of_text text ≡ None
    one_too_many c e full =
        ap at_the_end (added (Some c) e)
        ∙ too_long (Reading c.more (string ++ c.value ∷ [])) (drop (at + 1) text) (let l =
        length-append string (c.value ∷ []) in omega arith)

    pub one_more : (c : Character) → Some c ≡ character (get_or text at 0) (drop (at + 1) text)
        → at + c.more < length text
        → read_from Opening text
        ≡ read_from (Reading 0 (string ++ c.value ∷ [])) (drop (at + (c.more + 1)) text)
    one_more c e room =
        let sum : at + 1 + c.more ≡ at + (c.more + 1) = omega arith in
        added (Some c) e
        ∙ passed c.more (string ++ c.value ∷ []) (drop (at + 1) text) (let l =
        length-drop (at + 1) text in omega arith)
        ∙ ap (read_from (Reading 0 (string ++ c.value ∷ []))) (drop-drop c.more (at + 1) text
        ∙ ap (λ n. drop n text) sum)
