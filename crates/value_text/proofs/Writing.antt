-- Texts of strings, as they are written, and read again.
use Rattle.std.proofs.Common.{◌≡◌, ℕ, ◌+◌, ◌-◌, ◌/◌, ◌%◌, ◌<◌, ◌≤◌, List, [], ◌∷◌, ◌++◌, length, take, drop, get_or, arith, ap}
use Rattle.std.proofs.Common.{◌∙◌, sym, refl, Bool, true, false, cond, append-nil, append_assoc, drop-drop, Option, None, Some}
use Rattle.std.specs.Prelude.{◌==◌, nat_le}
use Rattle.std.specs.List.{flat_map, All}
use Rattle.std.proofs.lemmas.Bool.{le-leb, ne_eqb, and_from, or_parts, or_from}
use Rattle.std.proofs.lemmas.List.{take_more}
use Rattle.std.proofs.lemmas.List.Elements.{All-head, All-tail}
use Rattle.std.proofs.lemmas.List.Concat.{flat_map-append}
use Rattle.value_text.specs.Fields.{quote, backslash}
use Rattle.octets.specs.Octal.{is_octal_digit, has_octal, octal_of}
use Rattle.value_text.specs.Strings.{read_from, add_character, character, is_printable, is_escaped, octal_text, escape}
use Rattle.value_text.specs.Strings.{at_the_end, string_of_text, character_text, string_text}
use Rattle.value_text.specs.Strings.Progress.{Reading, Closed}
use Rattle.value_text.specs.declared.strings.Character.{Character}

-- the text of one byte more
pub text_more : (string : List ℕ) (i : ℕ) → i < length string
    → quote ∷ flat_map character_text (take (i + 1) string)
    ≡ (quote ∷ flat_map character_text (take i string)) ++ character_text
    (get_or string i 0)
text_more string i h = ap (λ t. quote ∷ t) (
    ap (flat_map character_text) (take_more string i 0 h)
    ∙ flat_map-append character_text (take i string) (get_or string i 0 ∷ [])
    ∙ ap (λ t. flat_map character_text (take i string)
    ++ t) (append-nil (character_text (get_or string i 0))))

-- what stays behind a place stays behind a later one
pub drop_on : (m n : ℕ) (xs ys : List ℕ) → m ≤ n → drop m xs ≡ drop m ys → drop n xs ≡ drop n ys
drop_on m n xs ys h e =
    let sum : m + (n - m) ≡ n = omega arith in
    ap (λ k. drop k xs) (sym sum) ∙ sym (drop-drop (n - m) m xs) ∙ ap (drop (n - m)) e
    ∙ drop-drop (n - m) m ys ∙ ap (λ k. drop k ys) sum

abbrev short_escape : ℕ → Option Character
short_escape b = Some (record { value = b; more = 1 })

abbrev octal_escape : ℕ → Option Character
octal_escape b = Some (record { value = b; more = 3 })

octal_digit : (d : ℕ) → d < 8 → is_octal_digit (0x30 + d) ≡ true
octal_digit d h =
    and_from (nat_le 0x30 (0x30 + d)) (nat_le (0x30 + d) 0x37)
    (le-leb 0x30 (0x30 + d) (omega arith)) (le-leb (0x30 + d) 0x37 (omega arith))

module _ (b : ℕ) (rest : List ℕ) (byte : b < 256) where
  abbrev digits : List ℕ
  digits = (0x30 + b / 64) ∷ (0x30 + b / 8 % 8) ∷ (0x30 + b % 8) ∷ rest

  value : octal_of digits ≡ b
  value = omega arith

  three : has_octal digits ≡ true
  three =
      let first = octal_digit (b / 64) (omega arith) in
      let second = octal_digit (b / 8 % 8) (omega arith) in
      let third = octal_digit (b % 8) (omega arith) in
      let small : octal_of digits ≤ 255 = let e = value in omega arith in
      and_from _ _ (and_from _ _ (and_from _ _ first second) third)
      (le-leb (octal_of digits) 255 small)

  no_mark : is_escaped (0x30 + b / 64) ≡ false
  no_mark =
      or_from ((0x30 + b / 64) == quote) ((0x30 + b / 64) == backslash)
      (ne_eqb (0x30 + b / 64) quote (λ e. omega arith))
      (ne_eqb (0x30 + b / 64) backslash (λ e. omega arith))

  octal_escaped : escape digits ≡ octal_escape b
  octal_escaped =
      ap (λ t. cond t (short_escape (0x30 + b / 64))
      (cond (has_octal digits) (octal_escape (octal_of digits)) None)) no_mark
      ∙ ap (λ t. cond t (octal_escape (octal_of digits)) None) three
      ∙ ap octal_escape value

module _ (string : List ℕ) (b : ℕ) (rest : List ℕ) (byte : b < 256) where
  abbrev Reads : List ℕ → Type 0
  Reads text = read_from (Reading 0 string) (text ++ rest)
      ≡ read_from (Reading 0 (string ++ b ∷ [])) rest

  reads_mark : is_escaped b ≡ true → Reads (backslash ∷ b ∷ [])
  reads_mark e = ap (λ t. read_from (add_character string (cond t (short_escape b)
      (cond (has_octal (b ∷ rest)) (octal_escape (octal_of (b ∷ rest))) None))) (b ∷ rest)) e

  reads_plain : is_escaped b ≡ false → is_printable b ≡ true → Reads (b ∷ [])
  reads_plain m e =
      let parts = or_parts (b == quote) (b == backslash) m in
      ap (λ t. read_from (cond t (Closed string) (add_character string (character b rest))) rest)
      parts.0
      ∙ ap (λ t.
      read_from
      (add_character string
      (cond t (escape rest)
      (cond (is_printable b) (Some (record { value = b; more = 0 })) None))) rest) parts.1
      ∙ ap (λ t.
      read_from (add_character string (cond t (Some (record { value = b; more = 0 })) None))
      rest) e

  reads_octal : Reads (octal_text b)
  reads_octal =
      ap (λ c. read_from (add_character string c) ((0x30 + b / 64) ∷ (0x30 + b / 8 % 8)
      ∷ (0x30 + b % 8) ∷ rest)) (octal_escaped b rest byte)

  pub reads_character : Reads (character_text b)
  reads_character = marked (is_escaped b) refl
    where
      printed : (t : Bool) → is_escaped b ≡ false → is_printable b ≡ t
          → Reads (cond t (b ∷ []) (octal_text b))
      printed true m e = reads_plain m e
      printed false m e = reads_octal

      marked : (t : Bool) → is_escaped b ≡ t
          → Reads (cond t (backslash ∷ b ∷ []) (cond (is_printable b) (b ∷ []) (octal_text b)))
      marked true e = reads_mark e
      marked false e = printed (is_printable b) e refl

-- behind the characters that are written stands what stood behind them
reads_all : (before string rest : List ℕ) → All (λ b. b < 256) string
    → read_from (Reading 0 before) (flat_map character_text string ++ rest)
    ≡ read_from (Reading 0 (before ++ string)) rest
reads_all before [] rest h = ap (λ t. read_from (Reading 0 t) rest) (sym (append-nil before))
reads_all before (b ∷ string) rest h =
    ap (read_from (Reading 0 before))
    (append_assoc (character_text b) (flat_map character_text string) rest)
    ∙ reads_character before b (flat_map character_text string
    ++ rest) (All-head (λ c. c < 256) b string h)
    ∙ reads_all (before ++ b ∷ []) string rest (All-tail (λ c. c < 256) b string h)
    ∙ ap (λ t. read_from (Reading 0 t) rest) (append_assoc before (b ∷ []) string)

pub reads_back : (string : List ℕ) → All (λ b. b < 256) string → length string ≤ 255
    → string_of_text (string_text string) ≡ Some string
reads_back string h short =
    ap at_the_end (reads_all [] string (quote ∷ []) h)
    ∙ ap (λ t. cond t (Some string) None) (le-leb (length string) 255 short)
