-- What stands for an octet in a text, by the octet.
use Rattle.std.proofs.Common.{◌≡◌, ℕ, ◌/◌, ◌%◌, ◌+◌, ◌<◌, ◌≤◌, List, [], ◌∷◌, ◌++◌, refl, arith, ap, ◌∙◌, take, length, get_or}
use Rattle.std.proofs.Common.{append-nil}
use Rattle.std.specs.Char.{digit_char}
use Rattle.std.proofs.lemmas.Bool.{lt-ltb, le-ltb, ne_eqb}
use Rattle.std.proofs.lemmas.List.{take_more}
use Rattle.std.proofs.lemmas.List.Concat.{flat_map-append}
use Rattle.json.specs.Print.{escape, escape_byte, escape_letter}

-- with a short escape
pub with_letter : (b : ℕ) → 0 < escape_letter b → escape_byte b ≡ 92 ∷ escape_letter b ∷ []
unfolding escape_byte
with_letter b h = rw (lt-ltb 0 (escape_letter b) h) refl

-- a control character without one
pub control : (b : ℕ) → escape_letter b ≤ 0 → b < 32
    → escape_byte b ≡ 92 ∷ 117 ∷ 48 ∷ 48 ∷ digit_char (b / 16) ∷ digit_char (b % 16) ∷ []
unfolding escape_byte
control b none h = rw (le-ltb 0 (escape_letter b) none) (rw (lt-ltb b 32 h) refl)

-- any other
pub bare : (b : ℕ) → escape_letter b ≤ 0 → 32 ≤ b → escape_byte b ≡ b ∷ []
unfolding escape_byte
bare b none h = rw (le-ltb 0 (escape_letter b) none) (rw (le-ltb b 32 h) refl)

letterless : (b : ℕ) → 32 ≤ b → (b ≡ 34 → ⊥) → (b ≡ 92 → ⊥) → escape_letter b ≡ 0
letterless b h quote slash =
    rw (ne_eqb b 34 quote) (rw (ne_eqb b 92 slash) (rw (ne_eqb b 8 (λ e. omega arith))
    (rw (ne_eqb b 12 (λ e. omega arith)) (rw (ne_eqb b 10 (λ e. omega arith))
    (rw (ne_eqb b 13 (λ e. omega arith)) (rw (ne_eqb b 9 (λ e. omega arith)) refl))))))

pub plain : (b : ℕ) → 32 ≤ b → (b ≡ 34 → ⊥) → (b ≡ 92 → ⊥) → escape_byte b ≡ b ∷ []
plain b h quote slash =
    let e = letterless b h quote slash in
    bare b (omega (arith, e)) h

-- the text of one octet more
pub escape_more : (text : List ℕ) (i : ℕ) → i < length text
    → escape (take (i + 1) text) ≡ escape (take i text) ++ escape_byte (get_or text i 0)
escape_more text i h =
    ap escape (take_more text i 0 h)
    ∙ flat_map-append escape_byte (take i text) (get_or text i 0 ∷ [])
    ∙ ap (λ t. escape (take i text) ++ t) (append-nil (escape_byte (get_or text i 0)))
