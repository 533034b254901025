-- Numbers above a bound.
use Rattle.std.proofs.Common.{◌≡◌, ℕ, ◌+◌, ◌-◌, ◌*◌, ◌<◌, List, [], ◌∷◌, ap, arith, refl, sym, ◌∙◌, Bool, true, false, cond, None, Some, length, drop, get_or}
use Rattle.std.proofs.lemmas.Bool.{lt-leb}
use Rattle.std.proofs.lemmas.List.{drop_more}
use Rattle.value_text.specs.Numbers.{is_digit, number_from, up_to, number}

-- more digits make no smaller number
pub above : (most value : ℕ) (rest : List ℕ) → most < value
    → up_to most (number_from value rest) ≡ None
above most value [] h = ap (λ t. cond t (Some value) None) (lt-leb value most h)
above most value (b ∷ rest) h =
    go (is_digit b) refl (above most (value * 10 + (b - 0x30)) rest (omega arith))
  where
    go : (v : Bool) → is_digit b ≡ v
        → up_to most (number_from (value * 10 + (b - 0x30)) rest) ≡ None
        → up_to most (number_from value (b ∷ rest)) ≡ None
    go true e more =
        ap (λ t. up_to most (cond t (number_from (value * 10 + (b - 0x30)) rest) None)) e ∙ more
    go false e more =
        ap (λ t. up_to most (cond t (number_from (value * 10 + (b - 0x30)) rest) None)) e

-- a field that isn't empty is read from its first digit on
pub filled : (most : ℕ) (field : List ℕ) → 0 < length field
    → number most field ≡ up_to most (number_from 0 field)
filled most [] h = absurd (omega arith)
filled most (b ∷ rest) h = refl

-- the digit at a place makes the number too large
pub above_at : (most value next i : ℕ) (field : List ℕ) → 0 < length field → i < length field
    → number_from value (drop i field) ≡ number_from 0 field → is_digit (get_or field i 0) ≡ true
    → next ≡ value * 10 + (get_or field i 0 - 0x30) → most < next → None ≡ number most field
above_at most value next i field some within same digit e h = sym (
    filled most field some
    ∙ ap (up_to most) (sym same)
    ∙ ap (λ xs. up_to most (number_from value xs)) (drop_more field i 0 within)
    ∙ ap (λ t.
    up_to most
    (cond t (number_from (value * 10 + (get_or field i 0 - 0x30)) (drop (i + 1) field)) None))
    digit
    ∙ ap (λ v. up_to most (number_from v (drop (i + 1) field))) (sym e)
    ∙ above most next (drop (i + 1) field) h)
