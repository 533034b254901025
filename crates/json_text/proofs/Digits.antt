-- Octets in hexadecimal digits, one after another.
use Rattle.std.proofs.Common.{◌≡◌, ℕ, ◌+◌, ◌<◌, List, [], ◌∷◌, ◌++◌, refl, ap, length, drop, get_or}
use Rattle.std.proofs.Common.{◌∙◌, sym, append_assoc, add-one, drop-cons}
use Rattle.hex.specs.Hex.{encode_lower, encode_with}

encode_first : (b : ℕ) (rest : List ℕ)
    → encode_lower (b ∷ rest) ≡ encode_lower (b ∷ []) ++ encode_lower rest
unfolding encode_with
encode_first b rest = refl

pub encode_none : encode_lower [] ≡ []
unfolding encode_with
encode_none = refl

-- what is written and what is left, as one more octet is written
pub encode_next : (before octets : List ℕ) (i : ℕ) → i < length octets
    → (before ++ encode_lower (get_or octets i 0 ∷ [])) ++ encode_lower (drop (i + 1) octets)
    ≡ before ++ encode_lower (drop i octets)
encode_next before octets i h =
    append_assoc before (encode_lower (get_or octets i 0 ∷ [])) (encode_lower (drop (i + 1) octets))
    ∙ ap (λ t. before ++ t) (
    sym (encode_first (get_or octets i 0) (drop (i + 1) octets))
    ∙ ap (λ k. encode_lower (get_or octets i 0 ∷ drop k octets)) (add-one i)
    ∙ ap encode_lower (sym (drop-cons octets i 0 h)))
