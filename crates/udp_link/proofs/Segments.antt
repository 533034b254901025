-- Octets are back from segments of two.
use Rattle.std.proofs.Common.{◌≡◌, ℕ, suc, ◌+◌, ◌*◌, ◌/◌, ◌%◌, ◌<◌, List, [], ◌∷◌, ◌++◌, length, drop, get_or, arith, ap, ap₂, ◌∙◌, refl, append-nil}
use Rattle.std.proofs.lemmas.List.{drop_all}
use Rattle.std.specs.Net.Addr.{octets_of, segments_of}

pub segments_back : (octets : List ℕ) → ((i : ℕ) → get_or octets i 0 < 256) → length octets % 2 ≡ 0
    → octets_of (segments_of octets) ≡ octets
segments_back [] h e = refl
segments_back (a ∷ []) h e = absurd (omega arith)
segments_back (a ∷ b ∷ octets) h e =
    let low : b < 256 = h 1 in
    let first : (a * 256 + b) / 256 ≡ a = omega arith in
    let second : (a * 256 + b) % 256 ≡ b = omega arith in
    let later = segments_back octets (λ i. h (suc (suc i))) (omega arith) in
    ap₂ (λ x y. x ∷ y ∷ octets_of (segments_of octets)) first second ∙ ap (λ l. a ∷ b ∷ l) later

-- sixteen octets over all of sixteen
pub over : (octets all filled segments : List ℕ) → length octets ≡ 16 → length all ≡ 16
    → ((i : ℕ) → get_or octets i 0 < 256) → filled ≡ octets ++ drop (length octets) all
    → segments ≡ segments_of filled → octets_of segments ≡ octets
over octets all filled segments len room bytes is of =
    let rest : drop (length octets) all ≡ [] = drop_all (length octets) all (omega (arith, len, room)) in
    let whole : filled ≡ octets = is ∙ ap (λ l. octets ++ l) rest ∙ append-nil octets in
    ap octets_of (of ∙ ap segments_of whole) ∙ segments_back octets bytes (omega (arith, len))
