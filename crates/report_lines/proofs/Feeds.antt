-- A line feed at the end of octets.
use Rattle.std.proofs.Common.{◌≡◌, ◌≢◌, ℕ, zero, suc, List, [], ◌∷◌, length, take, get_or, refl, ap, arith}
use Rattle.std.proofs.lemmas.Bool.{ne_eqb}
use Rattle.report_lines.specs.Reports.{without_feed}

-- the last of octets is a line feed
pub dropped : (n : ℕ) (octets : List ℕ) → length octets ≡ suc n → get_or octets n 0 ≡ 10
    → take n octets ≡ without_feed octets
dropped n [] some last = absurd (omega (arith, some))
dropped zero (b ∷ []) some last = rw last refl
dropped (suc n) (b ∷ []) some last = absurd (omega (arith, some))
dropped zero (b ∷ c ∷ rest) some last = absurd (omega (arith, some))
dropped (suc n) (b ∷ c ∷ rest) some last =
    ap (λ l. b ∷ l) (dropped n (c ∷ rest) (omega (arith, some)) last)

pub kept : (n : ℕ) (octets : List ℕ) → length octets ≡ suc n → get_or octets n 0 ≢ 10
    → octets ≡ without_feed octets
kept n [] some last = absurd (omega (arith, some))
kept zero (b ∷ []) some last = rw (ne_eqb b 10 last) refl
kept (suc n) (b ∷ []) some last = absurd (omega (arith, some))
kept zero (b ∷ c ∷ rest) some last = absurd (omega (arith, some))
kept (suc n) (b ∷ c ∷ rest) some last =
    ap (λ l. b ∷ l) (kept n (c ∷ rest) (omega (arith, some)) last)
