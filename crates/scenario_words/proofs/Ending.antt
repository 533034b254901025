-- How far the first line of a text goes.
use Rattle.std.proofs.Common.{◌≡◌, ℕ, zero, suc, ◌+◌, ◌<◌, List, [], ◌∷◌, drop, length, true, false, ap, subst, arith}
use Rattle.std.specs.Prelude.{if◌then◌else◌}
use Rattle.scenario_words.specs.LineLength.{ends_line, line_length}

pub ended : (at : ℕ) (text : List ℕ) → at < length text → ends_line (drop at text) ≡ true
    → line_length (drop at text) ≡ 1
ended at [] h e = absurd (omega (arith, h))
ended zero (octet ∷ rest) h e = ap (λ t. if t then 1 else 1 + line_length rest) e
ended (suc at) (octet ∷ rest) h e = ended at rest (omega (arith, h)) e

pub passed : (at : ℕ) (text : List ℕ) → at < length text → ends_line (drop at text) ≡ false
    → line_length (drop at text) ≡ 1 + line_length (drop (at + 1) text)
passed at [] h e = absurd (omega (arith, h))
passed zero (octet ∷ rest) h e = ap (λ t. if t then 1 else 1 + line_length rest) e
passed (suc at) (octet ∷ rest) h e =
    let step : suc (at + 1) ≡ suc at + 1 = omega arith in
    subst (λ n. line_length (drop at rest) ≡ 1 + line_length (drop n (octet ∷ rest))) step
    (passed at rest (omega (arith, h)) e)
