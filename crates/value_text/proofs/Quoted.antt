-- Quoted fields, byte by byte.
use Rattle.std.proofs.Common.{◌≡◌, ℕ, suc, ◌+◌, ◌<◌, List, length, drop, ap, arith, ◌∙◌, true, false, Bool}
use Rattle.std.proofs.lemmas.List.{drop_more}
use Rattle.value_text.specs.Fields.{quoted_len}

-- the byte behind a backslash
pub past_escaped : (text : List ℕ) (i : ℕ) (escaped : Bool) → i < length text → escaped ≡ true
    → i + 1 + quoted_len false (drop (i + 1) text) ≡ i + quoted_len escaped (drop i text)
past_escaped text i escaped h e =
    let same : quoted_len escaped (drop i text) ≡ suc (quoted_len false (drop (i + 1) text)) =
    ap (λ t. quoted_len t (drop i text)) e ∙ ap (quoted_len true) (drop_more text i 0 h) in
    omega (arith, same)
