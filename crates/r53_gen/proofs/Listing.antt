-- One text more of a row.
use Rattle.std.proofs.Common.{◌≡◌, ℕ, ◌+◌, List, ◌++◌, length, ap, sym, arith, ◌∙◌, append_assoc, add-one, length-append}
use Rattle.r53_gen.specs.Lines.{comma, listed}

pub next_text : (item : ℕ → List ℕ) (i : ℕ) (before a b c : List ℕ)
    → a ≡ before ++ listed item i → b ≡ a ++ comma i → c ≡ b ++ item i
    → c ≡ before ++ listed item (i + 1)
next_text item i before a b c ha hb hc =
    hc ∙ ap (λ t. t ++ item i) (hb ∙ ap (λ t. t ++ comma i) ha)
    ∙ ap (λ t. t ++ item i) (append_assoc before (listed item i) (comma i))
    ∙ append_assoc before (listed item i ++ comma i) (item i)
    ∙ ap (λ t. before ++ t) (append_assoc (listed item i) (comma i) (item i))
    ∙ ap (λ k. before ++ listed item k) (sym (add-one i))

pub next_end : (item : ℕ → List ℕ) (i front at mid end : ℕ)
    → at ≡ front + length (listed item i) → mid ≡ at + length (comma i)
    → end ≡ mid + length (item i) → end ≡ front + length (listed item (i + 1))
next_end item i front at mid end ha hm he =
    let whole : length (listed item (i + 1)) ≡ length (listed item i) + (length (comma i) + length (item i)) =
    ap (λ k. length (listed item k)) (add-one i)
    ∙ length-append (listed item i) (comma i ++ item i)
    ∙ ap (λ n. length (listed item i) + n) (length-append (comma i) (item i)) in
    omega (arith, ha, hm, he, whole)
