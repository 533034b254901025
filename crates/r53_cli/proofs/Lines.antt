-- What stands behind pieces that are written one behind another.
use Rattle.std.proofs.Common.{◌≡◌, ℕ, ◌+◌, ◌-◌, ◌≤◌, List, drop, arith, ap, ◌∙◌, sym, drop-drop, subst}

-- what stays from a place on, stays from later ones on
pub later_stays : (xs ys : List ℕ) (at later : ℕ) → at ≤ later → drop at xs ≡ drop at ys
    → drop later xs ≡ drop later ys
later_stays xs ys at later behind same =
    let split : at + (later - at) ≡ later = omega arith in
    subst (λ n. drop n xs ≡ drop n ys) split
    (sym (drop-drop (later - at) at xs) ∙ (ap (drop (later - at)) same ∙ drop-drop (later - at) at ys))
