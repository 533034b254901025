-- Pieces that are written one behind another.
use Rattle.std.proofs.Common.{◌≡◌, ℕ, ◌+◌, ◌-◌, ◌≤◌, List, ◌++◌, length-append, take, drop, take-append-drop, append_assoc, drop-drop, arith, ap, sym, ◌∙◌}
use Rattle.address_text.specs.Wrote.{Wrote}

-- what stays behind a place stays behind a later one
pub drop_on : (m n : ℕ) (xs ys : List ℕ) → m ≤ n → drop m xs ≡ drop m ys → drop n xs ≡ drop n ys
drop_on m n xs ys h e =
    let sum : m + (n - m) ≡ n = omega arith in
    ap (λ k. drop k xs) (sym sum) ∙ sym (drop-drop (n - m) m xs) ∙ ap (drop (n - m)) e
    ∙ drop-drop (n - m) m ys ∙ ap (λ k. drop k ys) sum

infixl 5 ◌then◌
module _ {a b c : List ℕ} {at m e : ℕ} {t u : List ℕ} where
  -- a piece behind a piece
  pub ◌then◌ : Wrote a b at m t → Wrote b c m e u → Wrote a c at e (t ++ u)
  ◌then◌ f g = record {
    end_is = let l = length-append t u in omega (arith, f.end_is, g.end_is);
    written = g.written ∙ ap (λ x. x ++ u) f.written ∙ append_assoc (take at a) t u;
    kept = g.kept ∙ drop_on m e b a (omega (arith, g.end_is)) f.kept;
  }

-- the whole buffer
pub whole : {a b : List ℕ} {at e : ℕ} {t : List ℕ} → Wrote a b at e t
    → b ≡ take at a ++ t ++ drop e a
whole {a} {b} {at} {e} {t} w =
    sym (take-append-drop e b) ∙ ap (λ x. x ++ drop e b) w.written
    ∙ ap (λ x. take at a ++ t ++ x) w.kept
