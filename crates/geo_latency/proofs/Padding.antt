-- Texts that zeros fill up to one length.
use Rattle.std.proofs.Common.{◌≡◌, ◌-◌, ◌&&◌, ◌==◌, ℕ, Bool, true, false, List, [], ◌∷◌, ◌++◌, length, replicate, arith, refl, sym, ap, ◌∙◌}
use Rattle.std.specs.Str.{bytes_eq}
use Rattle.std.proofs.lemmas.Bool.{and_from, and_parts, eq-eqb, eqb-true}
use Rattle.std.proofs.lemmas.Slice.Eq.{bytes_eq-Decides}

-- fronts of one length are equal where the whole is
same_front : (a b x y : List ℕ) → length a ≡ length b → a ++ x ≡ b ++ y → a ≡ b
same_front [] [] x y long e = refl
same_front [] (d ∷ b) x y long e = absurd (omega (arith, long))
same_front (c ∷ a) [] x y long e = absurd (omega (arith, long))
same_front (c ∷ a) (d ∷ b) x y long e =
    let first : c ≡ d = cc in
    let rest : a ++ x ≡ b ++ y = cc in
    let known = same_front a b x y (omega (arith, long)) rest in
    cc

abbrev filled : ℕ → List ℕ → List ℕ
filled most a = a ++ replicate (most - length a) 0

abbrev both_equal : ℕ → (a b : List ℕ) → Bool
both_equal most a b = bytes_eq (filled most a) (filled most b) && (length a == length b)

-- They are equal where the arrays and the lengths are.
pub same_filled : (most : ℕ) (a b : List ℕ)
    → bytes_eq (filled most a) (filled most b) && (length a == length b) ≡ bytes_eq a b
same_filled most a b = go (bytes_eq a b) (both_equal most a b) refl refl where
  go : (v w : Bool) → bytes_eq a b ≡ v → both_equal most a b ≡ w
      → both_equal most a b ≡ bytes_eq a b
  go true w e f =
      let same : a ≡ b = (bytes_eq-Decides a b).0 e in
      and_from _ _ ((bytes_eq-Decides (filled most a) (filled most b)).1 (ap (filled most) same))
      (eq-eqb (length a) (length b) (ap length same)) ∙ sym e
  go false true e f =
      let both = and_parts (bytes_eq (filled most a) (filled most b)) (length a == length b) f in
      let same = same_front a b _ _ (eqb-true (length a) (length b) (both.1))
      ((bytes_eq-Decides (filled most a) (filled most b)).0 (both.0)) in
      f ∙ sym ((bytes_eq-Decides a b).1 same)
  go false false e f = f ∙ sym e
