-- Texts of plain bytes behind their length.
use Rattle.std.proofs.Common.{◌≡◌, ℕ, ◌+◌, Bool, true, false, not, List, [], ◌∷◌, ◌++◌, length, take, drop, arith, ap, ◌∙◌, sym}
use Rattle.std.proofs.Common.{refl, cond, length-append, Result, Ok, Err}
use Rattle.std.specs.Prelude.{◌||◌, nat_lt}
use Rattle.std.specs.List.{list_all}
use Rattle.std.proofs.lemmas.Bool.{ltb-false, le-ltb, or_from, or_parts, not_from_true}
use Rattle.std.proofs.lemmas.List.{take-append-drop, length-take-le}
use Rattle.std.proofs.Math.Seq.{take-append_seam, drop-append_seam}
use Rattle.octet_reading.specs.Readers.{text_at}
use Rattle.octet_reading.specs.Rules.{IsReadAs, IsTextOf, text_octets}
use Rattle.octet_reading.proofs.Base.{read_as}
use Rattle.octet_reading.proofs.Digits.{ok_is}
use Rattle.octet_reading.proofs.Found.{IsBytes}
use Rattle.octet_reading.proofs.Texts.{all_from, all_to}
use Rattle.octet_reading.proofs.Within.{Within, ok_within, err_within, cond_within, drop_within}

-- a test that refuses
guard_ok : {A : Type 0} (b : Bool) (left : ℕ) (read : Result A ℕ) (y : A)
    → cond b (Err left) read ≡ Ok y → (b ≡ false) × (read ≡ Ok y)
guard_ok true left read y e = absurd cc
guard_ok false left read y e = (refl, e)

not_false : (b : Bool) → not b ≡ false → b ≡ true
not_false true e = refl
not_false false e = absurd cc

module _ (is_plain : ℕ → Bool) (most : ℕ) where
  text_is : (octets : List ℕ) (x : List ℕ × List ℕ) → IsBytes octets
      → text_at is_plain most octets ≡ Ok x
      → (octets ≡ text_octets x.0 ++ x.1) × IsTextOf is_plain most x.0
  unfolding text_at
  text_is [] x bytes e = absurd cc
  text_is (n ∷ octets) x bytes e =
      let bad = nat_lt n 1 || nat_lt most n || not (list_all is_plain (take n octets)) in
      let a = guard_ok bad (length octets + 1)
      (cond (nat_lt (length octets) n) (Err 0) (Ok (take n octets, drop n octets))) x e in
      let b = guard_ok (nat_lt (length octets) n) 0 (Ok (take n octets, drop n octets)) x a.1 in
      let both = ok_is (take n octets, drop n octets) x b.1 in
      let front : take n octets ≡ x.0 = ap (λ (p : List ℕ × List ℕ). p.0) both in
      let back : drop n octets ≡ x.1 = ap (λ (p : List ℕ × List ℕ). p.1) both in
      let p = or_parts (nat_lt n 1 || nat_lt most n) (not (list_all is_plain (take n octets))) a.0
      in
      let q = or_parts (nat_lt n 1) (nat_lt most n) p.0 in
      let some = ltb-false n 1 q.0 in
      let fits = ltb-false most n q.1 in
      let size : length x.0 ≡ n = ap length (sym front)
      ∙ length-take-le n octets (ltb-false (length octets) n b.0) in
      let whole : octets ≡ x.0 ++ x.1 = sym (take-append-drop n octets) ∙ cc (front, back) in (
        cc (size, whole),
        record {
          filled = omega (arith, size, some);
          short = omega (arith, size, fits);
          plain = all_from is_plain x.0 (ap (list_all is_plain) (sym front) ∙ not_false _ p.1);
        },
      )

  text_again : (text rest : List ℕ) → IsTextOf is_plain most text
      → text_at is_plain most (text_octets text ++ rest) ≡ Ok (text, rest)
  unfolding text_at
  text_again text rest is =
      let plain : list_all is_plain (take (length text) (text ++ rest)) ≡ true =
      ap (list_all is_plain) (take-append_seam text rest) ∙ all_to is_plain text is.plain in
      let good : (nat_lt (length text) 1 || nat_lt most (length text)
      || not (list_all is_plain (take (length text) (text ++ rest)))) ≡ false =
      or_from _ _
      (or_from _ _ (le-ltb (length text) 1 is.filled) (le-ltb most (length text) is.short))
      (not_from_true _ plain) in
      let there : nat_lt (length (text ++ rest)) (length text) ≡ false =
      le-ltb _ _ (omega (arith, length-append text rest)) in
      rw (good, there, take-append_seam text rest, drop-append_seam text rest) refl

  text_within : (octets : List ℕ) → Within (length octets) (text_at is_plain most octets)
  unfolding text_at
  text_within [] = err_within (omega arith)
  text_within (n ∷ rest) =
      cond_within _ _ _ (err_within {left = length rest + 1} (omega arith))
      (cond_within _ _ _ (err_within {left = 0} (omega arith))
      (ok_within {x = (take n rest, drop n rest)} (omega (arith, drop_within n rest))))

  pub text_read : IsReadAs (IsTextOf is_plain most) text_octets (text_at is_plain most)
  text_read = read_as text_again text_is text_within
