-- Fields of at most so many octets, and octets that are read as a whole.
use Rattle.std.proofs.Common.{◌≡◌, ℕ, ◌-◌, ◌≤◌, inl, inr, Bool, true, false, List, [], ◌++◌, length, arith, ap}
use Rattle.std.proofs.Common.{◌∙◌, sym, refl, subst, eqb, length-append, append-nil, Result, Ok, Err, cond}
use Rattle.std.specs.Prelude.{nat_lt}
use Rattle.std.proofs.lemmas.Bool.{eqb-true, ltb-false, le-ltb}
use Rattle.std.proofs.lemmas.List.{nil_from_length}
use Rattle.rdata_layout.specs.Names.{AreOctets}
use Rattle.octet_reading.specs.Readers.{Reader, limited, alone, by_place, whole}
use Rattle.octet_reading.specs.Reading.{◌>>=◌}
use Rattle.octet_reading.specs.Rules.{IsReadAs, TellsWhole}
use Rattle.octet_reading.proofs.Digits.{bind_ok, ok_is}
use Rattle.octet_reading.proofs.Rules.{bind_err, failed, err_is}

module _ {A : Type 0} {is : A → Type 0} {octets_of : A
    → List ℕ} {read : Reader A} (inside : IsReadAs is octets_of read) where
  -- a field of at most so many octets
  module _ (most : ℕ) where
    abbrev through : List ℕ → A × List ℕ → Result (A × List ℕ) ℕ
    through octets x =
        cond (nat_lt most (length octets - length x.1)) (failed (length octets)) (Ok x)

    fits : (b : Bool) (size : ℕ) (x y : A × List ℕ) → cond b (failed size) (Ok x) ≡ Ok y
        → (b ≡ false) × (x ≡ y)
    fits true size x y e = absurd cc
    fits false size x y e = (refl, ok_is x y e)

    too_long : (b : Bool) (size left : ℕ) (x : A × List ℕ) → cond b (failed size) (Ok x) ≡ Err left
        → size ≡ left
    too_long true size left x e = err_is size left e
    too_long false size left x e = absurd (let k : Ok x ≡ Err left = e in cc)

    pub limited_read : IsReadAs (λ x. is x
        × (length (octets_of x) ≤ most)) octets_of (limited most read)
    limited_read = record {
      again = λ x rest h.
          let size : length (octets_of x ++ rest) - length rest ≤ most =
          omega (arith, length-append (octets_of x) rest, h.1) in
          ap (λ r. r >>= through (octets_of x ++ rest)) (inside.again x rest h.0)
          ∙ ap (λ b. cond b (failed (length (octets_of x ++ rest))) (Ok (x, rest)))
          (le-ltb most (length (octets_of x ++ rest) - length rest) size);
      stands = λ octets x rest are e.
          let b = bind_ok (read octets) (through octets) (x, rest) e in
          let f = fits (nat_lt most (length octets - length b.0.1)) (length octets) b.0 (
            x,
            rest,
          ) b.2 in
          let s = inside.stands octets b.0.0 b.0.1 are b.1 in
          let size : length (octets_of b.0.0) ≤ most =
          omega (
            arith,
            ltb-false most (length octets - length b.0.1) f.0,
            ap length s.0,
            length-append (octets_of b.0.0) b.0.1,
          ) in (
            s.0 ∙ ap (λ (p : A × List ℕ). octets_of p.0 ++ p.1) f.1,
            subst (λ (p : A × List ℕ). is p.0 × (length (octets_of p.0) ≤ most)) f.1 (s.1, size),
          );
      left = λ octets x rest e.
          let b = bind_ok (read octets) (through octets) (x, rest) e in
          let f = fits (nat_lt most (length octets - length b.0.1)) (length octets) b.0 (
            x,
            rest,
          ) b.2 in
          omega (
            arith,
            inside.left octets b.0.0 b.0.1 b.1,
            ap (λ (p : A × List ℕ). length p.1) f.1,
          );
      fault = λ octets left e.
          elim (bind_err (read octets) (through octets) left e) [
            | inl f ↦ inside.fault octets left f
            | inr b ↦
                omega (
                  arith,
                  too_long (nat_lt most (length octets - length b.0.1)) (length octets) left b.0
                      b.2,
                )
          ];
    }

  -- what is read as a whole
  pub whole_again : (x : A) → is x → whole read (octets_of x) ≡ Ok x
  whole_again x h =
      let e : read (octets_of x) ≡ Ok (x, []) = ap read (sym (append-nil (octets_of x)))
      ∙ inside.again x [] h in
      ap (λ r. by_place (length (octets_of x)) (r >>= alone)) e

  none_there : (octets : List ℕ) (left : ℕ) → left ≤ length octets
      → whole read octets ≡ Err (length octets - left)
      → TellsWhole is octets_of octets (Err (length octets - left))
  none_there octets left le e = (
    omega arith,
    λ x h same. let k : Ok x ≡ failed (length octets - left) =
        sym (ap (whole read) same ∙ whole_again x h) ∙ e in cc,
  )

  behind_nothing : (octets : List ℕ) (x : A × List ℕ) (b : Bool) → AreOctets octets
      → read octets ≡ Ok x → eqb (length x.1) 0 ≡ b
      → (whole read octets ≡ by_place (length octets) (cond b (Ok x.0) (failed (length x.1))))
      → TellsWhole is octets_of octets
      (by_place (length octets) (cond b (Ok x.0) (failed (length x.1))))
  behind_nothing octets x true are r z e =
      let s = inside.stands octets x.0 x.1 are r in (
        s.0 ∙ ap (λ t. octets_of x.0 ++ t) (nil_from_length x.1 (eqb-true (length x.1) 0 z))
            ∙ append-nil (octets_of x.0),
        s.1,
      )
  behind_nothing octets x false are r z e =
      none_there octets (length x.1) (inside.left octets x.0 x.1 r) e

  told_by : (octets : List ℕ) → AreOctets octets → (r : Result (A × List ℕ) ℕ) → read octets ≡ r
      → TellsWhole is octets_of octets (by_place (length octets) (r >>= alone))
  told_by octets are (Ok x) e =
      behind_nothing octets x (eqb (length x.1) 0) are e refl
      (ap (λ r. by_place (length octets) (r >>= alone)) e)
  told_by octets are (Err left) e =
      none_there octets left (inside.fault octets left e)
      (ap (λ r. by_place (length octets) (r >>= alone)) e)

  pub tells_whole : (octets : List ℕ) → AreOctets octets
      → TellsWhole is octets_of octets (whole read octets)
  tells_whole octets are = told_by octets are (read octets) refl
