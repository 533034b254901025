-- A kind of one octet, and the fields of that kind.
use Rattle.std.proofs.Common.{◌≡◌, ℕ, ◌≤◌, inl, inr, Bool, true, false, List, [], ◌∷◌, ◌++◌, length, arith, ap, ◌∙◌, sym, refl}
use Rattle.std.proofs.Common.{subst, eqb, Result, Ok, Err, cond}
use Rattle.std.specs.Prelude.{◌||◌}
use Rattle.std.specs.List.{AllByRecursion}
use Rattle.std.proofs.lemmas.Bool.{eqb-true}
use Rattle.rdata_layout.specs.Names.{AreOctets}
use Rattle.octet_reading.specs.Readers.{Reader, of_kind, has_kind, kinds}
use Rattle.octet_reading.specs.Reading.{octet_at}
use Rattle.octet_reading.specs.Rules.{IsReadAs}
use Rattle.octet_reading.proofs.Digits.{bind_ok, octet_is}
use Rattle.octet_reading.proofs.Rules.{bind_err, err_is}

module _ {A : Type 0} (kind_of : A → ℕ) (is : A → Type 0) (later : A → List ℕ) where
  -- each line of the table reads the values of its kind
  abbrev pub LineReads : ℕ × Reader A → Type 0
  LineReads line = IsReadAs (λ x. is x × (kind_of x ≡ line.0)) later line.1

  abbrev pub LinesRead : List (ℕ × Reader A) → Type 0
  LinesRead lines = AllByRecursion LineReads lines

  picked : (b : Bool) (x y : Result (A × List ℕ) ℕ) (P : Result (A × List ℕ) ℕ → Type 0)
      → (b ≡ true → P x) → (b ≡ false → P y) → P (cond b x y)
  picked true x y P h k = h refl
  picked false x y P h k = k refl

  -- what is written is read again
  of_kind_again : (octets : List ℕ) (lines : List (ℕ × Reader A)) (x : A) (rest : List ℕ)
      → LinesRead lines
      → is x → has_kind lines (kind_of x) ≡ true
      → of_kind octets lines (kind_of x) (later x ++ rest) ≡ Ok (x, rest)
  of_kind_again octets [] x rest each h there = absurd cc
  of_kind_again octets (line ∷ lines) x rest each h there =
      picked (eqb (kind_of x) line.0) (line.1 (later x ++ rest))
      (of_kind octets lines (kind_of x) (later x ++ rest)) (λ r. r ≡ Ok (x, rest))
      (λ e. each.0.again x rest (h, eqb-true (kind_of x) line.0 e))
      (λ e. of_kind_again octets lines x rest each.1 h
      (sym (ap (λ b. b || has_kind lines (kind_of x)) e) ∙ there))

  -- what is read stands there
  of_kind_stands : (octets : List ℕ) (lines : List (ℕ × Reader A)) (kind : ℕ) (behind : List ℕ)
      (x : A) (rest : List ℕ)
      → LinesRead lines → AreOctets behind → of_kind octets lines kind behind ≡ Ok (x, rest)
      → (behind ≡ later x ++ rest) × is x × (kind_of x ≡ kind)
  of_kind_stands octets [] kind behind x rest each are e = absurd cc
  of_kind_stands octets (line ∷ lines) kind behind x rest each are e =
      picked (eqb kind line.0) (line.1 behind) (of_kind octets lines kind behind)
      (λ r. r ≡ Ok (x, rest) → (behind ≡ later x ++ rest) × is x × (kind_of x ≡ kind))
      (λ k f. let s = each.0.stands behind x rest are f in
      (s.0, s.1.0, s.1.1 ∙ sym (eqb-true kind line.0 k)))
      (λ k f. of_kind_stands octets lines kind behind x rest each.1 are f) e

  of_kind_left : (octets : List ℕ) (lines : List (ℕ × Reader A)) (kind : ℕ) (behind : List ℕ)
      (x : A) (rest : List ℕ)
      → LinesRead lines → of_kind octets lines kind behind ≡ Ok (x, rest)
      → length rest ≤ length behind
  of_kind_left octets [] kind behind x rest each e = absurd cc
  of_kind_left octets (line ∷ lines) kind behind x rest each e =
      picked (eqb kind line.0) (line.1 behind) (of_kind octets lines kind behind) (λ r. r
      ≡ Ok (x, rest) → length rest ≤ length behind)
      (λ k f. each.0.left behind x rest f)
      (λ k f. of_kind_left octets lines kind behind x rest each.1 f) e

  of_kind_fault : (octets : List ℕ) (lines : List (ℕ × Reader A)) (kind : ℕ) (behind : List ℕ)
      (left : ℕ)
      → LinesRead lines → length behind ≤ length octets
      → of_kind octets lines kind behind ≡ Err left → left ≤ length octets
  of_kind_fault octets [] kind behind left each fits e =
      omega (arith, err_is {A = A × List ℕ} (length octets) left e)
  of_kind_fault octets (line ∷ lines) kind behind left each fits e =
      picked (eqb kind line.0) (line.1 behind) (of_kind octets lines kind behind) (λ r. r ≡ Err left
      → left ≤ length octets)
      (λ k f. omega (arith, fits, each.0.fault behind left f))
      (λ k f. of_kind_fault octets lines kind behind left each.1 fits f) e

  kind_left : (octets : List ℕ) (n : ℕ × List ℕ) → octet_at octets ≡ Ok n
      → length n.1 ≤ length octets
  kind_left octets n e = omega (arith, ap length (octet_is octets n e))

  no_kind : (octets : List ℕ) (left : ℕ) → octet_at octets ≡ Err left → left ≤ length octets
  no_kind [] left e = omega (arith, err_is {A = ℕ × List ℕ} 0 left e)
  no_kind (n ∷ rest) left e = absurd cc

  pub kinds_read : (lines : List (ℕ × Reader A)) → LinesRead lines
      → ((x : A) → is x → has_kind lines (kind_of x) ≡ true)
      → IsReadAs is (λ x. kind_of x ∷ later x) (kinds lines)
  kinds_read lines each there = record {
    again = λ x rest h. of_kind_again (kind_of x ∷ (later x ++ rest)) lines x rest each h
        (there x h);
    stands = λ octets x rest are e.
        let b = bind_ok (octet_at octets) (λ n. of_kind octets lines n.0 n.1) (x, rest) e in
        let front = octet_is octets b.0 b.1 in
        let s = of_kind_stands octets lines b.0.0 b.0.1 x rest each (subst AreOctets front are).1
        b.2 in
        (front ∙ ap (λ t. b.0.0 ∷ t) s.0 ∙ ap (λ k. k ∷ (later x ++ rest)) (sym s.2), s.1);
    left = λ octets x rest e.
        let b = bind_ok (octet_at octets) (λ n. of_kind octets lines n.0 n.1) (x, rest) e in
        omega (
          arith,
          kind_left octets b.0 b.1,
          of_kind_left octets lines b.0.0 b.0.1 x rest each b.2,
        );
    fault = λ octets left e.
        elim (bind_err (octet_at octets) (λ n. of_kind octets lines n.0 n.1) left e) [
          | inl f ↦ no_kind octets left f
          | inr b ↦ of_kind_fault octets lines b.0.0 b.0.1 left each (kind_left octets b.0 b.1) b.2
        ];
  }
