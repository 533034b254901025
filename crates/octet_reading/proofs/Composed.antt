-- The rules of readers that are built from readers.
use Rattle.std.proofs.Common.{◌≡◌, ℕ, zero, suc, inl, inr, Bool, true, false, List, [], ◌∷◌, ◌++◌, length, arith, ap, ◌∙◌, sym}
use Rattle.std.proofs.Common.{refl, subst, Result, Ok, Err, cond}
use Rattle.std.specs.List.{AllByRecursion, flat_map}
use Rattle.octet_reading.specs.Readers.{Reader, mapped, in_turn, in_turn_by, so_many, tested}
use Rattle.octet_reading.specs.Reading.{◌>>=◌}
use Rattle.octet_reading.specs.Rules.{IsReadAs}
use Rattle.octet_reading.proofs.Digits.{bind_ok, ok_is}
use Rattle.octet_reading.proofs.Rules.{bind_err, failed, err_is, alike, read_so, nothing_read, then_read, seen_read}

-- one field behind another
module _ {A B : Type 0} {is : A → Type 0} {octets_of : A → List ℕ} {read : Reader A}
    {later_is : A → B → Type 0} {later : A → B → List ℕ} {next : A → Reader B}
    (first : IsReadAs is octets_of read) (each : (x : A)
    → IsReadAs (later_is x) (later x) (next x)) where
  paired : (x : A)
      → IsReadAs (λ (p : A × B). later_is p.0 p.1
      × (p.0 ≡ x)) (λ p. later p.0 p.1) (mapped (λ y. (x, y)) (next x))
  paired x = seen_read (λ y. (x, y)) (each x) (λ y h. ((h, refl), refl))
      (λ p h. (p.1, subst (λ a. later_is a p.1) h.1 h.0, ap (λ a. (a, p.1)) (sym h.1)))

  pub in_turn_by_read : IsReadAs (λ (p : A × B). is p.0 × later_is p.0 p.1) (λ p. octets_of p.0
      ++ later p.0 p.1) (in_turn_by read next)
  in_turn_by_read = then_read (λ (p : A × B). p.0) first paired

pub in_turn_read : {A B : Type 0} {is : A → Type 0} {octets_of : A → List ℕ} {read : Reader A}
    {later_is : B → Type 0} {later : B → List ℕ} {next : Reader B}
    → IsReadAs is octets_of read → IsReadAs later_is later next
    → IsReadAs (λ (p : A × B). is p.0 × later_is p.1) (λ p. octets_of p.0
    ++ later p.1) (in_turn read next)
in_turn_read first second = in_turn_by_read first (λ x. second)

-- two readers in turn, seen through a function, step by step
module _ {A B C : Type 0} (view : A × B → C) (first : Reader A) (second : Reader B) where
  abbrev beside : A → B × List ℕ → Result ((A × B) × List ℕ) ℕ
  beside x y = Ok ((x, y.0), y.1)

  abbrev viewed : (A × B) × List ℕ → Result (C × List ℕ) ℕ
  viewed p = Ok (view p.0, p.1)

  abbrev at_once : A → B × List ℕ → Result (C × List ℕ) ℕ
  at_once x y = Ok (view (x, y.0), y.1)

  after : (x : A) (r : Result (B × List ℕ) ℕ) → (r >>= at_once x) ≡ ((r >>= beside x) >>= viewed)
  after x (Ok y) = refl
  after x (Err left) = refl

  in_steps : (r : Result (A × List ℕ) ℕ)
      → (r >>= λ x. second x.1 >>= at_once x.0)
      ≡ ((r >>= λ x. second x.1 >>= beside x.0) >>= viewed)
  in_steps (Ok x) = after x.0 (second x.1)
  in_steps (Err left) = refl

  pub seen_in_turn : (octets : List ℕ)
      → (first octets >>= λ x. second x.1 >>= at_once x.0) ≡ mapped view (in_turn first second) octets
  seen_in_turn octets = in_steps (first octets)

-- so many of one field
module _ {A : Type 0} {is : A → Type 0} {octets_of : A
    → List ℕ} {read : Reader A} (item : IsReadAs is octets_of read) where
  none_left : (xs : List A) → length xs ≡ 0 → xs ≡ []
  none_left [] e = refl
  none_left (x ∷ xs) e = absurd (omega (arith, e))

  first_of : (n : ℕ) (xs : List A) → AllByRecursion is xs × (length xs ≡ suc n)
      → (p : A × List A) × (is p.0 × (AllByRecursion is p.1 × (length p.1 ≡ n))) × (p.0 ∷ p.1 ≡ xs)
  first_of n [] h = absurd (omega (arith, h.1))
  first_of n (x ∷ xs) h = ((x, xs), (h.0.0, (h.0.1, omega (arith, h.1))), refl)

  pub so_many_read : (n : ℕ)
      → IsReadAs (λ xs. AllByRecursion is xs
      × (length xs ≡ n)) (λ xs. flat_map octets_of xs) (so_many read n)
  so_many_read zero = alike (nothing_read [])
      (λ xs e. (
        subst (λ ys. AllByRecursion is ys × (length ys ≡ 0)) (sym e) (tt, refl),
        ap (flat_map octets_of) (sym e),
      ))
      (λ xs h. none_left xs h.1)
  so_many_read (suc n) = read_so
      (seen_read (λ (p : A × List A). p.0 ∷ p.1) (in_turn_read item (so_many_read n))
      (λ p h. (((h.0, h.1.0), ap suc h.1.1), refl)) (first_of n))
      (seen_in_turn (λ p. p.0 ∷ p.1) read (so_many read n))

-- a test of the value
module _ {A : Type 0} {is : A → Type 0} {octets_of : A → List ℕ} {read : Reader A} (test : A → Bool)
    (inside : IsReadAs is octets_of read) where
  let_through : (b : Bool) (left : ℕ) (x y : A × List ℕ) → cond b (Ok x) (failed left) ≡ Ok y
      → (b ≡ true) × (x ≡ y)
  let_through true left x y e = (refl, ok_is x y e)
  let_through false left x y e = absurd cc

  told : (b : Bool) (size : ℕ) (x : A × List ℕ) (left : ℕ) → cond b (Ok x) (failed size) ≡ Err left
      → size ≡ left
  told true size x left e = absurd (let k : Ok x ≡ Err left = e in cc)
  told false size x left e = err_is size left e

  pub tested_read : IsReadAs (λ x. is x × (test x ≡ true)) octets_of (tested test read)
  tested_read = record {
    again = λ x rest h.
        ap (λ r. r >>= λ y. cond (test y.0) (Ok y) (failed (length (octets_of x ++ rest))))
        (inside.again x rest h.0)
        ∙ ap (λ b. cond b (Ok (x, rest)) (failed (length (octets_of x ++ rest)))) h.1;
    stands = λ octets x rest are e.
        let b = bind_ok (read octets) (λ y. cond (test y.0) (Ok y) (failed (length octets))) (
          x,
          rest,
        ) e in
        let t = let_through (test b.0.0) (length octets) b.0 (x, rest) b.2 in
        let s = inside.stands octets b.0.0 b.0.1 are b.1 in (
          s.0 ∙ ap (λ (p : A × List ℕ). octets_of p.0 ++ p.1) t.1,
          subst (λ (p : A × List ℕ). is p.0 × (test p.0 ≡ true)) t.1 (s.1, t.0),
        );
    left = λ octets x rest e.
        let b = bind_ok (read octets) (λ y. cond (test y.0) (Ok y) (failed (length octets))) (
          x,
          rest,
        ) e in
        let t = let_through (test b.0.0) (length octets) b.0 (x, rest) b.2 in
        omega (arith, inside.left octets b.0.0 b.0.1 b.1, ap (λ (p : A × List ℕ). length p.1) t.1);
    fault = λ octets left e.
        elim (bind_err (read octets) (λ y. cond (test y.0) (Ok y) (failed (length octets))) left
        e) [
          | inl f ↦ inside.fault octets left f
          | inr b ↦ omega (arith, told (test b.0.0) (length octets) b.0 left b.2)
        ];
  }
