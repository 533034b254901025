-- Lists, optional parts, and numbers that stand for values.
use Rattle.std.proofs.Common.{◌≡◌, ℕ, inl, inr, Bool, true, false, List, [], ◌∷◌, ◌++◌, length, arith, ap, ◌∙◌, sym, refl, subst}
use Rattle.std.proofs.Common.{eqb, Option, None, Some, Ok, Err, cond}
use Rattle.std.proofs.lemmas.Bool.{eqb-true}
use Rattle.octet_reading.specs.Readers.{Reader, list_at, where_one, optional_at, meant, meaning, numbered}
use Rattle.octet_reading.specs.Reading.{◌>>=◌}
use Rattle.octet_reading.specs.Rules.{IsReadAs, list_octets, AreListable, optional_octets, WhereSome, flag_octet}
use Rattle.octet_reading.proofs.Base.{two_read, flag_read}
use Rattle.octet_reading.proofs.Composed.{so_many_read}
use Rattle.octet_reading.proofs.Digits.{bind_ok, ok_is}
use Rattle.octet_reading.proofs.Rules.{bind_err, err_is, alike, nothing_read, then_read, seen_read}

-- a list
pub list_read : {A : Type 0} {is : A → Type 0} {octets_of : A → List ℕ} {read : Reader A}
    → IsReadAs is octets_of read → IsReadAs (AreListable is) (list_octets octets_of) (list_at read)
list_read {A = A} item = alike (then_read (λ (xs : List A). length xs) two_read (so_many_read item))
    (λ xs h. (record { count = h.0; each = h.1 }, refl)) (λ xs h. (h.count, h.each))

-- an optional part
module _ {A : Type 0} {is : A → Type 0} {octets_of : A
    → List ℕ} {read : Reader A} (item : IsReadAs is octets_of read) where
  abbrev is_there : Option A → Bool
  is_there None = false
  is_there (Some x) = true

  abbrev there : Option A → List ℕ
  there None = []
  there (Some x) = octets_of x

  none_there : (found : Option A) → WhereSome is found × (is_there found ≡ false) → found ≡ None
  none_there None h = refl
  none_there (Some x) h = absurd (let k : true ≡ false = h.1 in cc)

  some_there : (found : Option A) → WhereSome is found × (is_there found ≡ true)
      → (x : A) × is x × (Some x ≡ found)
  some_there None h = absurd (let k : false ≡ true = h.1 in cc)
  some_there (Some x) h = (x, h.0, refl)

  part_read : (flag : Bool)
      → IsReadAs (λ found. WhereSome is found × (is_there found ≡ flag)) there (where_one read flag)
  part_read false = alike (nothing_read None)
      (λ found e. (
        subst (λ o. WhereSome is o × (is_there o ≡ false)) (sym e) (tt, refl),
        ap there (sym e),
      ))
      none_there
  part_read true = seen_read (λ (x : A). Some x) item (λ x h. ((h, refl), refl)) some_there

  one_octet : (found : Option A)
      → flag_octet (is_there found) ∷ there found ≡ optional_octets octets_of found
  one_octet None = refl
  one_octet (Some x) = refl

  pub optional_read : IsReadAs (WhereSome is) (optional_octets octets_of) (optional_at read)
  optional_read = alike (then_read is_there flag_read part_read)
      (λ found h. (h.1, one_octet found)) (λ found h. (tt, h))

-- the number that found a value is its number
found_here : {A : Type 0} (b : Bool) (here x : A) (others : Option A) (P : A → Type 0)
    → (b ≡ true → P here) → (others ≡ Some x → P x)
    → cond b (Some here) others ≡ Some x → P x
found_here true here x others P h k e = let same : here ≡ x = cc in rw (← same) (h refl)
found_here false here x others P h k e = k e

pub numbered_is : {A : Type 0} (number : A → ℕ) (xs : List A) (n : ℕ) (x : A)
    → numbered number xs n ≡ Some x → number x ≡ n
numbered_is number [] n x e = absurd cc
numbered_is number (y ∷ xs) n x e =
    found_here (eqb (number y) n) y x (numbered number xs n) (λ z. number z
    ≡ n) (eqb-true (number y) n) (numbered_is number xs n x) e

-- a number that stands for a value
module _ {A : Type 0} (number : A → ℕ) (value : ℕ → Option A) {is : ℕ → Type 0} {octets_of : ℕ
    → List ℕ} {read : Reader ℕ}
    (inside : IsReadAs is octets_of read) (stands_for : (x : A)
    → value (number x) ≡ Some x) (only : (n : ℕ) (x : A) → value n ≡ Some x
    → number x ≡ n) where
  meant_ok : (octets : List ℕ) (found : Option A) (rest : List ℕ) (x : A × List ℕ)
      → meant octets found rest ≡ Ok x → (found ≡ Some x.0) × (rest ≡ x.1)
  meant_ok octets None rest x e = absurd cc
  meant_ok octets (Some v) rest x e =
      let same = ok_is (v, rest) x e in
      (ap (λ (p : A × List ℕ). Some p.0) same, ap (λ (p : A × List ℕ). p.1) same)

  meant_err : (octets : List ℕ) (found : Option A) (rest : List ℕ) (left : ℕ)
      → meant octets found rest ≡ Err left → length octets ≡ left
  meant_err octets None rest left e = err_is (length octets) left e
  meant_err octets (Some v) rest left e = absurd (let k : Ok (v, rest) ≡ Err left = e in cc)

  pub meaning_read : IsReadAs (λ x. is (number x)) (λ x. octets_of (number x)) (meaning value read)
  meaning_read = record {
    again = λ x rest h.
        ap (λ r. r >>= λ n. meant (octets_of (number x) ++ rest) (value n.0) n.1)
        (inside.again (number x) rest h)
        ∙ ap (λ found. meant (octets_of (number x) ++ rest) found rest) (stands_for x);
    stands = λ octets x rest are e.
        let b = bind_ok (read octets) (λ n. meant octets (value n.0) n.1) (x, rest) e in
        let m = meant_ok octets (value b.0.0) b.0.1 (x, rest) b.2 in
        let same = sym (only b.0.0 x m.0) in
        let s = inside.stands octets b.0.0 b.0.1 are b.1 in (
          s.0 ∙ ap (λ n. octets_of n ++ b.0.1) same
              ∙ ap (λ t. octets_of (number x) ++ t) m.1,
          subst is same s.1,
        );
    left = λ octets x rest e.
        let b = bind_ok (read octets) (λ n. meant octets (value n.0) n.1) (x, rest) e in
        omega (
          arith,
          inside.left octets b.0.0 b.0.1 b.1,
          ap length (meant_ok octets (value b.0.0) b.0.1 (x, rest) b.2).1,
        );
    fault = λ octets left e.
        elim (bind_err (read octets) (λ n. meant octets (value n.0) n.1) left e) [
          | inl f ↦ inside.fault octets left f
          | inr b ↦ omega (arith, meant_err octets (value b.0.0) b.0.1 left b.2)
        ];
  }
