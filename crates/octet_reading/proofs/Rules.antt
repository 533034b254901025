-- Readers that are built from readers read what is built of their values.
use Rattle.std.proofs.Common.{◌≡◌, ℕ, ◌≤◌, ◌⊎◌, inl, inr, List, [], ◌∷◌, ◌++◌, length, arith, ap, ◌∙◌, sym, refl, subst, append_assoc, Result, Ok, Err}
use Rattle.rdata_layout.specs.Names.{AreOctets}
use Rattle.octet_reading.specs.Readers.{Reader, mapped}
use Rattle.octet_reading.specs.Reading.{◌>>=◌}
use Rattle.octet_reading.specs.Rules.{IsReadAs, Tells, OneSpelling}
use Rattle.octet_reading.proofs.Digits.{bind_ok, ok_is, joined}

-- where a step failed
pub bind_err : {A B : Type 0} (read : Result A ℕ) (f : A → Result B ℕ) (left : ℕ)
    → (read >>= f) ≡ Err left
    → (read ≡ Err left) ⊎ ((x : A) × (read ≡ Ok x) × (f x ≡ Err left))
bind_err (Ok x) f left e = inr (x, refl, e)
bind_err (Err n) f left e = let same : n ≡ left = cc in inl (ap Err same)

abbrev pub failed : {A : Type 0} → ℕ → Result A ℕ
failed n = Err n

pub err_is : {A : Type 0} (n m : ℕ) → failed {A = A} n ≡ failed m → n ≡ m
err_is n m e = cc

-- what stands behind octets are octets
octets_behind : (piece rest : List ℕ) → AreOctets (piece ++ rest) → AreOctets rest
octets_behind [] rest are = are
octets_behind (b ∷ piece) rest are = octets_behind piece rest are.1

pub behind_octets : (octets piece rest : List ℕ) → AreOctets octets → octets ≡ piece ++ rest
    → AreOctets rest
behind_octets octets piece rest are e = octets_behind piece rest (subst AreOctets e are)

-- Reading tells the value that octets begin with, or that they begin with none.
tells_by : {A : Type 0} {is : A → Type 0} {octets_of : A → List ℕ} {read : Reader A}
    → IsReadAs is octets_of read → (octets : List ℕ) → AreOctets octets
    → (r : Result (A × List ℕ) ℕ) → read octets ≡ r
    → Tells is octets_of octets r
tells_by h octets are (Ok x) e = h.stands octets x.0 x.1 are e
tells_by {read = read} h octets are (Err left) e = (
  h.fault octets left e,
  λ x rest is same. let k : Ok (x, rest) ≡ Err left = sym (ap read same ∙ h.again x rest is)
      ∙ e in cc,
)

pub tells : {A : Type 0} {is : A → Type 0} {octets_of : A → List ℕ} {read : Reader A}
    → IsReadAs is octets_of read → (octets : List ℕ) → AreOctets octets
    → Tells is octets_of octets (read octets)
tells {read = read} h octets are = tells_by h octets are (read octets) refl

-- What is read has one spelling.
pub one_spelling : {A : Type 0} {is : A → Type 0} {octets_of : A → List ℕ} {read : Reader A}
    → IsReadAs is octets_of read → OneSpelling is octets_of
one_spelling {A = A} {read = read} h x y rest others is_x is_y e =
    let same =
    ok_is (x, rest) (y, others) (sym (h.again x rest is_x) ∙ ap read e
    ∙ h.again y others is_y) in
    (ap (λ (p : A × List ℕ). p.0) same, ap (λ (p : A × List ℕ). p.1) same)

-- The same values in other words.
pub alike : {A : Type 0} {is other_is : A → Type 0} {octets_of others_of : A
    → List ℕ} {read : Reader A}
    → IsReadAs is octets_of read → ((x : A) → is x → other_is x × (octets_of x ≡ others_of x))
    → ((x : A) → other_is x → is x)
    → IsReadAs other_is others_of read
alike {octets_of = octets_of} {others_of = others_of} {read = read} h into from = record {
  again = λ x rest is.
      let i = from x is in
      ap (λ t. read (t ++ rest)) (sym (into x i).1) ∙ h.again x rest i;
  stands = λ octets x rest are e.
      let s = h.stands octets x rest are e in
      let i = into x s.1 in
      (s.0 ∙ ap (λ t. t ++ rest) i.1, i.0);
  left = h.left;
  fault = h.fault;
}

-- The same reader in other words.
pub read_so : {A : Type 0} {is : A → Type 0} {octets_of : A → List ℕ} {read other : Reader A}
    → IsReadAs is octets_of read → ((octets : List ℕ) → other octets ≡ read octets)
    → IsReadAs is octets_of other
read_so {octets_of = octets_of} h so = record {
  again = λ x rest is. so (octets_of x ++ rest) ∙ h.again x rest is;
  stands = λ octets x rest are e. h.stands octets x rest are (sym (so octets) ∙ e);
  left = λ octets x rest e. h.left octets x rest (sym (so octets) ∙ e);
  fault = λ octets left e. h.fault octets left (sym (so octets) ∙ e);
}

-- Nothing is read.
pub nothing_read : {A : Type 0} (x : A) → IsReadAs (λ y. y ≡ x) (λ y. []) (λ octets. Ok (x, octets))
nothing_read {A = A} x = record {
  again = λ y rest e. ap (λ z. Ok (z, rest)) (sym e);
  stands = λ octets y rest are e.
      let same = ok_is (x, octets) (y, rest) e in
      (ap (λ (p : A × List ℕ). p.1) same, sym (ap (λ (p : A × List ℕ). p.0) same));
  left = λ octets y rest e. omega (
    arith,
    ap (λ (p : A × List ℕ). length p.1) (ok_is (x, octets) (y, rest) e),
  );
  fault = λ octets left e. absurd cc;
}

-- A field, and what is read behind it by its value.
module _ {A C : Type 0} {is : A → Type 0} {octets_of : A → List ℕ} {read : Reader A}
    {later_is : C → Type 0} {later : C → List ℕ} {next : A → Reader C} (part : C → A)
    (first : IsReadAs is octets_of read) (each : (x : A)
    → IsReadAs (λ c. later_is c × (part c ≡ x)) later (next x)) where
  abbrev both : Reader C
  both octets = read octets >>= λ x. next x.0 x.1

  then_stands : (octets : List ℕ) (c : C) (behind : List ℕ) → AreOctets octets
      → both octets ≡ Ok (c, behind)
      → (octets ≡ (octets_of (part c) ++ later c) ++ behind) × (is (part c) × later_is c)
  then_stands octets c behind are e =
      let b = bind_ok (read octets) (λ x. next x.0 x.1) (c, behind) e in
      let s = first.stands octets b.0.0 b.0.1 are b.1 in
      let t = (each b.0.0).stands b.0.1 c behind
      (behind_octets octets (octets_of b.0.0) b.0.1 are s.0) b.2 in
      let same = sym t.1.1 in (
        joined octets (octets_of b.0.0) b.0.1 (later c) behind s.0 t.0
            ∙ ap (λ x. (octets_of x ++ later c) ++ behind) same,
        (subst is same s.1, t.1.0),
      )

  then_fault : (octets : List ℕ) (left : ℕ) → both octets ≡ Err left → left ≤ length octets
  then_fault octets left e =
      elim (bind_err (read octets) (λ x. next x.0 x.1) left e) [
        | inl f ↦ first.fault octets left f
        | inr b ↦
            omega (arith, first.left octets b.0.0 b.0.1 b.1, (each b.0.0).fault b.0.1 left b.2)
      ]

  pub then_read : IsReadAs (λ c. is (part c) × later_is c) (λ c. octets_of (part c)
      ++ later c) (λ octets. read octets >>= λ x. next x.0 x.1)
  then_read = record {
    again = λ c behind h.
        ap both (append_assoc (octets_of (part c)) (later c) behind)
        ∙ ap (λ r. r >>= λ x. next x.0 x.1) (first.again (part c) (later c ++ behind) h.0)
        ∙ (each (part c)).again c behind (h.1, refl);
    stands = then_stands;
    left = λ octets c behind e.
        let b = bind_ok (read octets) (λ x. next x.0 x.1) (c, behind) e in
        omega (arith, first.left octets b.0.0 b.0.1 b.1, (each b.0.0).left b.0.1 c behind b.2);
    fault = then_fault;
  }

-- A reader that is seen through a function, one-to-one on what is read.
module _ {A C : Type 0} {is : A → Type 0} {octets_of : A → List ℕ} {read : Reader A}
    {view_is : C → Type 0} {views_of : C → List ℕ} (view : A
    → C) (inside : IsReadAs is octets_of read)
    (into : (x : A) → is x → view_is (view x) × (octets_of x ≡ views_of (view x)))
    (from : (c : C) → view_is c → (x : A) × is x × (view x ≡ c)) where
  pub seen_read : IsReadAs view_is views_of (mapped view read)
  seen_read = record {
    again = λ c rest h.
        let f = from c h in
        let spelled : views_of c ≡ octets_of f.0 = sym (ap views_of f.2) ∙ sym (into f.0 f.1).1 in
        ap (λ t. mapped view read (t ++ rest)) spelled
        ∙ ap (λ r. r >>= λ x. Ok (view x.0, x.1)) (inside.again f.0 rest f.1)
        ∙ ap (λ z. Ok (z, rest)) f.2;
    stands = λ octets c rest are e.
        let b = bind_ok (read octets) (λ x. Ok (view x.0, x.1)) (c, rest) e in
        let same = ok_is (view b.0.0, b.0.1) (c, rest) b.2 in
        let s = inside.stands octets b.0.0 b.0.1 are b.1 in
        let i = into b.0.0 s.1 in (
          s.0 ∙ ap (λ t. t ++ b.0.1) i.1 ∙ ap (λ (p : C × List ℕ). views_of p.0 ++ p.1) same,
          subst view_is (ap (λ (p : C × List ℕ). p.0) same) i.0,
        );
    left = λ octets c rest e.
        let b = bind_ok (read octets) (λ x. Ok (view x.0, x.1)) (c, rest) e in
        omega (
          arith,
          inside.left octets b.0.0 b.0.1 b.1,
          ap (λ (p : C × List ℕ). length p.1) (ok_is (view b.0.0, b.0.1) (c, rest) b.2),
        );
    fault = λ octets left e.
        elim (bind_err (read octets) (λ x. Ok (view x.0, x.1)) left e) [
          | inl f ↦ inside.fault octets left f
          | inr b ↦ absurd (let k : Ok (view b.0.0, b.0.1) ≡ Err left = b.2 in cc)
        ];
  }
