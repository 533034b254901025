-- What sums up all rows locates the address, in rows whose prefixes and values lie side by side.
use Rattle.std.proofs.Common.{◌≡◌, Bool, IsTrue, ◌↔◌, ℕ, ◌<◌, ◌≤◌, List, [], ◌∷◌, length, get_or, max, Option, Some, None, refl, sym, ap, ◌∙◌, subst, inl, inr, arith, zero, suc}
use Rattle.std.specs.Prelude.{Contains, slice_get}
use Rattle.std.specs.List.{zip}
use Rattle.std.proofs.lemmas.Bool.{cases_lt}
use Rattle.std.proofs.lemmas.List.{get_or_default}
use Rattle.std.proofs.lemmas.Slice.Zip.{length-zip, get_or-zip}
use Rattle.address_text.specs.declared.address.IpAddress.{IpAddress}
use Rattle.ip_table.specs.declared.tree.Fork.{Fork}
use Rattle.ip_table.specs.declared.tree.Walked.{Walked}
use Rattle.ip_table.specs.Bits.{SharesFirst}
use Rattle.ip_table.specs.Location.{IsLonger, HasLongerInside, IsScope, Locates, length_of}
use Rattle.ip_table.specs.Prefixes.{Prefix, IsPrefix, Covers}
use Rattle.ip_table.specs.Rows.{AreRows, HasRow}
use Rattle.ip_table.specs.Tables.{IsTable}
use Rattle.ip_table.specs.Trees.{prefix_at, HasLength, HasPrefix, SumsUp}
use Rattle.ip_table.proofs.FirstBits.{shares_fewer}

-- the element at a place
element : {V : Type 0} → (vs : List V) (k : ℕ) → k < length vs
    → (v : V) × ((d : V) → get_or vs k d ≡ v)
element [] k h = absurd (omega arith)
element (v ∷ vs) zero h = (v, λ d. refl)
element (v ∷ vs) (suc k) h = element vs k (omega arith)

module _ {V : Type 0} (ps : List Prefix) (vs : List V) (long : length vs ≡ length ps) where
  -- a row stands at a place
  pub place_of : (row : Prefix × V) → Contains (zip ps vs) row
      → (k : ℕ) × (k < length ps) × (prefix_at ps k ≡ row.0)
  place_of row c =
      let h : c.0 < length ps = omega (arith, c.1, length-zip ps vs) in (
        c.0,
        h,
        get_or_default ps c.0 _ row.0 h
            ∙ ap (λ (r : Prefix × V). r.0) (sym (get_or-zip ps vs c.0 row h (omega (arith, h)))
            ∙ c.2),
      )

  -- what stands at a place is a row
  pub row_at : (k : ℕ) → k < length ps → (v : V) → get_or vs k v ≡ v
      → Contains (zip ps vs) (prefix_at ps k, v)
  row_at k h v e = (
    k,
    omega (arith, length-zip ps vs),
    get_or-zip ps vs k (prefix_at ps k, v) h (omega arith)
        ∙ ap (λ p. (p, get_or vs k v)) (get_or_default ps k _ _ h)
        ∙ ap (λ w. (prefix_at ps k, w)) e,
  )

  module _ (a : IpAddress) (walked : Walked) (sums : SumsUp ps a walked) where
    -- the scope of a row that was found, or of none
    scoped : (found : Option (Prefix × V))
        → ((n : ℕ) → HasLength ps walked.found n → IsLonger found (record { address = a; length = n })
        → ⊥)
        → (n : ℕ) → n ≡ max walked.past (length_of found) → IsScope (zip ps vs) a found n
    scoped found shorter n is = record { from = omega arith; apart = apart; least = least }
      where
        alike : (f : Option (Prefix × V)) (p q : Prefix) → p.length ≡ q.length → IsLonger f p
            → IsLonger f q
        alike None p q e l = l
        alike (Some f) p q e l = omega arith

        apart : HasLongerInside (zip ps vs) found n a → ⊥
        apart inside =
            let at = place_of inside.0 inside.1 in
            let same = at.2 in
            let done = sums.each at.0 at.1 in
            let away : Covers (prefix_at ps at.0) a
            → ⊥ = λ c. shorter (prefix_at ps at.0).length (done.covers c)
            (alike found inside.0.0 _ (ap (λ (p : Prefix). p.length) (sym same)) inside.2) in
            done.apart away
            (shares_fewer walked.past n _ a (omega arith)
            (subst (λ (p : Prefix). SharesFirst n p.address a) (sym same) inside.3.1))

        longer : (f : Option (Prefix × V)) (p : Prefix) → length_of f < p.length → IsLonger f p
        longer None p l = tt
        longer (Some f) p l = l

        least : (m : ℕ) → length_of found ≤ m → (HasLongerInside (zip ps vs) found m a → ⊥) → n ≤ m
        least m low none = elim (cases_lt m n) [
          | inr over ↦ over
          | inl under ↦
              let one = sums.sound.below m (omega arith) in
              let r = one.0 in
              elim (cases_lt m (prefix_at ps r).length) [
                | inl deep ↦
                    let v = element vs r (omega (arith, one.1, long)) in
                    absurd (none (
                      (prefix_at ps r, v.0),
                      row_at r one.1 v.0 (v.1 v.0),
                      longer found (prefix_at ps r) (omega arith),
                      (omega arith, one.3),
                    ))
                | inr short ↦
                    absurd (one.2 (shares_fewer (prefix_at ps r).length m _ a short one.3))
              ]
        ]

    pub located_none : walked.found ≡ None → Locates (zip ps vs) a None walked.past
    located_none none = record {
      found = None;
      is_found = λ row c covers.
          let at = place_of row c in
          subst (λ f. HasLength ps f (prefix_at ps at.0).length) none
          ((sums.each at.0 at.1).covers (subst (λ (p : Prefix). Covers p a) (sym at.2) covers));
      has_value = refl;
      is_scope =
          scoped None (λ n has longer. subst (λ f. HasLength ps f n) none has) walked.past
          (omega arith);
    }

    pub located_some : (f : ℕ) (v : V) (scope : ℕ) → walked.found ≡ Some f → get_or vs f v ≡ v
        → scope ≡ max walked.past (prefix_at ps f).length
        → Locates (zip ps vs) a (Some v) scope
    located_some f v scope some value is = record {
      found = Some (prefix_at ps f, v);
      is_found =
          let found = sums.sound.found f some in (
            row_at f found.0 v value,
            found.1,
            λ row c covers.
                let at = place_of row c in
                let has = subst (λ o. HasLength ps o (prefix_at ps at.0).length) some
                ((sums.each at.0 at.1).covers
                (subst (λ (p : Prefix). Covers p a) (sym at.2) covers)) in
                omega (arith, has, ap (λ (p : Prefix). p.length) at.2),
          );
      has_value = refl;
      is_scope =
          scoped (Some (prefix_at ps f, v))
          (λ n has longer. omega (arith, subst (λ o. HasLength ps o n) some has, longer)) scope is;
    }

-- an element that is there, by its place
got : {V : Type 0} → (ps : List Prefix) (vs : List V) (i : ℕ) (p : Prefix × V)
    → slice_get (zip ps vs) i ≡ Some p
    → (i < length ps) × (prefix_at ps i ≡ p.0)
got {V} [] vs i p e = absurd (cc)
got {V} (q ∷ ps) [] i p e = absurd (cc)
got {V} (q ∷ ps) (v ∷ vs) zero p e = let same : (q, v) ≡ p = cc in
    (omega arith, ap (λ (r : Prefix × V). r.0) same)
got {V} (q ∷ ps) (v ∷ vs) (suc i) p e = let more = got ps vs i p e in
    (omega (arith, more.0), more.1)

pub are_rows : {V : Type 0} → (ps : List Prefix) (vs : List V) (n4 n6 : List Fork)
    → IsTable ps (length vs) n4 n6 → AreRows (zip ps vs)
are_rows ps vs n4 n6 t = record {
  prefixes = λ row c. let at = place_of ps vs t.values row c in
      subst (λ (p : Prefix). IsPrefix p.address p.length) at.2 (t.prefixes at.0 at.1);
  apart = λ i j p q e f same.
      let x = got ps vs i p e in
      let y = got ps vs j q f in
      t.apart i j x.0 y.0 (x.1 ∙ same ∙ sym y.1);
  few = omega (arith, length-zip ps vs, t.few);
}

module _ {V : Type 0} (ps : List Prefix) (vs : List V) (rows : List (Prefix × V)) (long : length vs
    ≡ length ps) (is : zip ps vs ≡ rows)
    (p : Prefix) where
  pub has_row : HasPrefix ps p → HasRow rows p
  has_row h =
      let v = element vs h.0 (omega (arith, h.1, long)) in (
        v.0,
        subst (λ q. Contains rows (q, v.0)) h.2
            (subst (λ rs. Contains rs (prefix_at ps h.0, v.0)) is
            (row_at ps vs long h.0 h.1 v.0 (v.1 v.0))),
      )

  pub has_prefix : HasRow rows p → HasPrefix ps p
  has_prefix h =
      let at = place_of ps vs long (p, h.0) (subst (λ rs. Contains rs (p, h.0)) (sym is) h.1) in
      at

  -- a test for the prefix is one for the row
  pub row_test : (prefixes : List Prefix) (b : Bool) → prefixes ≡ ps
      → (IsTrue b ↔ HasPrefix prefixes p) → (IsTrue b ↔ HasRow rows p)
  row_test prefixes b same test = (
    λ t. has_row (subst (λ qs. HasPrefix qs p) same (test.0 t)),
    λ h. test.1 (subst (λ qs. HasPrefix qs p) (sym same) (has_prefix h)),
  )
