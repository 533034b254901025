-- Rows that have a prefix.
use Rattle.std.proofs.Common.{◌≡◌, ◌<◌, ◌||◌, ◌==◌, ℕ, zero, suc, Bool, true, false, not, List, [], ◌∷◌, length, arith, refl, sym, ap, ◌∙◌}
use Rattle.std.specs.Prelude.{nat_lt, slice_index_or}
use Rattle.std.proofs.lemmas.Bool.{eq-eqb, eqb-true, and_parts, lt-ltb, ltb-true, not-true}
use Rattle.std.proofs.lemmas.Slice.Eq.{bytes_eq-Decides}
use Rattle.prefix_text.specs.IpAddressRecord.{IpAddress}
use Rattle.prefix_text.specs.IpAddressRecord.TheVariants.{V4, V6}
use Rattle.geo_latency.specs.Tables.{has_prefix, is_address, is_free, is_prefix}
use Rattle.prefix_text.specs.PrefixesOfIpTable.{Prefix}
use Rattle.prefix_text.specs.Rows.{HasRow}

address_itself : (a : IpAddress) → is_address a a ≡ true
address_itself (V4 octets) = (bytes_eq-Decides octets octets).1 refl
address_itself (V6 octets) = (bytes_eq-Decides octets octets).1 refl

one_address : (a b : IpAddress) → is_address a b ≡ true → a ≡ b
one_address (V4 a) (V4 b) e = ap V4 ((bytes_eq-Decides a b).0 e)
one_address (V4 a) (V6 b) e = absurd (let no : ⊥ = cc in no)
one_address (V6 a) (V4 b) e = absurd (let no : ⊥ = cc in no)
one_address (V6 a) (V6 b) e = ap V6 ((bytes_eq-Decides a b).0 e)

prefix_itself : (p : Prefix) → is_prefix p p ≡ true
prefix_itself p = rw (address_itself p.address) (eq-eqb p.length p.length refl)

one_prefix : (p q : Prefix) → is_prefix p q ≡ true → p ≡ q
one_prefix p q e =
    let parts = and_parts (is_address p.address q.address) (p.length == q.length) e in
    let address : p.address ≡ q.address = one_address p.address q.address (parts.0) in
    let long : p.length ≡ q.length = eqb-true p.length q.length (parts.1) in
    let both : (p.address, p.length) ≡ (q.address, q.length) = cc in
    ap (λ (w : IpAddress × ℕ). let r : Prefix = record { address = w.0; length = w.1 } in r) both

or_true : (b : Bool) → b || true ≡ true
or_true true = refl
or_true false = refl

module _ {V : Type 0} (prefix : Prefix) where
  at_place : (rows : List (Prefix × V)) (k : ℕ) (value : V) → k < length rows
      → slice_index_or rows k (prefix, value) ≡ (prefix, value) → has_prefix rows prefix ≡ true
  at_place [] k value lt e = absurd (omega arith)
  at_place (row ∷ rows) zero value lt e =
      let first : row.0 ≡ prefix = ap (λ (r : Prefix × V). r.0) e in
      rw (first, prefix_itself prefix) refl
  at_place (row ∷ rows) (suc k) value lt e =
      rw (at_place rows k value (omega arith) e) (or_true (is_prefix row.0 prefix))

  -- some row has the prefix
  pub is_there : (rows : List (Prefix × V)) → HasRow rows prefix → has_prefix rows prefix ≡ true
  is_there rows has = let at = has.1 in at_place rows (at.0) (has.0) (at.1) (at.2)

  found : (rows : List (Prefix × V)) → has_prefix rows prefix ≡ true → HasRow rows prefix
  found [] e = absurd (let no : ⊥ = cc in no)
  found (row ∷ rows) e = go (is_prefix row.0 prefix) refl (found rows) where
    go : (v : Bool) → is_prefix row.0 prefix ≡ v
        → (has_prefix rows prefix ≡ true → HasRow rows prefix) → HasRow (row ∷ rows) prefix
    go true is later =
        let same : row.0 ≡ prefix = one_prefix row.0 prefix is in
        (row.1, (0, omega arith, ap (λ p. (p, row.1)) same))
    go false is later =
        let has = later (sym (ap (λ v. v || has_prefix rows prefix) is) ∙ e) in
        let at = has.1 in
        (has.0, (suc (at.0), omega (arith, at.1), at.2))

  -- the prefix is free
  pub free : (rows : List (Prefix × V)) → (HasRow rows prefix → ⊥) → length rows < 100000
      → is_free rows prefix ≡ true
  free rows never few = go (has_prefix rows prefix) refl where
    go : (v : Bool) → has_prefix rows prefix ≡ v → is_free rows prefix ≡ true
    go true is = absurd (never (found rows is))
    go false is = rw (is, lt-ltb (length rows) 100000 few) refl

  -- the prefix is taken
  pub taken : (rows : List (Prefix × V)) → HasRow rows prefix → is_free rows prefix ≡ false
  taken rows has = rw (is_there rows has) refl

  -- none has it, and the table isn't full
  pub free_means : (rows : List (Prefix × V)) → is_free rows prefix ≡ true
      → (HasRow rows prefix → ⊥) × (length rows < 100000)
  free_means rows e =
      let parts = and_parts (not (has_prefix rows prefix)) (nat_lt (length rows) 100000) e in
      let none : has_prefix rows prefix ≡ false = not-true (has_prefix rows prefix) (parts.0) in (
        λ has. absurd (let no : true ≡ false = sym (is_there rows has) ∙ none in
            let never : ⊥ = cc in never),
        ltb-true (length rows) 100000 (parts.1),
      )

  -- a row has it, or the table is full
  pub not_free : (rows : List (Prefix × V))
      → ((HasRow rows prefix → ⊥) × (length rows < 100000) → ⊥) → is_free rows prefix ≡ false
  not_free rows never = go (is_free rows prefix) refl where
    go : (v : Bool) → is_free rows prefix ≡ v → is_free rows prefix ≡ false
    go true e = absurd (never (free_means rows e))
    go false e = e
