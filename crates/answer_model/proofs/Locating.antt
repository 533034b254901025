-- The location that is told is the one of the longest row, and the scope the least one.
use Rattle.std.proofs.Common.{◌≡◌, ◌≤◌, ◌<◌, ◌+◌, ◌-◌, ◌⊎◌, ℕ, zero, suc, Bool, true, false, Some}
use Rattle.std.proofs.Common.{None, Option, List, [], ◌∷◌, refl, sym, subst, inl, inr, arith}
use Rattle.std.specs.Prelude.{Contains, cond, nat_lt, nat_le}
use Rattle.std.specs.Bool.{Decides}
use Rattle.std.proofs.lemmas.Bool.{leb-true, le-leb}
use Rattle.std.proofs.lemmas.Bool.Decides.{Decides-and, Decides-eqb, Decides-ltb, Decides-or}
use Rattle.address_text.specs.declared.address.IpAddress.{IpAddress}
use Rattle.address_text.specs.declared.address.IpAddress.TheVariants.{V4, V6}
use Rattle.cidr_blocks.specs.Places.{rows_of}
use Rattle.cidr_blocks.specs.LawsOfIpTable.{OneRowFound}
use Rattle.cidr_blocks.specs.Bits.{SharesFirst, first_bits, width_of}
use Rattle.cidr_blocks.specs.Location.{HasLongerInside, IsFound, IsLonger, IsScope, length_of}
use Rattle.cidr_blocks.specs.Prefixes.{Covers, LiesInside, Prefix}
use Rattle.cidr_blocks.specs.Rows.{AreRows}
use Rattle.answer_model.specs.Laws.{LocatesAsTold, ToldOnce, ToldOnceIn}
use Rattle.answer_model.specs.Location.{covers, first_apart, found_in, has_longer_inside, is_longer}
use Rattle.answer_model.specs.Location.{lies_inside, longer, scope_in, scope_from, shares_first}
use Rattle.answer_model.specs.Location.{told_in}

shares : (n : ℕ) (a b : IpAddress) → Decides (shares_first n a b) (SharesFirst n a b)
shares n a b =
    let both = Decides-and _ _ (Decides-eqb (width_of a) (width_of b))
    (Decides-eqb (first_bits n a) (first_bits n b)) in (
      λ h. let r = both.0 h in record { family = r.0; bits = r.1 },
      λ s. both.1 (s.family, s.bits),
    )

at_most : (m n : ℕ) → Decides (nat_le m n) (m ≤ n)
at_most m n = (leb-true m n, le-leb m n)

inside : (prefix : Prefix) (n : ℕ) (address : IpAddress)
    → Decides (lies_inside prefix n address) (LiesInside prefix n address)
inside prefix n address =
    Decides-and _ _ (at_most n prefix.length) (shares n prefix.address address)

-- no prefix has more than 128 bits
width : (address : IpAddress) → width_of address ≤ 128
width (V4 octets) = omega arith
width (V6 octets) = omega arith

module _ {V : Type 0} where
  here : (row : Prefix × V) (rows : List (Prefix × V)) → Contains (row ∷ rows) row
  here row rows = (0, omega arith, refl)

  behind : (row other : Prefix × V) (rows : List (Prefix × V)) → Contains rows other
      → Contains (row ∷ rows) other
  behind row other rows (k, within, e) = (suc k, omega arith, e)

  split : (row other : Prefix × V) (rows : List (Prefix × V)) → Contains (row ∷ rows) other
      → (row ≡ other) ⊎ Contains rows other
  split row other rows (zero, within, e) = inl e
  split row other rows (suc k, within, e) = inr (k, omega arith, e)

  -- ---- the longest row

  skipped : (row : Prefix × V) (rows : List (Prefix × V)) (address : IpAddress)
      (found : Option (Prefix × V))
      → ¬ Covers row.0 address → IsFound rows address found → IsFound (row ∷ rows) address found
  skipped row rows address None apart rest = λ other there covered. elim
      (split row other rows there) [
        | inl e ↦ apart (subst (λ (r : Prefix × V). Covers r.0 address) (sym e) covered)
        | inr further ↦ rest other further covered
      ]
  skipped row rows address (Some found) apart rest = (
    behind row found rows rest.0,
    rest.1,
    λ other there covered. elim (split row other rows there) [
      | inl e ↦ absurd (apart (subst (λ (r : Prefix × V). Covers r.0 address) (sym e) covered))
      | inr further ↦ rest.2 other further covered
    ],
  )

  first_taken : (row : Prefix × V) (rows : List (Prefix × V)) (address : IpAddress)
      → Covers row.0 address
      → ((other : Prefix × V) → Contains rows other → Covers other.0 address
      → other.0.length ≤ row.0.length)
      → IsFound (row ∷ rows) address (Some row)
  first_taken row rows address covered others = (
    here row rows,
    covered,
    λ other there other_covered. elim (split row other rows there) [
      | inl e ↦ subst (λ (r : Prefix × V). r.0.length ≤ row.0.length) e (omega arith)
      | inr further ↦ others other further other_covered
    ],
  )

  taken : (row : Prefix × V) (rows : List (Prefix × V)) (address : IpAddress)
      (found : Option (Prefix × V))
      → Covers row.0 address → IsFound rows address found
      → IsFound (row ∷ rows) address (Some (longer row found))
  taken row rows address None covered rest = first_taken row rows address covered
      (λ other there other_covered. absurd (rest other there other_covered))
  taken row rows address (Some found) covered rest =
      by (nat_lt row.0.length found.0.length) (Decides-ltb row.0.length found.0.length)
    where
      by : (b : Bool) → Decides b (row.0.length < found.0.length)
          → IsFound (row ∷ rows) address (Some (cond b found row))
      by true decides = (
        behind row found rows rest.0,
        rest.1,
        λ other there other_covered. elim (split row other rows there) [
          | inl e ↦ subst (λ (r : Prefix × V). r.0.length ≤ found.0.length) e
              (let less = decides.0 refl in omega (arith, less))
          | inr further ↦ rest.2 other further other_covered
        ],
      )
      by false decides = first_taken row rows address covered
          (λ other there other_covered.
          let most = rest.2 other there other_covered in
          let not_less : ¬ (row.0.length < found.0.length) =
          λ less. absurd (grind (arith, decides.1 less)) in
          omega (arith, most, not_less))

  found : (rows : List (Prefix × V)) (address : IpAddress)
      → IsFound rows address (found_in rows address)
  found [] address = λ row there covered. absurd (omega (arith, there.1))
  found (row ∷ rows) address =
      by (found rows address) (covers row.0 address) (shares row.0.length row.0.address address)
    where
      by : IsFound rows address (found_in rows address) → (b : Bool)
          → Decides b (Covers row.0 address)
          → IsFound (row ∷ rows) address
          (cond b (Some (longer row (found_in rows address))) (found_in rows address))
      by rest true decides = taken row rows address (found_in rows address) (decides.0 refl) rest
      by rest false decides = skipped row rows address (found_in rows address)
          (λ covered. absurd (grind (arith, decides.1 covered))) rest

  -- ---- the scope

  longer_than : (f : Option (Prefix × V)) (prefix : Prefix)
      → Decides (is_longer f prefix) (IsLonger f prefix)
  longer_than None prefix = (λ h. tt, λ h. refl)
  longer_than (Some x) prefix = Decides-ltb x.0.length prefix.length

  one_inside : (rows : List (Prefix × V)) (f : Option (Prefix × V)) (n : ℕ) (address : IpAddress)
      → Decides (has_longer_inside rows f n address) (HasLongerInside rows f n address)
  one_inside [] f n address = (λ h. absurd (grind (arith, h)), λ h. absurd (omega (arith, h.1.1)))
  one_inside (row ∷ rows) f n address =
      let either : Decides (has_longer_inside (row ∷ rows) f n address)
      ((IsLonger f row.0 × LiesInside row.0 n address) ⊎ HasLongerInside rows f n address) =
      Decides-or _ _
      (Decides-and _ _ (longer_than f row.0) (inside row.0 n address))
      (one_inside rows f n address) in (
        λ h. elim (either.0 h) [
          | inl this ↦ (row, here row rows, this.0, this.1)
          | inr rest ↦ (rest.0, behind row rest.0 rows rest.1, rest.2, rest.3)
        ],
        λ h. either.1 (this_or_rest h.0 h.1 (h.2, h.3)),
      )
    where
      this_or_rest : (other : Prefix × V) → Contains (row ∷ rows) other
          → IsLonger f other.0 × LiesInside other.0 n address
          → (IsLonger f row.0 × LiesInside row.0 n address) ⊎ HasLongerInside rows f n address
      this_or_rest other there it = elim (split row other rows there) [
        | inl e ↦ inl
            (subst (λ (r : Prefix × V). IsLonger f r.0 × LiesInside r.0 n address) (sym e) it)
        | inr further ↦ inr (other, further, it.0, it.1)
      ]

  -- the first length from n on with no longer row inside, where there is none inside the last one
  record IsFirstApart (rows : List (Prefix × V)) (f : Option (Prefix × V)) (n : ℕ)
      (address : IpAddress)
      (scope : ℕ) : Type 0 where
    from : n ≤ scope
    apart : ¬ HasLongerInside rows f scope address
    least : (m : ℕ) → n ≤ m → ¬ HasLongerInside rows f m address → scope ≤ m

  next_apart : (rows : List (Prefix × V)) (f : Option (Prefix × V)) (n : ℕ) (address : IpAddress)
      (scope : ℕ)
      → HasLongerInside rows f n address → IsFirstApart rows f (n + 1) address scope
      → IsFirstApart rows f n address scope
  next_apart rows f n address scope has rest = record {
    from = let later = rest.from in omega (arith, later);
    apart = rest.apart;
    least = λ m low none. elim (at_or_above m low) [
      | inl e ↦ absurd (none (subst (λ (k : ℕ). HasLongerInside rows f k address) e has))
      | inr above ↦ rest.least m above none
    ];
  }
    where
      at_or_above : (m : ℕ) → n ≤ m → (n ≡ m) ⊎ (n + 1 ≤ m)
      at_or_above m low = grind (arith, low)

  first : (more : ℕ) (rows : List (Prefix × V)) (f : Option (Prefix × V)) (n : ℕ)
      (address : IpAddress)
      → ¬ HasLongerInside rows f (n + more) address
      → IsFirstApart rows f n address (first_apart more rows f n address)
  first zero rows f n address last = record {
    from = omega arith;
    apart = λ h. last (subst (λ (k : ℕ). HasLongerInside rows f k address) (omega arith) h);
    least = λ m low none. low;
  }
  first (suc more) rows f n address last =
      by
      (first more rows f (n + 1) address
      (λ h. last (subst (λ (k : ℕ). HasLongerInside rows f k address) (omega arith) h)))
      (has_longer_inside rows f n address) (one_inside rows f n address)
    where
      by : IsFirstApart rows f (n + 1) address (first_apart more rows f (n + 1) address)
          → (b : Bool) → Decides b (HasLongerInside rows f n address)
          → IsFirstApart rows f n address (cond b (first_apart more rows f (n + 1) address) n)
      by rest true decides = next_apart rows f n address (first_apart more rows f (n + 1) address)
          (decides.0 refl) rest
      by rest false decides = record {
        from = omega arith;
        apart = λ h. absurd (grind (arith, decides.1 h));
        least = λ m low none. low;
      }

  none_so_long : (rows : List (Prefix × V)) (f : Option (Prefix × V)) (address : IpAddress) (n : ℕ)
      → AreRows rows → 128 < n → ¬ HasLongerInside rows f n address
  none_so_long rows f address n are long h =
      let prefix = are.prefixes h.0 h.1 in
      let wide = width h.0.0.address in
      let fits = prefix.within in
      let deep = h.3.0 in
      absurd (omega (arith, long, wide, fits, deep))

  scope : (rows : List (Prefix × V)) (address : IpAddress) → AreRows rows
      → IsScope rows address (found_in rows address)
      (scope_from rows (found_in rows address) address)
  scope rows address are =
      let f = found_in rows address in
      let s = first (129 - length_of f) rows f (length_of f) address
      (none_so_long rows f address (length_of f + (129 - length_of f)) are (omega arith)) in
      record { from = s.from; apart = s.apart; least = s.least }

  scope_is : (rows : List (Prefix × V)) (address : IpAddress)
      → scope_from rows (found_in rows address) address ≡ scope_in rows address
  unfolding scope_in
  scope_is rows address = refl

  pub locates_as_told : LocatesAsTold V
  locates_as_told rows address are = record {
    found = found_in rows address;
    is_found = found rows address;
    has_value = refl;
    is_scope = subst (IsScope rows address (found_in rows address)) (scope_is rows address)
        (scope rows address are);
  }

  pub told_once : OneRowFound V → ToldOnce V
  told_once one rows address value reach are located =
      one rows address value (told_in rows address) reach (scope_in rows address) are located
      (locates_as_told rows address are)

pub told_once_in : ToldOnce (List ℕ) → ToldOnceIn
told_once_in once None address name reach are located = located
told_once_in once (Some collection) address name reach are located =
    once (rows_of collection.locations) address name reach are located
