-- The laws of a location.
use Rattle.std.proofs.Common.{◌≡◌, ℕ, ◌<◌, List, [], ◌∷◌, length, get_or, Option, Some, None, refl, sym, ap, ◌∙◌, subst, inl, inr, arith, zero, suc}
use Rattle.std.specs.Prelude.{Contains, slice_get}
use Rattle.std.specs.Option.{option_map}
use Rattle.std.proofs.lemmas.Bool.{cases_lt}
use Rattle.address_text.specs.declared.address.IpAddress.{IpAddress}
use Rattle.ip_table.specs.Bits.{SharesFirst}
use Rattle.ip_table.specs.Laws.{ScopeReaches, NoShorterReaches, OneRowFound}
use Rattle.ip_table.specs.Location.{IsFound, IsLonger, HasLongerInside, IsScope}
use Rattle.ip_table.specs.Prefixes.{Prefix, Covers}
use Rattle.ip_table.specs.Rows.{AreRows}
use Rattle.ip_table.proofs.Octets.{one_prefix}
use Rattle.ip_table.proofs.FirstBits.{shares_fewer, shares_back, shares_on}

-- a row of the other address that is no longer than the one that was found, or stands inside its
-- scope, is one of the
-- first
no_longer : {V : Type 0}
    → (rows : List (Prefix × V)) (a b : IpAddress) (found : Option (Prefix × V)) (scope : ℕ)
    → IsScope rows a found scope
    → SharesFirst scope a b
    → (row : Prefix × V) → Contains rows row → Covers row.0 b → IsLonger found row.0
    → Covers row.0 a
no_longer rows a b found scope s same row c covers longer =
    elim (cases_lt row.0.length scope) [
      | inl less ↦ shares_on row.0.length row.0.address b a covers
          (shares_back row.0.length a b (shares_fewer row.0.length scope a b (omega arith) same))
      | inr deep ↦ absurd (s.apart (
        row,
        c,
        longer,
        (
          deep,
          shares_on scope row.0.address b a
              (shares_fewer scope row.0.length row.0.address b deep covers)
              (shares_back scope a b same),
        ),
      ))
    ]

pub reaches : {V : Type 0} → ScopeReaches V
reaches {V} rows a b None scope f s same =
    λ row c covers. f row c (no_longer rows a b None scope s same row c covers tt)
reaches {V} rows a b (Some x) scope f s same = (
  f.0,
  shares_on x.0.length x.0.address a b f.1 (shares_fewer x.0.length scope a b s.from same),
  λ row c covers. elim (cases_lt x.0.length row.0.length) [
    | inl longer ↦ f.2 row c (no_longer rows a b (Some x) scope s same row c covers longer)
    | inr short ↦ short
  ],
)

pub none_shorter : {V : Type 0} → NoShorterReaches V
none_shorter {V} rows a found scope n s low reach = s.least n low (inside found reach)
  where
    inside : (f : Option (Prefix × V)) → ((b : IpAddress) → SharesFirst n a b → IsFound rows b f)
        → HasLongerInside rows f n a → ⊥
    inside None all h =
        all h.0.0.address (shares_back n _ a h.3.1) h.0 h.1 record { family = refl; bits = refl }
    inside (Some x) all h =
        absurd (omega (
          arith,
          (all h.0.0.address (shares_back n _ a h.3.1)).2 h.0 h.1 record {
            family = refl;
            bits =
                refl;
          },
          h.2,
        ))

-- a row stands at a place
at_place : {V : Type 0} → (rows : List (Prefix × V)) (k : ℕ) (row : Prefix × V) → k < length rows
    → get_or rows k row ≡ row
    → slice_get rows k ≡ Some row
at_place {V} [] k row h e = absurd (omega arith)
at_place {V} (r ∷ rows) zero row h e = ap Some e
at_place {V} (r ∷ rows) (suc k) row h e = at_place rows k row (omega arith) e

one_row : {V : Type 0} → (rows : List (Prefix × V)) (a : IpAddress) → AreRows rows
    → (x y : Prefix × V) → IsFound rows a (Some x)
    → IsFound rows a (Some y) → x ≡ y
one_row rows a are x y f g =
    let level : x.0.length ≡ y.0.length = omega (arith, f.2 y g.0 g.1, g.2 x f.0 f.1) in
    let meet : SharesFirst x.0.length x.0.address y.0.address =
    shares_on x.0.length x.0.address a y.0.address f.1
    (shares_back x.0.length y.0.address a
    (shares_fewer x.0.length y.0.length y.0.address a (omega (arith, level)) g.1)) in
    let place : f.0.0 ≡ g.0.0 =
    are.apart f.0.0 g.0.0 x y (at_place rows f.0.0 x f.0.1 f.0.2)
    (at_place rows g.0.0 y g.0.1 g.0.2)
    (one_prefix x.0 y.0 (are.prefixes x f.0) (are.prefixes y g.0) level meet) in
    let same : Some x ≡ Some y = sym (at_place rows f.0.0 x f.0.1 f.0.2) ∙ ap (slice_get rows) place
    ∙ at_place rows g.0.0 y g.0.1 g.0.2 in
    cc

one_found : {V : Type 0} → (rows : List (Prefix × V)) (a : IpAddress) → AreRows rows
    → (x y : Option (Prefix × V)) → IsFound rows a x
    → IsFound rows a y → x ≡ y
one_found rows a are None None f g = refl
one_found rows a are None (Some y) f g = absurd (f y g.0 g.1)
one_found rows a are (Some x) None f g = absurd (g x f.0 f.1)
one_found rows a are (Some x) (Some y) f g = ap Some (one_row rows a are x y f g)

pub one : {V : Type 0} → OneRowFound V
one {V} rows a v w scope other are l m =
    let same : l.found ≡ m.found = one_found rows a are l.found m.found l.is_found m.is_found in
    let s : IsScope rows a m.found scope = subst (λ f. IsScope rows a f scope) same l.is_scope in (
      l.has_value ∙ ap (option_map (λ (row : Prefix × V). row.1)) same ∙ sym m.has_value,
      omega (
        arith,
        s.least other m.is_scope.from m.is_scope.apart,
        m.is_scope.least scope s.from s.apart,
      ),
    )
