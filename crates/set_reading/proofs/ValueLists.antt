-- Values behind the number of their octets.
use Rattle.std.proofs.Common.{◌≡◌, ℕ, Bool, true, false, List, [], ◌∷◌, ◌++◌, length, take, drop, arith, ap}
use Rattle.std.proofs.Common.{◌∙◌, sym, refl, subst, cond, append_assoc, length-append, Result, Ok, Err}
use Rattle.std.specs.Prelude.{nat_lt}
use Rattle.std.specs.List.{AllByRecursion}
use Rattle.std.proofs.lemmas.Bool.{false_from_ne_true, ltb-false, le-ltb}
use Rattle.std.proofs.lemmas.List.{take-append-drop, length-take-le}
use Rattle.std.proofs.Math.Seq.{take-append_seam, drop-append_seam}
use Rattle.octets.specs.Numbers.{two_octets}
use Rattle.set_fields.specs.Layouts.{is_layout}
use Rattle.set_fields.specs.Reading.{◌>>=◌, two_at}
use Rattle.set_fields.specs.Rules.{IsReadAs}
use Rattle.set_fields.proofs.Base.{read_as}
use Rattle.set_fields.proofs.Digits.{bind_ok, ok_is, joined, two_is, two_again}
use Rattle.set_fields.proofs.Found.{IsBytes, take_bytes, rest_bytes}
use Rattle.set_fields.proofs.Layouts.{layout_is, layout_again}
use Rattle.set_fields.proofs.Within.{Within, ok_within, err_within, then_within, cond_within, drop_within, two_within}
use Rattle.set_fields.specs.Datum.{Datum}
use Rattle.set_fields.specs.Gives.{ReadsWire}
use Rattle.set_fields.specs.WireFaultRecord.{WireFault}
use Rattle.set_fields.specs.WireFaultRecord.TheVariants as wire
use Rattle.set_fields.specs.Layout.{IsLayout}
use Rattle.set_fields.specs.RTypeRecord.{RType}
use Rattle.set_fields.specs.Values.{IsInLayout}
use Rattle.set_fields.specs.Octets.{value_octets}
use Rattle.set_reading.specs.Gives.{ReadsValue}
use Rattle.set_reading.specs.Reading.{value_at}

pub reads_value : (type : RType) (octets : List ℕ) (result : Result Datum WireFault)
    → IsBytes octets
    → ReadsWire type octets result → ReadsValue type octets result
reads_value type octets (Ok datum) bytes r = (layout_again type octets r.0, r.1)
reads_value type octets (Err wire.Bad) bytes r =
    false_from_ne_true (is_layout type octets) (λ e. r (layout_is type octets bytes e))
reads_value type octets (Err wire.OutOfMemory) bytes r = tt

-- a value of the type
pub record IsValue (type : RType) (value : Datum) : Type 0 where
  pub rtype : value.rtype ≡ type
  pub layout : IsLayout type value.wire

pub are_values : (type : RType) (values : List Datum)
    → AllByRecursion (λ value. value.rtype ≡ type) values → AllByRecursion IsInLayout values
    → AllByRecursion (IsValue type) values
are_values type [] are layouts = tt
are_values type (value ∷ values) are layouts = (
  record { rtype = are.0; layout = subst (λ t. IsLayout t value.wire) are.0 layouts.0 },
  are_values type values are.1 layouts.1,
)

pub of_type : (type : RType) (values : List Datum) → AllByRecursion (IsValue type) values
    → AllByRecursion (λ value. value.rtype ≡ type) values
of_type type [] are = tt
of_type type (value ∷ values) are = (are.0.rtype, of_type type values are.1)

pub in_layout : (type : RType) (values : List Datum) → AllByRecursion (IsValue type) values
    → AllByRecursion IsInLayout values
in_layout type [] are = tt
in_layout type (value ∷ values) are =
    (subst (λ t. IsLayout t value.wire) (sym are.0.rtype) are.0.layout, in_layout type values are.1)

-- a test that refuses, and one that lets through
guard_ok : {A : Type 0} (b : Bool) (left : ℕ) (read : Result A ℕ) (y : A)
    → cond b (Err left) read ≡ Ok y → (b ≡ false) × (read ≡ Ok y)
guard_ok true left read y e = absurd cc
guard_ok false left read y e = (refl, e)

kept : {A : Type 0} (b : Bool) (left : ℕ) (x y : A) → cond b (Ok x) (Err left) ≡ Ok y
    → (b ≡ true) × (x ≡ y)
kept true left x y e = (refl, ok_is x y e)
kept false left x y e = absurd cc

-- a value behind the number of its octets
module _ (type : RType) where
  abbrev made : ℕ × List ℕ → Datum × List ℕ
  made n = (record { rtype = type; wire = take n.0 n.1 }, drop n.0 n.1)

  abbrev laid : ℕ × List ℕ → Result (Datum × List ℕ) ℕ
  laid n = cond (is_layout type (take n.0 n.1)) (Ok (made n)) (Err (length n.1))

  abbrev counted : ℕ × List ℕ → Result (Datum × List ℕ) ℕ
  counted n = cond (nat_lt (length n.1) n.0) (Err 0) (laid n)

  value_again : (value : Datum) (rest : List ℕ) → IsValue type value
      → value_at type (value_octets value ++ rest) ≡ Ok (value, rest)
  unfolding value_at
  value_again value rest is =
      let later = value.wire ++ rest in
      let n = length value.wire in
      let there : nat_lt (length later) n ≡ false =
      le-ltb _ _ (omega (arith, length-append value.wire rest)) in
      let same : record { rtype = type; wire = value.wire } ≡ value =
      sym (ap (λ t. record { rtype = t; wire = value.wire }) is.rtype) in
      ap (value_at type) (append_assoc (two_octets n) value.wire rest)
      ∙ ap (λ r. r >>= counted) (two_again n later)
      ∙ rw (
        there,
        take-append_seam value.wire rest,
        layout_again type value.wire is.layout,
        drop-append_seam value.wire rest,
      )
      (ap (λ v. Ok (v, rest)) same)

  value_stands : (octets : List ℕ) (x : Datum × List ℕ) → IsBytes octets
      → value_at type octets ≡ Ok x
      → (octets ≡ value_octets x.0 ++ x.1) × IsValue type x.0
  unfolding value_at
  value_stands octets x bytes e =
      let a = bind_ok (two_at octets) counted x e in
      let n = a.0.0 in
      let rest = a.0.1 in
      let two = two_is octets a.0 bytes a.1 in
      let g = guard_ok (nat_lt (length rest) n) 0 (laid a.0) x a.2 in
      let k = kept (is_layout type (take n rest)) (length rest) (made a.0) x g.1 in
      let size : length (take n rest) ≡ n = length-take-le n rest (ltb-false (length rest) n g.0) in
      let layout =
      layout_is type (take n rest)
      (take_bytes n rest (rest_bytes octets (two_octets n) rest bytes two.0)) k.0 in
      let whole : octets ≡ (two_octets n ++ take n rest) ++ drop n rest =
      joined octets (two_octets n) rest (take n rest) (drop n rest) two.0
      (sym (take-append-drop n rest)) in
      let parts : octets ≡ value_octets (made a.0).0 ++ (made a.0).1 =
      whole ∙ ap (λ k. (two_octets k ++ take n rest) ++ drop n rest) (sym size) in
      subst (λ (y : Datum × List ℕ). (octets ≡ value_octets y.0 ++ y.1)
      × IsValue type y.0) k.1 (parts, record { rtype = refl; layout = layout })

  value_within : (octets : List ℕ) → Within (length octets) (value_at type octets)
  unfolding value_at
  value_within octets =
      then_within (two_within octets) (λ n le.
      cond_within _ _ _ (err_within (omega arith))
      (cond_within _ _ _ (ok_within (omega (arith, le, drop_within n.0 n.1))) (err_within le)))

  pub value_read : IsReadAs (IsValue type) value_octets (value_at type)
  value_read = read_as value_again value_stands value_within
