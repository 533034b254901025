-- Where a value behind the number of its octets stops.
use Rattle.std.proofs.Common.{◌≡◌, ℕ, zero, suc, ◌+◌, ◌*◌, ◌≤◌, inl, inr, Bool, true, false, List, [], ◌∷◌, ◌++◌, length, take, drop, arith, ap, ◌∙◌, sym, refl, cond, length-append, Result, Ok, Err}
use Rattle.std.specs.Prelude.{nat_lt}
use Rattle.std.proofs.lemmas.Bool.{ltb-true, ltb-false, le-ltb}
use Rattle.octets.specs.Numbers.{two_octets}
use Rattle.rdata_layout.specs.Names.{AreOctets}
use Rattle.octet_reading.specs.Layouts.{is_layout}
use Rattle.octet_reading.proofs.Layouts.{layout_is}
use Rattle.octet_reading.proofs.Told.{are_bytes}
use Rattle.octet_reading.proofs.Rules.{err_is}
use Rattle.set_fields.specs.Datum.{Datum}
use Rattle.set_fields.specs.RTypeRecord.{RType}
use Rattle.set_fields.specs.RTypeRecord.TheVariants as rtype
use Rattle.set_fields.specs.Octets.{value_octets}
use Rattle.set_reading.specs.Reading.{value_at}
use Rattle.set_reading.proofs.ValueLists.{IsValue, value_read}
use Rattle.fault_places.specs.Fields.{Stops, IsCutOff}
use Rattle.fault_places.specs.Fields.Ending.{Counted}
use Rattle.fault_places.proofs.Steps.{Faults, Dead, dead_by, one_field, field_faults, Meets}

-- some value of each type: 0.0.0.0, the root, ::, an empty string, and so on
abbrev least : RType → List ℕ
least rtype.A = 0 ∷ 0 ∷ 0 ∷ 0 ∷ []
least rtype.Ns = 0 ∷ []
least rtype.Cname = 0 ∷ []
least rtype.Soa =
    0 ∷ 0 ∷ 0 ∷ 0 ∷ 0 ∷ 0 ∷ 0 ∷ 0 ∷ 0 ∷ 0 ∷ 0 ∷ 0 ∷ 0 ∷ 0 ∷ 0 ∷ 0 ∷ 0 ∷ 0 ∷ 0 ∷ 0 ∷ 0 ∷ 0 ∷ []
least rtype.Ptr = 0 ∷ []
least rtype.Mx = 0 ∷ 0 ∷ 0 ∷ []
least rtype.Txt = 0 ∷ []
least rtype.Aaaa = 0 ∷ 0 ∷ 0 ∷ 0 ∷ 0 ∷ 0 ∷ 0 ∷ 0 ∷ 0 ∷ 0 ∷ 0 ∷ 0 ∷ 0 ∷ 0 ∷ 0 ∷ 0 ∷ []
least rtype.Srv = 0 ∷ 0 ∷ 0 ∷ 0 ∷ 0 ∷ 0 ∷ 0 ∷ []
least rtype.Spf = 0 ∷ []
least rtype.Caa = 0 ∷ 1 ∷ 0x61 ∷ []

least_octets : (type : RType) → AreOctets (least type)
least_octets rtype.A = omega arith
least_octets rtype.Ns = omega arith
least_octets rtype.Cname = omega arith
least_octets rtype.Soa = omega arith
least_octets rtype.Ptr = omega arith
least_octets rtype.Mx = omega arith
least_octets rtype.Txt = omega arith
least_octets rtype.Aaaa = omega arith
least_octets rtype.Srv = omega arith
least_octets rtype.Spf = omega arith
least_octets rtype.Caa = omega arith

least_layout : (type : RType) → is_layout type (least type) ≡ true
unfolding is_layout
least_layout rtype.A = refl
least_layout rtype.Ns = refl
least_layout rtype.Cname = refl
least_layout rtype.Soa = refl
least_layout rtype.Ptr = refl
least_layout rtype.Mx = refl
least_layout rtype.Txt = refl
least_layout rtype.Aaaa = refl
least_layout rtype.Srv = refl
least_layout rtype.Spf = refl
least_layout rtype.Caa = refl

abbrev pub some_value : RType → Datum
some_value type = record { rtype = type; wire = least type }

pub some_is_value : (type : RType) → IsValue type (some_value type)
some_is_value type = record {
  rtype = refl;
  layout = layout_is type (least type) (are_bytes (least type) (least_octets type))
      (least_layout type);
}

-- octets in front of more
take_front : (n : ℕ) (rest more : List ℕ) → n ≤ length rest → take n (rest ++ more) ≡ take n rest
take_front zero rest more h = refl
take_front (suc n) [] more h = absurd (omega (arith, h))
take_front (suc n) (b ∷ rest) more h = ap (λ t. b ∷ t) (take_front n rest more (omega (arith, h)))

module _ (type : RType) where
  abbrev Stopping : List ℕ → ℕ → Type 0
  Stopping octets left =
      (x : Datum) × IsValue type x
      × Stops Counted (value_octets x) octets left (Dead (IsValue type) value_octets octets)

  cut_off : (octets : List ℕ) (left : ℕ) → IsCutOff octets → 0 ≡ left → Stopping octets left
  cut_off octets left cut e = (some_value type, some_is_value type, inl (sym e, cut))

  abbrev answer : (b c : Bool) (n : ℕ) (rest : List ℕ) → Result (Datum × List ℕ) ℕ
  answer b c n rest =
      cond b (Err 0)
      (cond c (Ok (record { rtype = type; wire = take n rest }, drop n rest)) (Err (length rest)))

  still : (a b : ℕ) (rest more : List ℕ) → a * 256 + b ≤ length rest
      → is_layout type (take (a * 256 + b) rest) ≡ false
      → value_at type (a ∷ b ∷ (rest ++ more)) ≡ Err (length (rest ++ more))
  unfolding value_at
  still a b rest more there none =
      let n = a * 256 + b in
      let first : nat_lt (length (rest ++ more)) n ≡ false =
      le-ltb _ _ (omega (arith, length-append rest more, there)) in
      let second : is_layout type (take n (rest ++ more)) ≡ false =
      ap (is_layout type) (take_front n rest more there) ∙ none in
      ap (λ t. answer t (is_layout type (take n (rest ++ more))) n (rest ++ more)) first
      ∙ ap (λ t. answer false t n (rest ++ more)) second

  by_tests : (a b : ℕ) (rest : List ℕ) (left : ℕ) (s t : Bool)
      → nat_lt (length rest) (a * 256 + b) ≡ s → is_layout type (take (a * 256 + b) rest) ≡ t
      → answer s t (a * 256 + b) rest ≡ Err left → Stopping (a ∷ b ∷ rest) left
  by_tests a b rest left true t p q e =
      cut_off (a ∷ b ∷ rest) left (ltb-true (length rest) (a * 256 + b) p)
      (err_is {A = Datum × List ℕ} 0 left e)
  by_tests a b rest left false true p q e =
      absurd (let k : Ok (record { rtype = type; wire = take (a * 256 + b) rest }, drop (a * 256 + b) rest) ≡ Err left = e in cc)
  by_tests a b rest left false false p q e =
      let there = ltb-false (length rest) (a * 256 + b) p in (
        some_value type,
        some_is_value type,
        inr (
          omega (arith, err_is {A = Datum × List ℕ} (length rest) left e),
          (λ cut. let k : ⊥ = omega (arith, cut, there) in k),
          dead_by (value_read type) (a ∷ b ∷ rest)
              (λ more. (length (rest ++ more), still a b rest more there q)),
        ),
      )

  value_stops : (octets : List ℕ) (left : ℕ) → value_at type octets ≡ Err left
      → Stopping octets left
  unfolding value_at
  value_stops [] left e = cut_off [] left tt (err_is {A = Datum × List ℕ} 0 left e)
  value_stops (a ∷ []) left e = cut_off (a ∷ []) left tt (err_is {A = Datum × List ℕ} 0 left e)
  value_stops (a ∷ b ∷ rest) left e =
      by_tests a b rest left (nat_lt (length rest) (a * 256 + b))
      (is_layout type (take (a * 256 + b) rest)) refl refl e

  whole_value : (wire rest : List ℕ)
      → IsCutOff ((two_octets (length wire) ++ wire) ++ rest) → ⊥
  whole_value wire rest cut =
      let n = length wire in
      let k : ⊥ = omega (arith, cut, length-append wire rest) in k

  value_meets : (x y : Datum) → IsValue type x → IsValue type y
      → Meets (record { ending = Counted; octets = value_octets x })
      (record { ending = Counted; octets = value_octets y })
  value_meets x y h k = record {
    ending = refl;
    size = λ e. absurd cc;
    there = λ rest cut. whole_value y.wire rest cut;
  }

  pub value_faults : Faults (IsValue type) (one_field value_octets Counted) (value_at type)
  value_faults = field_faults value_octets Counted (value_at type) value_meets
      (λ x h. omega (arith, length-append (two_octets (length x.wire)) x.wire))
      (λ octets left are e. value_stops octets left e)
