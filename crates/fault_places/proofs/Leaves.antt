-- Where the fields of sets stop that are numbers and flags.
use Rattle.std.proofs.Common.{◌≡◌, ℕ, zero, suc, ◌+◌, ◌*◌, ◌<◌, ◌≤◌, ◌^◌, inl, inr, Bool, true, false, List, [], ◌∷◌, ◌++◌, length, arith, ap, sym, refl, cond, Option, None, Some, Ok, Err}
use Rattle.std.specs.Prelude.{⊤, nat_lt}
use Rattle.octets.specs.Numbers.{two_octets, four_octets}
use Rattle.octet_reading.specs.Readers.{Reader, meant, meaning, tested}
use Rattle.octet_reading.specs.Reading.{octet_at, two_at, four_at, flag_at}
use Rattle.octet_reading.specs.Rules.{IsReadAs, flag_octet}
use Rattle.octet_reading.proofs.Base.{read_as, flag_read}
use Rattle.octet_reading.proofs.Digits.{octet_is}
use Rattle.octet_reading.proofs.Rules.{err_is}
use Rattle.octet_reading.proofs.Within.{octet_within}
use Rattle.set_fields.proofs.Fields.{fields_are_read}
use Rattle.set_fields.specs.RTypeRecord.TheVariants as rtype
use Rattle.set_fields.specs.Types.{number_of}
use Rattle.set_fields.specs.ContinentRecord.TheVariants as continent
use Rattle.set_fields.specs.RoleRecord.TheVariants as role
use Rattle.set_fields.specs.Octets.{continent_number, role_number}
use Rattle.set_fields.specs.Numbers.{type_of_number, type_at, continent_of_number, continent_at, role_of_number, role_at, ttl_at}
use Rattle.fault_places.specs.Fields.{Stops}
use Rattle.fault_places.specs.Fields.Ending.{Sized}
use Rattle.fault_places.proofs.Steps.{Faults, Dead, dead_by, one_field, field_faults, sized_meets}

pub octet_read : IsReadAs (λ n. ⊤) (λ n. n ∷ []) octet_at
octet_read =
    read_as (λ n rest is. refl) (λ octets x bytes e. (octet_is octets x e, tt)) octet_within

-- why one of these fields stops
abbrev Stopping : {A : Type 0} → (A → Type 0) → (A → List ℕ) → List ℕ → ℕ → Type 0
Stopping {A = A} is octets_of octets left =
    (x : A) × is x × Stops Sized (octets_of x) octets left (Dead is octets_of octets)

missing : {A : Type 0} {is : A → Type 0} (octets_of : A → List ℕ) (octets : List ℕ) (left : ℕ)
    (x : A) → is x → length octets < length (octets_of x) → 0 ≡ left
    → Stopping is octets_of octets left
missing octets_of octets left x h few e = (x, h, inl (sym e, few))

faulty : {A : Type 0} {is : A → Type 0} (octets_of : A → List ℕ) (octets : List ℕ) (left : ℕ)
    (x : A) → is x → length (octets_of x) ≤ length octets → length octets ≡ left
    → Dead is octets_of octets → Stopping is octets_of octets left
faulty octets_of octets left x h there e dead = (x, h, inr (omega (arith, e), there, dead))

octet_stops : (octets : List ℕ) (left : ℕ) → octet_at octets ≡ Err left
    → Stopping (λ n. ⊤) (λ n. n ∷ []) octets left
octet_stops [] left e =
    missing (λ n. n ∷ []) [] left 0 tt (omega arith) (err_is {A = ℕ × List ℕ} 0 left e)
octet_stops (n ∷ rest) left e = absurd cc

pub octet_faults : Faults (λ n. ⊤) (one_field (λ n. n ∷ []) Sized) octet_at
octet_faults = field_faults (λ n. n ∷ []) Sized octet_at (sized_meets (λ n. n ∷ []) 1 (λ x h. omega arith)) (λ x h. omega arith) (λ octets left are e. octet_stops octets left e)

two_stops : (octets : List ℕ) (left : ℕ) → two_at octets ≡ Err left
    → Stopping (λ n. n < 2 ^ 16) two_octets octets left
two_stops [] left e =
    missing two_octets [] left 0 (omega arith) (omega arith) (err_is {A = ℕ × List ℕ} 0 left e)
two_stops (a ∷ []) left e =
    missing two_octets (a ∷ []) left 0 (omega arith) (omega arith) (err_is {A = ℕ × List ℕ} 0 left e)
two_stops (a ∷ b ∷ rest) left e = absurd cc

pub two_faults : Faults (λ n. n < 2 ^ 16) (one_field two_octets Sized) two_at
two_faults = field_faults two_octets Sized two_at (sized_meets two_octets 2 (λ x h. omega arith)) (λ x h. omega arith) (λ octets left are e. two_stops octets left e)

four_stops : (octets : List ℕ) (left : ℕ) → four_at octets ≡ Err left
    → Stopping (λ n. ⊤) four_octets octets left
four_stops [] left e =
    missing four_octets [] left 0 tt (omega arith) (err_is {A = ℕ × List ℕ} 0 left e)
four_stops (a ∷ []) left e =
    missing four_octets (a ∷ []) left 0 tt (omega arith) (err_is {A = ℕ × List ℕ} 0 left e)
four_stops (a ∷ b ∷ []) left e =
    missing four_octets (a ∷ b ∷ []) left 0 tt (omega arith) (err_is {A = ℕ × List ℕ} 0 left e)
four_stops (a ∷ b ∷ c ∷ []) left e =
    missing four_octets (a ∷ b ∷ c ∷ []) left 0 tt (omega arith) (err_is {A = ℕ × List ℕ} 0 left e)
four_stops (a ∷ b ∷ c ∷ d ∷ rest) left e = absurd cc

pub four_faults : Faults (λ n. ⊤) (one_field four_octets Sized) four_at
four_faults = field_faults four_octets Sized four_at (sized_meets four_octets 4 (λ x h. omega arith)) (λ x h. omega arith) (λ octets left are e. four_stops octets left e)

flag_stops : (octets : List ℕ) (left : ℕ) → flag_at octets ≡ Err left
    → Stopping (λ flag. ⊤) (λ flag. flag_octet flag ∷ []) octets left
flag_stops [] left e =
    missing (λ flag. flag_octet flag ∷ []) [] left false tt (omega arith) (err_is {A = Bool × List ℕ} 0 left e)
flag_stops (zero ∷ rest) left e = absurd cc
flag_stops (suc zero ∷ rest) left e = absurd cc
flag_stops (suc (suc n) ∷ rest) left e =
    faulty (λ flag. flag_octet flag ∷ []) (suc (suc n) ∷ rest) left false tt (omega arith)
    (omega (arith, err_is {A = Bool × List ℕ} (length rest + 1) left e))
    (dead_by flag_read (suc (suc n) ∷ rest) (λ more. (length (rest ++ more) + 1, refl)))

pub flag_faults : Faults (λ flag. ⊤) (one_field (λ flag. flag_octet flag ∷ []) Sized) flag_at
flag_faults = field_faults (λ flag. flag_octet flag ∷ []) Sized flag_at (sized_meets (λ flag. flag_octet flag ∷ []) 1 (λ x h. omega arith)) (λ x h. omega arith)
    (λ octets left are e. flag_stops octets left e)

-- a number that stands for a value
module _ {A : Type 0} (value : ℕ → Option A) (some : A) where
  module _ (octets_of : A → List ℕ) (size : ℕ) (long : (x : A) → length (octets_of x) ≡ size)
      (read : Reader A) (reads : IsReadAs (λ x. ⊤) octets_of read) where
    means_none : (octets : List ℕ) (rest : List ℕ) (left : ℕ) (found : Option A)
        → size ≤ length octets
        → (found ≡ None → (more : List ℕ) → (l : ℕ) × (read (octets ++ more) ≡ Err l))
        → meant octets found rest ≡ Err left → Stopping (λ x. ⊤) octets_of octets left
    means_none octets rest left None there stops e =
        faulty octets_of octets left some tt (omega (arith, long some, there))
        (err_is {A = A × List ℕ} (length octets) left e) (dead_by reads octets (stops refl))
    means_none octets rest left (Some x) there stops e =
        absurd (let k : Ok (x, rest) ≡ Err left = e in cc)

  module _ (number : A → ℕ)
      (reads : IsReadAs (λ x. ⊤) (λ x. number x ∷ []) (meaning value octet_at)) where
    one_stops : (octets : List ℕ) (left : ℕ) → meaning value octet_at octets ≡ Err left
        → Stopping (λ x. ⊤) (λ x. number x ∷ []) octets left
    one_stops [] left e =
        missing (λ x. number x ∷ []) [] left some tt (omega arith) (err_is {A = A × List ℕ} 0 left e)
    one_stops (n ∷ rest) left e =
        means_none (λ x. number x ∷ []) 1 (λ x. omega arith) (meaning value octet_at) reads
        (n ∷ rest) rest left (value n) (omega arith)
        (λ none more. (
          length (n ∷ (rest ++ more)),
          ap (λ f. meant (n ∷ (rest ++ more)) f (rest ++ more)) none,
        )) e

    pub one_meaning : Faults (λ x. ⊤) (one_field (λ x. number x ∷ []) Sized)
        (meaning value octet_at)
    one_meaning = field_faults (λ x. number x ∷ []) Sized (meaning value octet_at) (sized_meets (λ x. number x ∷ []) 1 (λ x h. omega arith)) (λ x h. omega arith)
        (λ octets left are e. one_stops octets left e)

  module _ (number : A → ℕ)
      (reads : IsReadAs (λ x. ⊤) (λ x. two_octets (number x)) (meaning value two_at)) where
    pair_stops : (octets : List ℕ) (left : ℕ) → meaning value two_at octets ≡ Err left
        → Stopping (λ x. ⊤) (λ x. two_octets (number x)) octets left
    pair_stops [] left e =
        missing (λ x. two_octets (number x)) [] left some tt (omega arith) (err_is {A = A × List ℕ} 0 left e)
    pair_stops (a ∷ []) left e =
        missing (λ x. two_octets (number x)) (a ∷ []) left some tt (omega arith) (err_is {A = A × List ℕ} 0 left e)
    pair_stops (a ∷ b ∷ rest) left e =
        means_none (λ x. two_octets (number x)) 2 (λ x. omega arith) (meaning value two_at) reads
        (a ∷ b ∷ rest) rest left (value (a * 256 + b)) (omega arith)
        (λ none more. (
          length (a ∷ b ∷ (rest ++ more)),
          ap (λ f. meant (a ∷ b ∷ (rest ++ more)) f (rest ++ more)) none,
        )) e

    pub two_meaning : Faults (λ x. ⊤) (one_field (λ x. two_octets (number x)) Sized)
        (meaning value two_at)
    two_meaning = field_faults (λ x. two_octets (number x)) Sized (meaning value two_at) (sized_meets (λ x. two_octets (number x)) 2 (λ x h. omega arith)) (λ x h. omega arith)
        (λ octets left are e. pair_stops octets left e)

pub type_faults : Faults (λ type. ⊤) (one_field (λ type. two_octets (number_of type)) Sized) type_at
unfolding type_at
type_faults = two_meaning type_of_number rtype.A number_of fields_are_read.types

pub continent_faults : Faults (λ where_to. ⊤)
    (one_field (λ where_to. continent_number where_to ∷ []) Sized) continent_at
unfolding continent_at
continent_faults = one_meaning continent_of_number continent.Af continent_number fields_are_read.continents

pub role_faults : Faults (λ part. ⊤) (one_field (λ part. role_number part ∷ []) Sized) role_at
unfolding role_at
role_faults = one_meaning role_of_number role.Primary role_number fields_are_read.roles

-- a number that is tested
refused : {A : Type 0} (b : Bool) (x : A × List ℕ) (size left : ℕ)
    → cond b (Ok x) (Err size) ≡ Err left → (b ≡ false) × (size ≡ left)
refused {A = A} true x size left e = absurd (let k : Ok x ≡ Err left = e in cc)
refused {A = A} false x size left e = (refl, err_is {A = A × List ℕ} size left e)

module _ (test : ℕ → Bool) {is : ℕ → Type 0} (some : ℕ) (is_some : is some)
    (reads : IsReadAs is (λ n. n ∷ []) (tested test octet_at)) where
  tested_octet_stops : (octets : List ℕ) (left : ℕ) → tested test octet_at octets ≡ Err left
      → Stopping is (λ n. n ∷ []) octets left
  tested_octet_stops [] left e =
      missing (λ n. n ∷ []) [] left some is_some (omega arith) (err_is {A = ℕ × List ℕ} 0 left e)
  tested_octet_stops (n ∷ rest) left e =
      let r = refused (test n) (n, rest) (length (n ∷ rest)) left e in
      faulty (λ n. n ∷ []) (n ∷ rest) left some is_some (omega arith) r.1
      (dead_by reads (n ∷ rest) (λ more. (
        length (n ∷ (rest ++ more)),
        ap (λ b. cond b (Ok (n, rest ++ more)) (Err (length (n ∷ (rest ++ more))))) r.0,
      )))

  pub tested_octet : Faults is (one_field (λ n. n ∷ []) Sized) (tested test octet_at)
  tested_octet = field_faults (λ n. n ∷ []) Sized (tested test octet_at) (sized_meets (λ n. n ∷ []) 1 (λ x h. omega arith)) (λ x h. omega arith)
      (λ octets left are e. tested_octet_stops octets left e)

ttl_stops : (octets : List ℕ) (left : ℕ) → ttl_at octets ≡ Err left
    → Stopping (λ ttl. ttl < 2 ^ 31) four_octets octets left
unfolding ttl_at
ttl_stops [] left e =
    missing four_octets [] left 0 (omega arith) (omega arith) (err_is {A = ℕ × List ℕ} 0 left e)
ttl_stops (a ∷ []) left e =
    missing four_octets (a ∷ []) left 0 (omega arith) (omega arith) (err_is {A = ℕ × List ℕ} 0 left e)
ttl_stops (a ∷ b ∷ []) left e =
    missing four_octets (a ∷ b ∷ []) left 0 (omega arith) (omega arith) (err_is {A = ℕ × List ℕ} 0 left e)
ttl_stops (a ∷ b ∷ c ∷ []) left e =
    missing four_octets (a ∷ b ∷ c ∷ []) left 0 (omega arith) (omega arith) (err_is {A = ℕ × List ℕ} 0 left e)
ttl_stops (a ∷ b ∷ c ∷ d ∷ rest) left e =
    let n = a * 16777216 + b * 65536 + c * 256 + d in
    let octets = a ∷ b ∷ c ∷ d ∷ rest in
    let r = refused (nat_lt n (2 ^ 31)) (n, rest) (length octets) left e in
    faulty four_octets octets left 0 (omega arith) (omega arith) r.1
    (dead_by fields_are_read.times octets (λ more. (
      length (octets ++ more),
      ap (λ t. cond t (Ok (n, rest ++ more)) (Err (length (octets ++ more)))) r.0,
    )))

pub ttl_faults : Faults (λ ttl. ttl < 2 ^ 31) (one_field four_octets Sized) ttl_at
ttl_faults = field_faults four_octets Sized ttl_at (sized_meets four_octets 4 (λ x h. omega arith)) (λ x h. omega arith) (λ octets left are e. ttl_stops octets left e)
