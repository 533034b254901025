-- The fields that readers are built from are read as they are written.
use Rattle.std.proofs.Common.{◌≡◌, ℕ, zero, suc, ◌+◌, ◌*◌, ◌<◌, ◌≤◌, ◌^◌, Bool, true, false, List, [], ◌∷◌, ◌++◌, length, arith}
use Rattle.std.proofs.Common.{ap, refl, subst, Result, Ok, Err}
use Rattle.std.specs.Prelude.{⊤}
use Rattle.octets.specs.Numbers.{two_octets, four_octets}
use Rattle.rdata_layout.specs.Labels.{wire}
use Rattle.rdata_layout.specs.Names.{IsName}
use Rattle.octet_reading.specs.Names.{name_at}
use Rattle.octet_reading.specs.Readers.{Reader}
use Rattle.octet_reading.specs.Reading.{octet_at, two_at, four_at, flag_at}
use Rattle.octet_reading.specs.Rules.{IsReadAs, BaseFieldsAreRead, flag_octet}
use Rattle.octet_reading.proofs.Digits.{ok_is, octet_is, two_is, two_again, four_is, four_again}
use Rattle.octet_reading.proofs.Found.{IsBytes}
use Rattle.octet_reading.proofs.Naming.{name_stands, name_again}
use Rattle.octet_reading.proofs.Told.{are_bytes}
use Rattle.octet_reading.proofs.Within.{Within, octet_within, two_within, four_within, flag_within, name_within}

-- from what is read again, what stands, and what is left
left_of : {A : Type 0} (size : ℕ) (read : Result (A × List ℕ) ℕ) (x : A) (rest : List ℕ)
    → Within size read → read ≡ Ok (x, rest) → length rest ≤ size
left_of size read x rest within e = (subst (λ r. Within size r) e within).holds

fault_of : {A : Type 0} (size : ℕ) (read : Result (A × List ℕ) ℕ) (left : ℕ) → Within size read
    → read ≡ Err left → left ≤ size
fault_of size read left within e = (subst (λ r. Within size r) e within).holds

pub read_as : {A : Type 0} {is : A → Type 0} {octets_of : A → List ℕ} {read : Reader A}
    → ((x : A) (rest : List ℕ) → is x → read (octets_of x ++ rest) ≡ Ok (x, rest))
    → ((octets : List ℕ) (x : A × List ℕ) → IsBytes octets → read octets ≡ Ok x
    → (octets ≡ octets_of x.0 ++ x.1) × is x.0)
    → ((octets : List ℕ) → Within (length octets) (read octets)) → IsReadAs is octets_of read
read_as {read = read} again stands within = record {
  again = again;
  stands = λ octets x rest are e. stands octets (x, rest) (are_bytes octets are) e;
  left = λ octets x rest e. left_of (length octets) (read octets) x rest (within octets) e;
  fault = λ octets left e. fault_of (length octets) (read octets) left (within octets) e;
}

octet_below : (octets : List ℕ) (x : ℕ × List ℕ) → IsBytes octets → octet_at octets ≡ Ok x
    → (octets ≡ x.0 ∷ x.1) × (x.0 < 2 ^ 8)
octet_below [] x bytes e = absurd cc
octet_below (n ∷ rest) x bytes e =
    let same : n ≡ x.0 = ap (λ (p : ℕ × List ℕ). p.0) (ok_is (n, rest) x e) in
    (octet_is (n ∷ rest) x e, omega (arith, bytes 0, same))

four_below : (octets : List ℕ) (x : ℕ × List ℕ) → IsBytes octets → four_at octets ≡ Ok x
    → x.0 < 2 ^ 32
four_below [] x bytes e = absurd cc
four_below (a ∷ []) x bytes e = absurd cc
four_below (a ∷ b ∷ []) x bytes e = absurd cc
four_below (a ∷ b ∷ c ∷ []) x bytes e = absurd cc
four_below (a ∷ b ∷ c ∷ d ∷ rest) x bytes e =
    let first : a < 256 = bytes 0 in
    let second : b < 256 = bytes 1 in
    let third : c < 256 = bytes 2 in
    let fourth : d < 256 = bytes 3 in
    let same : a * 16777216 + b * 65536 + c * 256 + d ≡ x.0 =
    ap (λ (p : ℕ × List ℕ). p.0) (ok_is (a * 16777216 + b * 65536 + c * 256 + d, rest) x e) in
    omega (arith, first, second, third, fourth, same)

flag_again : (flag : Bool) (rest : List ℕ) → flag_at (flag_octet flag ∷ rest) ≡ Ok (flag, rest)
flag_again false rest = refl
flag_again true rest = refl

flag_is : (octets : List ℕ) (x : Bool × List ℕ) → flag_at octets ≡ Ok x
    → octets ≡ flag_octet x.0 ∷ x.1
flag_is [] x e = absurd cc
flag_is (zero ∷ rest) x e =
    ap (λ (p : Bool × List ℕ). flag_octet p.0 ∷ p.1) (ok_is (false, rest) x e)
flag_is (suc zero ∷ rest) x e =
    ap (λ (p : Bool × List ℕ). flag_octet p.0 ∷ p.1) (ok_is (true, rest) x e)
flag_is (suc (suc n) ∷ rest) x e = absurd cc

pub octet_read : IsReadAs (λ n. n < 2 ^ 8) (λ n. n ∷ []) octet_at
octet_read = read_as (λ n rest is. refl) octet_below octet_within

pub two_read : IsReadAs (λ n. n < 2 ^ 16) two_octets two_at
two_read = read_as (λ n rest is. two_again n rest) two_is two_within

pub four_read : IsReadAs (λ n. n < 2 ^ 32) four_octets four_at
four_read = read_as (λ n rest is. four_again n rest)
    (λ octets x bytes e. (four_is octets x bytes e, four_below octets x bytes e)) four_within

pub flag_read : IsReadAs (λ flag. ⊤) (λ flag. flag_octet flag ∷ []) flag_at
flag_read =
    read_as (λ flag rest is. flag_again flag rest) (λ octets x bytes e. (flag_is octets x e, tt))
    flag_within

pub name_read : IsReadAs IsName wire name_at
name_read = read_as (λ name rest is. name_again name rest is) name_stands name_within

pub base_fields_are_read : BaseFieldsAreRead
base_fields_are_read =
    record {
      octets = octet_read;
      twos = two_read;
      fours = four_read;
      flags = flag_read;
      names =
          name_read;
    }
