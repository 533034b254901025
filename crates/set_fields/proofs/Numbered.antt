-- Numbers that stand for something.
use Rattle.std.proofs.Common.{◌≡◌, ℕ, ◌<◌, ◌^◌, [], ◌∷◌, arith, ap, ◌∙◌, sym, refl, Option, None, Some}
use Rattle.std.specs.Prelude.{◌≢◌, IfSome, IfNone, nat_lt, ⊤}
use Rattle.std.proofs.lemmas.Bool.{ltb-true, lt-ltb}
use Rattle.octets.specs.Numbers.{two_octets, four_octets}
use Rattle.octet_reading.specs.Rules.{IsReadAs}
use Rattle.octet_reading.proofs.Base.{octet_read, two_read, four_read}
use Rattle.octet_reading.proofs.Composed.{tested_read}
use Rattle.octet_reading.proofs.Optional.{meaning_read, numbered_is}
use Rattle.octet_reading.proofs.Rules.{alike}
use Rattle.octet_reading.specs.RTypeRecord.{RType}
use Rattle.octet_reading.specs.RTypeRecord.TheVariants as rtype
use Rattle.octet_reading.specs.Types.{number_of}
use Rattle.set_octets.specs.ContinentRecord.{Continent}
use Rattle.set_octets.specs.ContinentRecord.TheVariants as continent
use Rattle.set_octets.specs.RoleRecord.{Role}
use Rattle.set_octets.specs.RoleRecord.TheVariants as role
use Rattle.set_octets.specs.Octets.{continent_number, role_number}
use Rattle.set_fields.specs.Numbers.{types, type_of_number, type_at, continents, continent_of_number, continent_at, roles, role_of_number, role_at, ttl_at}

type_again : (type : RType) → (type_of_number (number_of type) ≡ Some type) × (number_of type < 2 ^ 16)
unfolding type_of_number
type_again rtype.A = (refl, omega arith)
type_again rtype.Ns = (refl, omega arith)
type_again rtype.Cname = (refl, omega arith)
type_again rtype.Soa = (refl, omega arith)
type_again rtype.Ptr = (refl, omega arith)
type_again rtype.Mx = (refl, omega arith)
type_again rtype.Txt = (refl, omega arith)
type_again rtype.Aaaa = (refl, omega arith)
type_again rtype.Srv = (refl, omega arith)
type_again rtype.Spf = (refl, omega arith)
type_again rtype.Caa = (refl, omega arith)

type_is : (n : ℕ) (type : RType) → type_of_number n ≡ Some type → number_of type ≡ n
unfolding type_of_number
type_is n type e = numbered_is number_of types n type e

no_type : (n : ℕ) (found : Option RType) → type_of_number n ≡ found → ((type : RType) → number_of type ≢ n)
    → None ≡ type_of_number n
no_type n None e none = sym e
no_type n (Some type) e none = absurd (none type (type_is n type e))

pub type_found : (n : ℕ) (found : Option RType) → IfSome found (λ type. number_of type ≡ n)
    → IfNone found ((type : RType) → number_of type ≢ n) → found ≡ type_of_number n
type_found n (Some type) some none = sym (ap type_of_number (sym some) ∙ (type_again type).0)
type_found n None some none = no_type n (type_of_number n) refl none

continent_again : (where_to : Continent)
    → (continent_of_number (continent_number where_to) ≡ Some where_to)
    × (continent_number where_to < 2 ^ 8)
continent_again continent.Af = (refl, omega arith)
continent_again continent.An = (refl, omega arith)
continent_again continent.As = (refl, omega arith)
continent_again continent.Eu = (refl, omega arith)
continent_again continent.Na = (refl, omega arith)
continent_again continent.Oc = (refl, omega arith)
continent_again continent.Sa = (refl, omega arith)

role_again : (part : Role) → (role_of_number (role_number part) ≡ Some part) × (role_number part < 2 ^ 8)
role_again role.Primary = (refl, omega arith)
role_again role.Secondary = (refl, omega arith)

pub type_read : IsReadAs (λ type. ⊤) (λ type. two_octets (number_of type)) type_at
unfolding type_at
type_read = alike (meaning_read number_of type_of_number two_read (λ type. (type_again type).0) type_is)
    (λ type is. (tt, refl)) (λ type is. (type_again type).1)

pub continent_read : IsReadAs (λ where_to. ⊤) (λ where_to. continent_number where_to ∷ [])
    continent_at
unfolding continent_at
continent_read =
    alike (meaning_read continent_number continent_of_number octet_read (λ x. (continent_again x).0)
    (numbered_is continent_number continents))
    (λ where_to is. (tt, refl)) (λ where_to is. (continent_again where_to).1)

pub role_read : IsReadAs (λ part. ⊤) (λ part. role_number part ∷ []) role_at
unfolding role_at
role_read =
    alike (meaning_read role_number role_of_number octet_read (λ x. (role_again x).0)
    (numbered_is role_number roles))
    (λ part is. (tt, refl)) (λ part is. (role_again part).1)

pub ttl_read : IsReadAs (λ ttl. ttl < 2 ^ 31) four_octets ttl_at
unfolding ttl_at
ttl_read = alike (tested_read (λ ttl. nat_lt ttl (2 ^ 31)) four_read)
    (λ ttl is. (ltb-true ttl (2 ^ 31) is.1, refl))
    (λ ttl below. (omega (arith, below), lt-ltb ttl (2 ^ 31) below))
