-- Sets of which several reasons hold, by hand: the first in order is told.
use Rattle.std.proofs.Common.{ℕ, List, [], ◌∷◌, ◌⊎◌, ◌≢◌, Some, None, false, refl, arith, inl, inr}
use Rattle.rdata.specs.Datum.{Datum}
use Rattle.rdata.specs.RTypeRecord.{RType}
use Rattle.rdata.specs.RTypeRecord.TheVariants as rtype
use Rattle.routing.specs.declared.policies.Routing.{Routing}
use Rattle.routing.specs.declared.policies.Routing.TheVariants as routing
use Rattle.record_set.specs.declared.sets.RecordSet.{RecordSet}
use Rattle.record_set.specs.declared.sets.Body.{Body}
use Rattle.record_set.specs.declared.sets.Body.TheVariants as body
use Rattle.record_set.specs.declared.reasons.Reason.TheVariants as reason
use Rattle.record_set.specs.Reasons.{AnswersSeveral, HasOneValue, IsAlias, IsFirst, IsOfZone, RoutesZone}

-- `x`, the zone's apex; `a.x`; `*.x`
abbrev apex : List (List ℕ)
apex = (0x78 ∷ []) ∷ []

abbrev below : List (List ℕ)
below = (0x61 ∷ []) ∷ apex

abbrev star : List (List ℕ)
star = (0x2A ∷ []) ∷ apex

abbrev set_of : (name : List (List ℕ)) → RType → Routing → Body → RecordSet
set_of name kind policy what = record {
  name = name;
  rtype = kind;
  routing = policy;
  body = what;
  check = None;
}

-- the value `x`, a name on the wire, and the address 192.0.2.1
abbrev to_apex : RType → Datum
to_apex kind = record { rtype = kind; wire = 1 ∷ 0x78 ∷ 0 ∷ [] }

abbrev address : Datum
address = record { rtype = rtype.A; wire = 192 ∷ 0 ∷ 2 ∷ 1 ∷ [] }

abbrev alias : Body
alias = body.Alias apex false

-- a type that is none of the zone's, and has more than one value
none_of_zone : IsOfZone rtype.A → ⊥
none_of_zone (inl ns) = absurd cc
none_of_zone (inr soa) = absurd cc

none_of_one : HasOneValue rtype.A → ⊥
none_of_one (inl cname) = absurd cc
none_of_one (inr soa) = absurd cc

ns_has_many : HasOneValue rtype.Ns → ⊥
ns_has_many (inl cname) = absurd cc
ns_has_many (inr soa) = absurd cc

-- a simple set of one address breaks nothing
abbrev plain_set : RecordSet
plain_set = set_of below rtype.A routing.Simple (body.Values 300 (address ∷ []))

plain_allowed : RoutesZone plain_set ⊎ AnswersSeveral plain_set → ⊥
plain_allowed (inl zone) = none_of_zone zone.0
plain_allowed (inr several) = several.0

pub plain : IsFirst None plain_set apex
plain = (
  (λ none. absurd cc),
  (
    (λ more. omega (arith, more)),
    (
      (λ repeated. omega (arith, repeated.apart, repeated.within)),
      (
        (λ one. none_of_one one.0),
        (
          (λ soa. (let is = soa.0 in absurd cc)),
          (
            plain_allowed,
            ((λ ns. (let is = ns.0 in absurd cc)), tt),
          ),
        ),
      ),
    ),
  ),
)

-- an SOA below the apex without values: that it has none
pub no_values :
    IsFirst (Some reason.NoValues) (set_of below rtype.Soa routing.Simple (body.Values 300 [])) apex
no_values = (refl, tt)

-- a CNAME with one value twice: that it is repeated, before that it is one too many
pub repeated :
    IsFirst (Some reason.RepeatedValue)
    (set_of below rtype.Cname routing.Simple
    (body.Values 300 (to_apex rtype.Cname ∷ to_apex rtype.Cname ∷ []))) apex
repeated = (
  record { first = 0; second = 1; apart = omega (arith); within = omega (arith); equal = refl },
  (
    (λ none. absurd cc),
    ((λ more. omega (arith, more)), tt),
  ),
)

-- an SOA below the apex that is an alias: where it stands, before that it is an alias
pub not_at_apex : IsFirst (Some reason.SoaNotAtApex) (set_of below rtype.Soa routing.Simple alias) apex
not_at_apex = (
  (refl, λ at. absurd cc),
  (
    (λ none. none),
    (
      (λ more. more),
      (
        (λ twice. twice),
        ((λ one. one.1), tt),
      ),
    ),
  ),
)

-- NS of `*.x` as an alias: the alias, before the name
pub not_allowed :
    IsFirst (Some reason.PolicyNotAllowed) (set_of star rtype.Ns routing.Simple alias) apex
not_allowed = (
  inl (inl refl, inr tt),
  (
    (λ none. none),
    (
      (λ more. more),
      (
        (λ twice. twice),
        (
          (λ one. one.1),
          ((λ soa. (let is = soa.0 in absurd cc)), tt),
        ),
      ),
    ),
  ),
)

-- NS of `*.x` with one value
abbrev star_set : RecordSet
star_set = set_of star rtype.Ns routing.Simple (body.Values 300 (to_apex rtype.Ns ∷ []))

routed : (routing.Simple ≢ routing.Simple) ⊎ IsAlias (body.Values 300 (to_apex rtype.Ns ∷ [])) → ⊥
routed (inl policy) = policy refl
routed (inr aliased) = aliased

star_allowed : RoutesZone star_set ⊎ AnswersSeveral star_set → ⊥
star_allowed (inl zone) = routed zone.1
star_allowed (inr several) = several.0

pub of_every_name : IsFirst (Some reason.WildcardNs) star_set apex
of_every_name = (
  (refl, (apex, refl)),
  (
    (λ none. absurd cc),
    (
      (λ more. omega (arith, more)),
      (
        (λ twice. omega (arith, twice.apart, twice.within)),
        (
          (λ one. ns_has_many one.0),
          (
            (λ soa. (let is = soa.0 in absurd cc)),
            (star_allowed, tt),
          ),
        ),
      ),
    ),
  ),
)
