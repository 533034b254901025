-- What is read of the set that is held.
use Rattle.std.proofs.Common.{◌≡◌, ◌<◌, ℕ, List, [], ◌∷◌, Option, Some, None, length}
use Rattle.std.proofs.Common.{refl, sym, subst, arith}
use Rattle.std.specs.Prelude.{map, IfSome}
use Rattle.record_set.specs.Datum.{Datum}
use Rattle.record_set.specs.declared.sets.Body.{Body}
use Rattle.record_set.specs.declared.sets.Body.TheVariants as body
use Rattle.record_set.specs.declared.sets.RecordSet.{RecordSet}
use Rattle.policy_select.specs.Bodies as held
use Rattle.policy_select.specs.Holding.{HasValue, IsHolding}
use Rattle.policy_select.specs.Records.{data_of, ttl_of}

-- what is said of the held set is said of this one
pub of_held : {X : Type 0} (P : X → Type 0) (o : Option X) (x : X) → o ≡ Some x → IfSome o P → P x
of_held {X} P o x e said = subst (λ (p : Option X). IfSome p P) e said

pub its_data : (b : Body) → held.wires_of b ≡ data_of b
its_data (body.Values ttl values) = refl
its_data (body.Alias target evaluate) = refl

pub its_ttl : (b : Body) → held.ttl_of b ≡ ttl_of b
its_ttl (body.Values ttl values) = refl
its_ttl (body.Alias target evaluate) = refl

pub as_many_data : (b : Body) → length (held.values_of b) ≡ length (data_of b)
as_many_data (body.Values ttl values) = as_long values
  where
    as_long : (vs : List Datum) → length vs ≡ length (map (λ (v : Datum). v.wire) vs)
    as_long [] = refl
    as_long (v ∷ vs) = (let e = as_long vs in omega (arith, e))
as_many_data (body.Alias target evaluate) = refl

pub has_place : (o : Option RecordSet) (n i : ℕ) → IfSome o (λ set. n ≡ length (held.values_of set.body))
    → IsHolding o → i < n → HasValue o i
has_place None n i counted holding lt = absurd holding
has_place (Some set) n i counted holding lt = omega (arith, counted, lt)

pub is_holding : (o : Option RecordSet) (set : RecordSet) → o ≡ Some set → IsHolding o
is_holding o set e = subst IsHolding (sym e) tt

-- a value that stands in a list of data
pub in_range : (b : Body) (i : ℕ) → i < length (data_of b) → i < length (held.values_of b)
in_range b i lt = (let e = as_many_data b in omega (arith, e, lt))

-- where a value is held a set is
pub set_of_value : (o : Option RecordSet) (i : ℕ) → HasValue o i → (set : RecordSet) × (o ≡ Some set)
set_of_value None i has = absurd has
set_of_value (Some set) i has = (set, refl)

pub set_of_held : (o : Option RecordSet) → IsHolding o → (set : RecordSet) × (o ≡ Some set)
set_of_held None holding = absurd holding
set_of_held (Some set) holding = (set, refl)
