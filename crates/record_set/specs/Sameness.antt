-- When two sets are equal: all fields are, the values in any order.
use Rattle.std.specs.Prelude.{◌≡◌, ℕ, ◌+◌, List, [], ◌∷◌, Bool, ◌&&◌, ◌==◌, if◌then◌else◌}
use Rattle.std.specs.Str.{bytes_eq}
use Rattle.rdata.specs.Datum.{Datum}
use Rattle.rdata.specs.Types.{number_of}
use Rattle.record_set.specs.declared.sets.RecordSet.{RecordSet}
use Rattle.record_set.specs.declared.sets.Body.{Body}
use Rattle.record_set.specs.declared.sets.Body.TheVariants as body

-- whether two values are one
abbrev pub is_datum : Datum → Datum → Bool
is_datum datum other = number_of datum.rtype == number_of other.rtype && bytes_eq datum.wire other.wire

abbrev pub once : Datum → Datum → ℕ
once datum value = if is_datum datum value then 1 else 0

-- how often a value stands in a list
abbrev pub times : Datum → List Datum → ℕ
times datum [] = 0
times datum (value ∷ values) = once datum value + times datum values

-- each value stands as often in the one list as in the other
abbrev pub SameValues : (values others : List Datum) → Type 0
SameValues values others = (datum : Datum) → times datum values ≡ times datum others

abbrev pub SameBody : Body → Body → Type 0
SameBody (body.Values ttl values) (body.Values other_ttl others) = (ttl ≡ other_ttl) × SameValues values others
SameBody (body.Alias target evaluate) (body.Alias other_target other_evaluate) = (target ≡ other_target) × (evaluate ≡ other_evaluate)
SameBody (body.Values ttl values) (body.Alias target evaluate) = ⊥
SameBody (body.Alias target evaluate) (body.Values ttl values) = ⊥

pub record Same (set other : RecordSet) : Type 0 where
  pub name : set.name ≡ other.name
  pub rtype : set.rtype ≡ other.rtype
  pub routing : set.routing ≡ other.routing
  pub body : SameBody set.body other.body
  pub check : set.check ≡ other.check
