-- Values that are counted, and octets that are enough for so many.
use Rattle.std.proofs.Common.{◌≡◌, ℕ, ◌+◌, ◌*◌, ◌<◌, ◌≤◌, List, [], ◌∷◌, length-append, length, take, get_or, ap, arith}
use Rattle.std.specs.List.{flat_map}
use Rattle.std.proofs.lemmas.List.Folds.{length-flat_map-take}
use Rattle.record_set.specs.Datum.{Datum}
use Rattle.record_set.specs.declared.sets.Body.{Body}
use Rattle.record_set.specs.declared.sets.Body.TheVariants as body
use Rattle.set_octets.specs.Octets.{value_octets, body_octets, most_octets}

-- the values that were counted and the next are more than there is room for
pub too_many : (values : List Datum) (i : ℕ) (item : Datum) (room left : ℕ) → i < length values
    → item ≡ get_or values i item
    → left + length (flat_map value_octets (take i values)) ≡ room
    → left < length (value_octets item) → room < length (flat_map value_octets values)
too_many values i item room left lt is counted small =
    let most = length-flat_map-take value_octets values i item lt in
    let same = ap (λ (d : Datum). length (value_octets d)) is in
    omega (arith, most, same, counted, small)

-- each value has two octets at least
pub two_each : (values : List Datum) → 2 * length values ≤ length (flat_map value_octets values)
two_each [] = omega arith
two_each (value ∷ rest) =
    let later = two_each rest in
    omega (arith, later, length-append (value_octets value) (flat_map value_octets rest))

-- so a body that is short enough has no more values than there are numbers for
pub few : (what : Body) (ttl : ℕ) (values : List Datum) → what ≡ body.Values ttl values
    → length (body_octets what) ≤ most_octets → length values ≤ 32768
few what ttl values is short = let each = two_each values in
    omega (arith, each, short, ap (λ b. length (body_octets b)) is)
